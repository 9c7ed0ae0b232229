-- Places as JSON pointers (RFC 6901), by serde_json's own definition of where a pointer leads.
use Rattle.std.specs.Prelude.{◌≡◌, Some}
use Rattle.serde_json.specs.Data.{Data}
use Rattle.serde_json.specs.Find.{pointer}
use Rattle.ld_json.specs.Node.{Placed}

-- In this whole document the node's place leads to the node's tree.
abbrev pub IsAt : Data → Placed → Type 0
IsAt whole node = pointer node.place whole ≡ Some node.tree
