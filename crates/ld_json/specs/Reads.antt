-- Which tree the bytes of a document are.
use Rattle.std.specs.Prelude.{◌≡◌, ℕ, List, Some}
use Rattle.std.specs.Str.{IsUtf8}
use Rattle.serde_json.specs.Data.{Data}
use Rattle.serde_json.specs.Read.{read}

-- serde_json reads this tree from the bytes, which are UTF-8.
abbrev pub Reads : List ℕ → Data → Type 0
Reads bytes tree = IsUtf8 bytes × (read bytes ≡ Some tree)
