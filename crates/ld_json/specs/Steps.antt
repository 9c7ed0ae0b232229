-- How a node keeps its place: by the step that leads to it from the node above.
use Rattle.std.specs.Prelude.{ℕ, List, []}
use Rattle.ld_json.specs.Node.{Placed}
use Rattle.ld_json.specs.Trees.{seen_tree}
use Rattle.ld_json.specs.Places.{member_place, item_place}
use Rattle.ld_json.specs.declared.node.Node.TheInside.{Inside}
use Rattle.ld_json.specs.declared.node.Step.{Step}
use Rattle.ld_json.specs.declared.node.Step.TheVariants.{Whole, Member, Item}

-- The place to which the step leads.
abbrev pub place_of : Step → List ℕ
place_of Whole = []
place_of (Member parent name) = member_place parent.now.place name.now
place_of (Item parent index) = item_place parent.now.place index

-- What the fields of a node stand for.
abbrev pub placed_of : Inside → Placed
placed_of n = record { file = n.file; place = place_of n.step; tree = seen_tree n.tree }
