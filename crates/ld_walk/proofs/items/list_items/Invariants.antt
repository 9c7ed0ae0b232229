use Rattle.std.proofs.Common.{◌≡◌, drop}
use Rattle.ld_model.specs.Counting.{each_numbered_from}
use Rattle.ld_walk.specs.CommonParts.{items_parts, item_parts}
use Rattle.ld_walk.specs.Walks.{added}
use Rattle.ld_walk.proofs.items.list_items.Given as goal

abbrev pub invariant-loop-i : goal.invariant-loop-i
invariant-loop-i l = added l.walk (each_numbered_from (item_parts l.fn.walk.at l.name) l.i (drop l.i l.items)) ≡ added l.fn.walk (items_parts l.fn.walk.at l.name l.items)
