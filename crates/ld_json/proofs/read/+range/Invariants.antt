use Rattle.std.proofs.Common.{◌≡◌, drop}
use Rattle.json.specs.Value.{items_view, members_view}
use Rattle.ld_json.specs.Trees.{are_in_range, have_range}
use Rattle.ld_json.proofs.read.+range.Given as goal

abbrev pub invariant-are_in_range-loop-element : goal.invariant-are_in_range-loop-element
invariant-are_in_range-loop-element l = are_in_range (items_view l.fn.elements) ≡ are_in_range (items_view (drop l.element-index l.fn.elements))

abbrev pub invariant-have_range-loop-member : goal.invariant-have_range-loop-member
invariant-have_range-loop-member l = have_range (members_view l.fn.members) ≡ have_range (members_view (drop l.member-index l.fn.members))
