use Rattle.std.proofs.Common.{rules, ◌≡◌, true}
use Rattle.ld_structures_tests.proofs.graph.moves_to_slot_1.Goals as goal

pub relink-requires-2-clause-slots : goal.relink-requires-2-clause-slots
relink-requires-2-clause-slots c =
    let is : c.are_in_range.result ≡ true = search rules in
    c.are_in_range.ensures.slots is
