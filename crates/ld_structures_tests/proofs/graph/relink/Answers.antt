use Rattle.std.proofs.Common.{rules, ◌≡◌, true}
use Rattle.ld_structures_tests.proofs.graph.relink.Goals as goal

pub relink-requires-clause-slots : goal.relink-requires-clause-slots
relink-requires-clause-slots c =
    let is : c.are_in_range.result ≡ true = search rules in
    c.are_in_range.ensures.slots is
