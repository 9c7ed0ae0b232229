use Rattle.std.proofs.Common.{◌≡◌, None}
use Rattle.ld_structures_tests.proofs.cells.cells_agree_with_a_plain_list.Given as goal

abbrev pub ghosts-hold : goal.ghosts-hold
ghosts-hold _ a = record { name = a.blank.name; parts = a.blank.parts }

abbrev pub invariant-loop : goal.invariant-loop
invariant-loop g l = l.both.cells.kept ≡ None
