use Rattle.ld_structures_tests.proofs.cells.one_undo_log_serves_two.Given as goal

abbrev pub ghosts-hold : goal.ghosts-hold
ghosts-hold _ a = record { name = a.blank.name; parts = a.blank.parts }
