use Rattle.ld_structures_tests.proofs.cells.a_write_is_taken_back.Given as goal

abbrev pub ghosts-hold : goal.ghosts-hold
ghosts-hold _ a = record { name = a.blank.name; parts = a.blank.parts }
