use Rattle.ld_structures_tests.proofs.cells.writes_and_cells_are_taken_back.Given as goal

abbrev pub ghosts-hold : goal.ghosts-hold
ghosts-hold _ a = record { name = a.blank.name; parts = a.blank.parts }
