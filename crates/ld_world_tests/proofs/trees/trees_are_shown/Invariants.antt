use Rattle.ld_world_tests.proofs.trees.trees_are_shown.Given as goal

abbrev pub ghosts-show : goal.ghosts-show
ghosts-show a = record { name = a.blank.name; parts = a.blank.parts }
