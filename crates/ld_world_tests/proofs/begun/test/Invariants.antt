use Rattle.ld_world_tests.proofs.begun.test.Given as goal

abbrev pub ghosts-test_unit : goal.ghosts-test_unit
ghosts-test_unit a = record { name = a.blank.name; parts = a.blank.parts }
