use Rattle.ld_cascade_tests.proofs.tests.refused_settling_is_taken_back.Given as goal

abbrev pub ghosts-settle_again : goal.ghosts-settle_again
ghosts-settle_again g a = record { name = a.blank.name; parts = a.blank.parts }
