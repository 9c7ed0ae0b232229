use Rattle.ld_cascade_tests.proofs.tests.both_settlings_give_the_same.Given as goal

abbrev pub ghosts-settle_lamps : goal.ghosts-settle_lamps
ghosts-settle_lamps g a = record { name = a.blank.name; parts = a.blank.parts }

abbrev pub ghosts-settle_lamps_plainly : goal.ghosts-settle_lamps_plainly
ghosts-settle_lamps_plainly g a = record { name = a.blank.name; parts = a.blank.parts }
