use Rattle.ld_cascade_tests.proofs.tests.each_changed_slot_is_told.Given as goal

abbrev pub ghosts-settle_and_tell : goal.ghosts-settle_and_tell
ghosts-settle_and_tell g a = record { name = a.blank.name; parts = a.blank.parts }
