use Rattle.ld_world_tests.proofs.telling.tell.Given as goal

abbrev pub ghosts-tell_both : goal.ghosts-tell_both
ghosts-tell_both a = record { name = a.blank.name; parts = a.blank.parts }
