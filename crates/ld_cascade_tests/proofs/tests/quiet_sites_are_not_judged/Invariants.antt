use Rattle.ld_cascade_tests.proofs.tests.quiet_sites_are_not_judged.Given as goal

abbrev pub ghosts-judgements : goal.ghosts-judgements
ghosts-judgements g a = record { name = a.blank.name; parts = a.blank.parts }
