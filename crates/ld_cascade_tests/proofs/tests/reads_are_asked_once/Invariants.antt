use Rattle.ld_cascade_tests.proofs.tests.reads_are_asked_once.Given as goal

abbrev pub ghosts-judgements_of_touched : goal.ghosts-judgements_of_touched
ghosts-judgements_of_touched g a = record { name = a.blank.name; parts = a.blank.parts }
