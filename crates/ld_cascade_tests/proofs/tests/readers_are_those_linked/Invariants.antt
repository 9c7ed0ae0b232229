use Rattle.ld_cascade_tests.proofs.tests.readers_are_those_linked.Given as goal

abbrev pub ghosts-count_readers : goal.ghosts-count_readers
ghosts-count_readers g a = record { name = a.blank.name; parts = a.blank.parts }
