use Rattle.ld_generator_tests.proofs.lines.printed.Given as goal

abbrev pub ghosts-printed_from : goal.ghosts-printed_from
ghosts-printed_from a = record { name = a.blank.name; parts = a.blank.parts }
