use Rattle.ld_runs_tests.proofs.expressions.terms_and_tests_are_worked_out.Given as goal

abbrev pub ghosts-work_out : goal.ghosts-work_out
ghosts-work_out g a = record { name = a.blank.name; parts = a.blank.parts }
