use Rattle.ld_runs_tests.proofs.rules.rules_are_judged.Given as goal

abbrev pub ghosts-judge_all : goal.ghosts-judge_all
ghosts-judge_all g a = record { name = a.blank.name; parts = a.blank.parts }
