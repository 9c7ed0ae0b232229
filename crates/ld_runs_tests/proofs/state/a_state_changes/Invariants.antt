use Rattle.ld_runs_tests.proofs.state.a_state_changes.Given as goal

abbrev pub ghosts-change : goal.ghosts-change
ghosts-change a = record { name = a.blank.name; parts = a.blank.parts }
