use Rattle.ld_structures_tests.proofs.globals.uris_in_any_order.Given as goal

abbrev pub ghosts-in_any_order : goal.ghosts-in_any_order
ghosts-in_any_order a = record { name = a.blank.name; parts = a.blank.parts }
