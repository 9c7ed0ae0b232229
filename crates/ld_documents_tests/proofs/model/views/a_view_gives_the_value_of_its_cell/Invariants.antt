use Rattle.ld_documents_tests.proofs.model.views.a_view_gives_the_value_of_its_cell.Given as goal

abbrev pub ghosts-has_number : goal.ghosts-has_number
ghosts-has_number g a = record { name = a.blank.name; parts = a.blank.parts }
