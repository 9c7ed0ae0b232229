-- What stands in the terms and tests of the documents, in document order.
use Rattle.std.specs.Prelude.{ℕ, ◌+◌, List, [], ◌∷◌, ◌++◌, Bool, true, false, not, ◌||◌, codes, if◌then◌else◌}
use Rattle.ld_model.specs.Expressions.{ListOperator, adding, multiplying, PairOperator, subtracting, dividing, Comparison, equal, different, greater, less, TermOf, TermsOf, property_term, literal_term, list_term, pair_term, now_term, opened_term, started_term, no_term, term_and, TestOf, TestsOf, compare_test, all_test, any_test, not_test, no_value_test, member_test, users_test, done_test, no_test, test_and}
use Rattle.ld_model.specs.declared.unit.Level.TheVariants.{A}
use Rattle.ld_walk.specs.declared.kind.Wanted.{Wanted}
use Rattle.ld_walk.specs.declared.kind.Wanted.TheVariants as wanted
use Rattle.ld_walk.specs.Parts.{What, Refers, Leaf, LeftOut, Part}
use Rattle.ld_walk.specs.Places.{At, member, item_at, nth}

-- ---- the names of operators

-- The member at which the terms of a sum or of a product stand.
abbrev pub list_operator_word : ListOperator → List ℕ
list_operator_word adding = codes "sum"
list_operator_word multiplying = codes "multiply"

-- The member at which the two terms of a difference or of a quotient stand.
abbrev pub pair_operator_word : PairOperator → List ℕ
pair_operator_word subtracting = codes "subtract"
pair_operator_word dividing = codes "divide"

-- The member at which two terms that are compared so stand.
abbrev pub comparison_word : Comparison → List ℕ
comparison_word equal = codes "is"
comparison_word different = codes "is-not"
comparison_word greater = codes "greater-than"
comparison_word less = codes "less-than"

-- ---- the moment of the command

-- The term looks at the moment of the command.
abbrev mutual
  pub reads_clock : TermOf → Bool
  reads_clock (property_term _) = false
  reads_clock (literal_term _ _) = false
  reads_clock (list_term _ terms) = any_reads_clock terms
  reads_clock (pair_term _ a b) = reads_clock a || reads_clock b
  reads_clock now_term = true
  reads_clock (opened_term _) = false
  reads_clock started_term = false

  pub any_reads_clock : TermsOf → Bool
  any_reads_clock no_term = false
  any_reads_clock (term_and term terms) = reads_clock term || any_reads_clock terms

-- ---- terms

-- What stands at the place, at every level.
abbrev pub plain_part : At → What → Part
plain_part at what = record { at = at; level = A; what = what }

-- A leaf, and what it refers to.
abbrev pub leaf_parts : At → Bool → List ℕ → Wanted → List ℕ → List Part
leaf_parts at of_members name wanted id = plain_part at (Leaf of_members) ∷ plain_part (member at name) (Refers wanted id) ∷ []

-- The moment of the command is left out but where it is compared with what doesn't look at it.
abbrev pub clock_parts : At → Bool → Bool → List Part
clock_parts at of_members true = plain_part at (Leaf of_members) ∷ []
clock_parts at of_members false = plain_part at (Leaf of_members) ∷ plain_part at LeftOut ∷ []

-- A term at the place: whether it is asked of each member of a role, and whether it may be the moment of
-- the command.
abbrev mutual
  pub term_parts : At → Bool → Bool → TermOf → List Part
  term_parts at of_members clock (property_term id) = leaf_parts at of_members (codes "property") wanted.Property id
  term_parts at of_members clock (literal_term _ _) = plain_part at (Leaf of_members) ∷ []
  term_parts at of_members clock (list_term operator terms) = terms_parts (member at (list_operator_word operator)) of_members 0 terms
  term_parts at of_members clock (pair_term operator a b) = term_parts (nth at (pair_operator_word operator) 0) of_members false a ++ term_parts (nth at (pair_operator_word operator) 1) of_members false b
  term_parts at of_members clock now_term = clock_parts at of_members clock
  term_parts at of_members clock (opened_term id) = leaf_parts at of_members (codes "datetime-activity-started") wanted.Activity id
  term_parts at of_members clock started_term = plain_part at (Leaf of_members) ∷ []

  -- The terms of a list, the first of which has this number.
  pub terms_parts : At → Bool → ℕ → TermsOf → List Part
  terms_parts at of_members n no_term = []
  terms_parts at of_members n (term_and term terms) = term_parts (item_at at n) of_members false term ++ terms_parts at of_members (n + 1) terms

-- ---- tests

-- The members of a role are not asked within what is asked of each member of a role.
abbrev pub within_members : At → Bool → List Part
within_members at of_members = if of_members then plain_part at LeftOut ∷ [] else []

-- A test at the place, and whether it is asked of each member of a role.
abbrev mutual
  pub test_parts : At → Bool → TestOf → List Part
  test_parts at of_members (compare_test comparison a b) =
      term_parts (nth at (comparison_word comparison) 0) of_members (not (reads_clock b)) a
      ++ term_parts (nth at (comparison_word comparison) 1) of_members (not (reads_clock a)) b
  test_parts at of_members (all_test tests) = tests_parts (member at (codes "and")) of_members 0 tests
  test_parts at of_members (any_test tests) = tests_parts (member at (codes "or")) of_members 0 tests
  test_parts at of_members (not_test test) = test_parts (member at (codes "not")) of_members test
  test_parts at of_members (no_value_test property) = leaf_parts at of_members (codes "no-value") wanted.Property property
  test_parts at of_members (member_test role) = leaf_parts at of_members (codes "is-member-of-role") wanted.Role role
  test_parts at of_members (users_test role test) =
      within_members at of_members
      ++ plain_part (member (member at (codes "users-in-role")) (codes "role")) (Refers wanted.Role role)
      ∷ test_parts (member (member at (codes "users-in-role")) (codes "expression")) true test
  test_parts at of_members (done_test thing) = leaf_parts at of_members (codes "complete") wanted.Completable thing

  -- The tests of a list, the first of which has this number.
  pub tests_parts : At → Bool → ℕ → TestsOf → List Part
  tests_parts at of_members n no_test = []
  tests_parts at of_members n (test_and test tests) = test_parts (item_at at n) of_members test ++ tests_parts at of_members (n + 1) tests
