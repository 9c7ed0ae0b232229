-- What is wrong with the types of terms and tests. An object's own fault comes before those of its parts,
-- and an operation is judged only where the types of its operands are known. (docs/FORMATS.md, "Types")
use Rattle.std.specs.Prelude.{ℕ, ◌+◌, List, [], ◌++◌, Option, Some, None, is_none, Bool, false, ◌&&◌, not, codes}
use Rattle.ld_json.specs.declared.code.Code.TheVariants.{BadType}
use Rattle.ld_json.specs.Fault.{Told}
use Rattle.ld_model.specs.Expressions.{ListOperator, PairOperator, Comparison, equal, different, greater, less, TermOf, TermsOf, property_term, literal_term, list_term, pair_term, now_term, opened_term, started_term, no_term, term_and, TestOf, TestsOf, compare_test, all_test, any_test, not_test, no_value_test, member_test, users_test, done_test, no_test, test_and}
use Rattle.ld_value.specs.declared.kind.Kind.{Kind}
use Rattle.ld_value.specs.declared.kind.Kind.TheVariants as kind
use Rattle.ld_value.specs.Values.{value_of}
use Rattle.ld_walk.specs.ExpressionParts.{list_operator_word, pair_operator_word, comparison_word}
use Rattle.ld_walk.specs.Places.{At, member, item_at, nth}
use Rattle.ld_types.specs.declared.types.ValueType.{ValueType}
use Rattle.ld_types.specs.Faults.{fault_if}
use Rattle.ld_types.specs.Types.{Find, list_type, pair_type, same_type, is_ordered, is_person's, term_type, term_types}

-- The text is no value of the datatype.
abbrev pub is_no_value : Kind → List ℕ → Bool
is_no_value kind text = is_none (value_of kind text)

-- The member that holds the text of a literal.
abbrev pub literal_word : Kind → List ℕ
literal_word kind.String = codes "text"
literal_word kind.Text = codes "text"
literal_word kind.Uri = codes "text"
literal_word kind.Boolean = codes "boolean"
literal_word kind.Integer = codes "integer"
literal_word kind.Datetime = codes "datetime"
literal_word kind.Duration = codes "duration"

-- No sum or product of operands of these types is in the table.
abbrev pub is_no_list : ListOperator → Option (List ValueType) → Bool
is_no_list operator None = false
is_no_list operator (Some types) = is_none (list_type operator types)

-- No difference or quotient of operands of these types is in the table.
abbrev pub is_no_pair : PairOperator → Option ValueType → Option ValueType → Bool
is_no_pair operator (Some a) (Some b) = is_none (pair_type operator a b)
is_no_pair operator _ _ = false

-- The faults of a term at the place, in a place of the run as a whole or of a person.
abbrev mutual
  pub term_faults : Find → Bool → At → TermOf → List Told
  term_faults find of_run at (property_term id) = fault_if (of_run && is_person's (find id)) BadType (member at (codes "property"))
  term_faults find of_run at (literal_term kind text) = fault_if (is_no_value kind text) BadType (member at (literal_word kind))
  term_faults find of_run at (list_term operator terms) =
      fault_if (is_no_list operator (term_types find terms)) BadType at
      ++ terms_faults find of_run (member at (list_operator_word operator)) 0 terms
  term_faults find of_run at (pair_term operator a b) =
      fault_if (is_no_pair operator (term_type find a) (term_type find b)) BadType at
      ++ (term_faults find of_run (nth at (pair_operator_word operator) 0) a
      ++ term_faults find of_run (nth at (pair_operator_word operator) 1) b)
  term_faults find of_run at now_term = []
  term_faults find of_run at (opened_term activity) = fault_if of_run BadType at
  term_faults find of_run at started_term = []

  -- The faults of the terms of a list, the first of which has this number.
  pub terms_faults : Find → Bool → At → ℕ → TermsOf → List Told
  terms_faults find of_run at n no_term = []
  terms_faults find of_run at n (term_and term terms) = term_faults find of_run (item_at at n) term ++ terms_faults find of_run at (n + 1) terms

-- ---- tests

-- Whether two values of these types can be compared so.
abbrev pub are_comparable : Comparison → ValueType → ValueType → Bool
are_comparable equal a b = same_type a b
are_comparable different a b = same_type a b
are_comparable greater a b = same_type a b && is_ordered a
are_comparable less a b = same_type a b && is_ordered a

-- The types of both terms are known, and their values cannot be compared so.
abbrev pub is_no_comparison : Comparison → Option ValueType → Option ValueType → Bool
is_no_comparison comparison (Some a) (Some b) = not (are_comparable comparison a b)
is_no_comparison comparison _ _ = false

-- The faults of a test at the place; each is asked of a person.
abbrev mutual
  pub test_faults : Find → At → TestOf → List Told
  test_faults find at (compare_test comparison a b) =
      fault_if (is_no_comparison comparison (term_type find a) (term_type find b)) BadType at
      ++ (term_faults find false (nth at (comparison_word comparison) 0) a
      ++ term_faults find false (nth at (comparison_word comparison) 1) b)
  test_faults find at (all_test tests) = tests_faults find (member at (codes "and")) 0 tests
  test_faults find at (any_test tests) = tests_faults find (member at (codes "or")) 0 tests
  test_faults find at (not_test test) = test_faults find (member at (codes "not")) test
  test_faults find at (no_value_test property) = []
  test_faults find at (member_test role) = []
  test_faults find at (users_test role test) = test_faults find (member (member at (codes "users-in-role")) (codes "expression")) test
  test_faults find at (done_test thing) = []

  -- The faults of the tests of a list, the first of which has this number.
  pub tests_faults : Find → At → ℕ → TestsOf → List Told
  tests_faults find at n no_test = []
  tests_faults find at n (test_and test tests) = test_faults find (item_at at n) test ++ tests_faults find at (n + 1) tests
