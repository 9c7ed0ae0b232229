-- Trees of expressions are canonical.
use Rattle.std.specs.Prelude.{◌≡◌, ℕ, List, Some, [], ◌∷◌, length, true, nat_le, codes}
use Rattle.std.proofs.Common.{refl}
use Rattle.serde_json.specs.Data.{Data, boolean, string, array}
use Rattle.serde_json.specs.View.{items_of}
use Rattle.ld_base.specs.Identifier.{has_identifier_form}
use Rattle.ld_formats.specs.Terms.{is_formed_term, are_formed_terms}
use Rattle.ld_formats.specs.Tests.{is_formed_test, are_formed_tests}
use Rattle.ld_model.specs.Expressions.{ListOperator, adding, multiplying, PairOperator, subtracting, dividing, TermOf, TermsOf, property_term, literal_term, list_term, pair_term, now_term, opened_term, started_term, no_term, term_and, list_of_terms, Comparison, equal, different, greater, less, TestOf, TestsOf, compare_test, all_test, any_test, not_test, no_value_test, member_test, users_test, done_test, no_test, test_and, list_of_tests}
use Rattle.ld_value.proofs.Choices.{and_left, and_right}
use Rattle.ld_value.specs.declared.kind.Kind.{Kind}
use Rattle.ld_value.specs.declared.kind.Kind.TheVariants.{String, Text, Uri, Boolean, Integer, Datetime, Duration}
use Rattle.ld_canon.specs.Terms.{sole_tree, two_trees, literal_word, list_word, pair_word, term_tree, term_trees}
use Rattle.ld_canon.specs.Tests.{comparison_word, of_members_tree, test_tree, test_trees}
use Rattle.ld_prints.specs.Canonical.{is_plain, HasItem, IsCanonical, EachCanonical}
use Rattle.ld_prints.specs.CanonicalRows.{plain_holds, object_canonical}

-- ---- objects of one member, and arrays of two

-- An object of one member, of whose name nothing is asked.
pub sole_canonical : (name : List ℕ) (tree : Data) → is_plain name ≡ true → IsCanonical tree
    → IsCanonical (sole_tree name tree)
sole_canonical name tree plain is = (tt, (plain_holds name tree plain, (is, tt)))

two_canonical : (first second : Data) → IsCanonical first → IsCanonical second
    → IsCanonical (two_trees first second)
two_canonical first second here next = (tt, (here, (next, tt)))

-- ---- nothing is asked of the names

literal_plain : (kind : Kind) → is_plain (literal_word kind) ≡ true
literal_plain String = refl
literal_plain Text = refl
literal_plain Uri = refl
literal_plain Boolean = refl
literal_plain Integer = refl
literal_plain Datetime = refl
literal_plain Duration = refl

list_plain : (operator : ListOperator) → is_plain (list_word operator) ≡ true
list_plain adding = refl
list_plain multiplying = refl

pair_plain : (operator : PairOperator) → is_plain (pair_word operator) ≡ true
pair_plain subtracting = refl
pair_plain dividing = refl

comparison_plain : (comparison : Comparison) → is_plain (comparison_word comparison) ≡ true
comparison_plain equal = refl
comparison_plain different = refl
comparison_plain greater = refl
comparison_plain less = refl

-- ---- terms

have_terms : (terms : TermsOf) → nat_le 2 (length (list_of_terms terms)) ≡ true → HasItem (items_of (term_trees terms))
have_terms no_term is = cc
have_terms (term_and term terms) is = tt

mutual
  -- The tree of a term.
  pub term_canonical : (t : TermOf) → is_formed_term t ≡ true → IsCanonical (term_tree t)
  term_canonical (property_term id) is = sole_canonical (codes "property") (string id) refl tt
  term_canonical (literal_term kind text) is =
      sole_canonical (literal_word kind) (string text) (literal_plain kind) tt
  term_canonical (list_term operator terms) is =
      sole_canonical (list_word operator) (array (items_of (term_trees terms))) (list_plain operator) (
        have_terms terms (and_left (nat_le 2 (length (list_of_terms terms))) (are_formed_terms terms) is),
        terms_canonical terms (and_right (nat_le 2 (length (list_of_terms terms))) (are_formed_terms terms) is),
      )
  term_canonical (pair_term operator a b) is =
      sole_canonical (pair_word operator) (two_trees (term_tree a) (term_tree b)) (pair_plain operator)
      (two_canonical (term_tree a) (term_tree b)
      (term_canonical a (and_left (is_formed_term a) (is_formed_term b) is))
      (term_canonical b (and_right (is_formed_term a) (is_formed_term b) is)))
  term_canonical now_term is = sole_canonical (codes "current-datetime") (boolean true) refl tt
  term_canonical (opened_term id) is = sole_canonical (codes "datetime-activity-started") (string id) refl tt
  term_canonical started_term is =
      sole_canonical (codes "time-unit-of-learning-started") (boolean true) refl tt

  terms_canonical : (terms : TermsOf) → are_formed_terms terms ≡ true → EachCanonical (items_of (term_trees terms))
  terms_canonical no_term are = tt
  terms_canonical (term_and term terms) are = (
    term_canonical term (and_left (is_formed_term term) (are_formed_terms terms) are),
    terms_canonical terms (and_right (is_formed_term term) (are_formed_terms terms) are),
  )

-- ---- tests

-- A role, and what is tested of each of its members.
pub of_members_canonical : (role : List ℕ) (tree : Data) → IsCanonical tree → IsCanonical (of_members_tree role tree)
of_members_canonical role tree is =
    object_canonical ((codes "role", Some (string role)) ∷ (codes "expression", Some tree) ∷ [])
    ((plain_holds (codes "role") (string role) refl, tt), ((plain_holds (codes "expression") tree refl, is), tt))

have_tests : (tests : TestsOf) → nat_le 2 (length (list_of_tests tests)) ≡ true → HasItem (items_of (test_trees tests))
have_tests no_test is = cc
have_tests (test_and test tests) is = tt

mutual
  -- The tree of a test.
  pub test_canonical : (t : TestOf) → is_formed_test t ≡ true → IsCanonical (test_tree t)
  test_canonical (compare_test comparison a b) is =
      sole_canonical (comparison_word comparison) (two_trees (term_tree a) (term_tree b))
      (comparison_plain comparison)
      (two_canonical (term_tree a) (term_tree b)
      (term_canonical a (and_left (is_formed_term a) (is_formed_term b) is))
      (term_canonical b (and_right (is_formed_term a) (is_formed_term b) is)))
  test_canonical (all_test tests) is = sole_canonical (codes "and") (array (items_of (test_trees tests))) refl (
    have_tests tests (and_left (nat_le 2 (length (list_of_tests tests))) (are_formed_tests tests) is),
    tests_canonical tests (and_right (nat_le 2 (length (list_of_tests tests))) (are_formed_tests tests) is),
  )
  test_canonical (any_test tests) is = sole_canonical (codes "or") (array (items_of (test_trees tests))) refl (
    have_tests tests (and_left (nat_le 2 (length (list_of_tests tests))) (are_formed_tests tests) is),
    tests_canonical tests (and_right (nat_le 2 (length (list_of_tests tests))) (are_formed_tests tests) is),
  )
  test_canonical (not_test test) is = sole_canonical (codes "not") (test_tree test) refl (test_canonical test is)
  test_canonical (no_value_test property) is = sole_canonical (codes "no-value") (string property) refl tt
  test_canonical (member_test role) is = sole_canonical (codes "is-member-of-role") (string role) refl tt
  test_canonical (users_test role test) is =
      sole_canonical (codes "users-in-role") (of_members_tree role (test_tree test)) refl
      (of_members_canonical role (test_tree test)
      (test_canonical test (and_right (has_identifier_form role) (is_formed_test test) is)))
  test_canonical (done_test thing) is = sole_canonical (codes "complete") (string thing) refl tt

  tests_canonical : (tests : TestsOf) → are_formed_tests tests ≡ true → EachCanonical (items_of (test_trees tests))
  tests_canonical no_test are = tt
  tests_canonical (test_and test tests) are = (
    test_canonical test (and_left (is_formed_test test) (are_formed_tests tests) are),
    tests_canonical tests (and_right (is_formed_test test) (are_formed_tests tests) are),
  )
