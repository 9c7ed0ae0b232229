-- Terms, tests and roles within roles are what their steps make of themselves.
use Rattle.std.proofs.Common.{◌≡◌, [], nat_le, refl, codes}
use Rattle.ld_formats.specs.Roles.{creation, match_words, persons, told_members, role_rows, inner_step, inner_role}
use Rattle.ld_formats.specs.Terms.{sum, product, difference, quotient, sum_in, product_in, difference_in, quotient_in, these_terms, plain_term_cases, term_cases, term_step, term_formed, term_by, term}
use Rattle.ld_formats.specs.Tests.{all_in, any_in, not_in, users_in, these_tests, of_members, plain_test_cases, test_cases, test_step, test_formed, test_by, test}
use Rattle.ld_json.specs.Node.{Placed}
use Rattle.ld_model.specs.Expressions.{adding, multiplying, subtracting, dividing, list_term, pair_term, terms_from, all_test, any_test, not_test, users_test, tests_from}
use Rattle.ld_model.specs.declared.role.CreateNew.TheVariants.{NotAllowed}
use Rattle.ld_model.specs.declared.role.MatchPersons.TheVariants.{NotExclusively}
use Rattle.ld_model.specs.declared.role.RoleKind.{RoleKind}
use Rattle.ld_shape.proofs.Recursive.{IsLocal, IsLocalStep, AreLocal, formed_by_is, still_local, both_local, mapped_local, after_local, or_local, needed_local, member_local, list_local, pair_local, no_case_local, case_local, sole_local}
use Rattle.ld_shape.specs.Forms.{identifier, title}
use Rattle.ld_shape.specs.Lists.{list_of, pair_of}
use Rattle.ld_shape.specs.Objects.{◌and◌, needed, needed_in, optional_in, default_in, only_members}
use Rattle.ld_shape.specs.Reading.{both, mapped}
use Rattle.ld_shape.specs.Recursion.{shape_of}
use Rattle.ld_shape.specs.Soles.{sole}
use Rattle.ld_shape.specs.Words.{one_of}

-- ---- terms

terms_local : AreLocal term_cases
terms_local =
    case_local (codes "sum") sum sum_in these_terms (list_of 2) _
    (needed_local (codes "sum") (list_of 2) (list_local (nat_le 2)))
    (case_local (codes "multiply") product product_in
    these_terms (list_of 2) _ (needed_local (codes "multiply") (list_of 2) (list_local (nat_le 2)))
    (case_local (codes "subtract") difference difference_in (λ _. refl) pair_of _
    (needed_local (codes "subtract") pair_of pair_local)
    (case_local (codes "divide") quotient quotient_in (λ _. refl) pair_of _
    (needed_local (codes "divide") pair_of pair_local)
    (no_case_local plain_term_cases))))

-- A term is one of the cases, made of terms.
pub term_is : (node : Placed) → term.reading node ≡ (sole (term_cases term)).reading node
unfolding term_by
term_is node = formed_by_is term_step term_formed
    (λ s t node same. sole_local term_cases terms_local (shape_of s) (shape_of t) node same) node

-- ---- tests

of_members_local : IsLocalStep of_members
unfolding of_members
of_members_local =
    after_local (only_members (needed (codes "role") identifier and needed (codes "expression") identifier)) _
    (mapped_local (λ p. p) _
    (both_local _ _ (still_local (needed_in (codes "role") identifier).reading)
    (member_local (codes "expression"))))

tests_local : AreLocal test_cases
tests_local =
    case_local (codes "and") (λ tests. all_test (tests_from tests)) all_in these_tests (list_of 2) _
    (needed_local (codes "and") (list_of 2) (list_local (nat_le 2)))
    (case_local (codes "or") (λ tests. any_test (tests_from tests)) any_in these_tests (list_of 2) _
    (needed_local (codes "or") (list_of 2) (list_local (nat_le 2)))
    (case_local (codes "not") (λ test. not_test test) not_in (λ _. refl) (λ test. test) _
    (member_local (codes "not"))
    (case_local (codes "users-in-role") (λ p. users_test p.0 p.1) users_in (λ _. refl) of_members _
    (needed_local (codes "users-in-role") of_members of_members_local)
    (no_case_local plain_test_cases))))

-- A test is one of the cases, made of tests.
pub test_is : (node : Placed) → test.reading node ≡ (sole (test_cases test)).reading node
unfolding test_by
test_is node = formed_by_is test_step test_formed
    (λ s t node same. sole_local test_cases tests_local (shape_of s) (shape_of t) node same) node

-- ---- roles within roles

told_local : IsLocal (λ inner. (told_members inner).shape.reading)
unfolding told_members
told_local =
    both_local _ _ (still_local (optional_in (codes "title") title).reading)
    (both_local _ _ (still_local (default_in (codes "create-new") NotAllowed creation refl).reading)
    (both_local _ _ (still_local (default_in (codes "match-persons") NotExclusively
    (one_of match_words) refl).reading)
    (both_local _ _ (still_local (default_in (codes "min-persons") 0 persons refl).reading)
    (both_local _ _ (still_local (optional_in (codes "max-persons") persons).reading)
    (or_local (codes "roles") [] (list_of 0) (list_local (nat_le 0)))))))

-- A role within another is an object that holds such roles again.
pub inner_role_is : (kind : RoleKind) (node : Placed)
    → (inner_role kind).reading node ≡ (inner_step kind (inner_role kind)).reading node
unfolding inner_role told_members
inner_role_is kind node =
    formed_by_is (inner_step kind) (λ _ _ is. is)
    (λ s t node same. after_local (only_members
    (needed (codes "identifier") identifier and told_members (shape_of s)))
    (λ inner. λ node. mapped (λ p. role_rows kind p.0 p.1)
    (both ((needed_in (codes "identifier") identifier).reading node)
    ((told_members inner).shape.reading node)))
    (mapped_local (λ p. role_rows kind p.0 p.1) _
    (both_local _ _ (still_local (needed_in (codes "identifier") identifier).reading) told_local))
    (shape_of s) (shape_of t) node same)
    node
