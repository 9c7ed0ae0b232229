-- Between two moments of which both or neither has come to each switch, tests stay as they are.
use Rattle.std.proofs.Common.{◌≡◌, refl, sym, ap, ap₂, ◌∙◌, subst, ℕ, ℤ, List, flat_map, ◌⊎◌, inl, inr, Some, Bool, true, false, ◌&&◌, ◌||◌, not, is_none}
use Rattle.ld_value.specs.Datum.{moment_datum}
use Rattle.ld_value.proofs.Choices.{and_left, and_right}
use Rattle.ld_model.specs.Expressions.{TermOf, property_term, literal_term, list_term, pair_term, now_term, opened_term, started_term, TestOf, TestsOf, Comparison, compare_test, all_test, any_test, not_test, no_value_test, member_test, users_test, done_test, no_test, test_and}
use Rattle.ld_model.specs.declared.cell.Owner.{Owner}
use Rattle.ld_model.specs.declared.unit.Unit.{Unit}
use Rattle.ld_walk.specs.ExpressionParts.{reads_clock, any_reads_clock}
use Rattle.ld_expr.specs.Holding.{holds_in, all_hold, any_holds, both_compare}
use Rattle.ld_expr.specs.Membership.{members_of, some_and_each}
use Rattle.ld_expr.specs.Owners.{of_person}
use Rattle.ld_expr.specs.Seen.{Seen}
use Rattle.ld_expr.specs.Terms.{term_value}
use Rattle.ld_rules.proofs.Alike.{same_each}
use Rattle.ld_state.proofs.Elements.{in_flat_map}
use Rattle.ld_alarm.specs.SeenAt.{seen_at}
use Rattle.ld_alarm.proofs.Timely.{is_plain, is_timely, are_timely}
use Rattle.ld_alarm.specs.Switches.{is_clock, value_switches, compare_switches, test_switches, tests_switches}
use Rattle.ld_alarm.proofs.Comparing.{AreNotPassed, passed_left, passed_right, after_clock, before_clock}
use Rattle.ld_alarm.proofs.Unmoved.{unmoved_property, unmoved_term, unmoved_membership}

-- ---- sides of a comparison

from_not : (b : Bool) → not b ≡ true → b ≡ false
from_not false is = refl
from_not true is = absurd (cc)

-- A plain side is the moment of the command, where it may be, or it does not look at that.
pub clock_or_free : (clock : Bool) (term : TermOf) → is_plain clock term ≡ true
    → ((term ≡ now_term) × (clock ≡ true)) ⊎ (reads_clock term ≡ false)
clock_or_free clock now_term plain = inl (refl, plain)
clock_or_free clock (property_term id) plain = inr refl
clock_or_free clock (literal_term kind text) plain = inr refl
clock_or_free clock (list_term operator terms) plain = inr (from_not (any_reads_clock terms) plain)
clock_or_free clock (pair_term operator a b) plain = inr (from_not (reads_clock a || reads_clock b) plain)
clock_or_free clock (opened_term id) plain = inr refl
clock_or_free clock started_term plain = inr refl

free_is_no_clock : (term : TermOf) → reads_clock term ≡ false → is_clock term ≡ false
free_is_no_clock now_term free = free
free_is_no_clock (property_term id) free = refl
free_is_no_clock (literal_term kind text) free = refl
free_is_no_clock (list_term operator terms) free = refl
free_is_no_clock (pair_term operator a b) free = refl
free_is_no_clock (opened_term id) free = refl
free_is_no_clock started_term free = refl

module _ (unit : Unit) (seen : Seen) (s t : ℤ) where
  -- ---- comparisons

  clock_first : (comparison : Comparison) (owner : Owner) (b : TermOf) → reads_clock b ≡ false
      → AreNotPassed (value_switches (term_value unit seen owner b)) s t
      → holds_in unit (seen_at seen s) owner (compare_test comparison now_term b) ≡ holds_in unit (seen_at seen t) owner (compare_test comparison now_term b)
  clock_first comparison owner b free kept =
      ap (both_compare comparison (Some (moment_datum s))) (unmoved_term unit seen s owner b free)
      ∙ after_clock comparison (term_value unit seen owner b) s t kept
      ∙ ap (both_compare comparison (Some (moment_datum t))) (sym (unmoved_term unit seen t owner b free))

  clock_second : (comparison : Comparison) (owner : Owner) (a : TermOf) → reads_clock a ≡ false
      → AreNotPassed (value_switches (term_value unit seen owner a)) s t
      → holds_in unit (seen_at seen s) owner (compare_test comparison a now_term) ≡ holds_in unit (seen_at seen t) owner (compare_test comparison a now_term)
  clock_second comparison owner a free kept =
      ap (λ v. both_compare comparison v (Some (moment_datum s))) (unmoved_term unit seen s owner a free)
      ∙ before_clock comparison (term_value unit seen owner a) s t kept
      ∙ ap (λ v. both_compare comparison v (Some (moment_datum t))) (sym (unmoved_term unit seen t owner a free))

  no_clock : (comparison : Comparison) (owner : Owner) (a b : TermOf) → reads_clock a ≡ false → reads_clock b ≡ false
      → holds_in unit (seen_at seen s) owner (compare_test comparison a b) ≡ holds_in unit (seen_at seen t) owner (compare_test comparison a b)
  no_clock comparison owner a b free other =
      ap₂ (both_compare comparison)
      (unmoved_term unit seen s owner a free ∙ sym (unmoved_term unit seen t owner a free))
      (unmoved_term unit seen s owner b other ∙ sym (unmoved_term unit seen t owner b other))

  -- The switches, where the second side alone is the moment of the command.
  second_switches : (owner : Owner) (a b : TermOf) → is_clock a ≡ false → is_clock b ≡ true
      → AreNotPassed (compare_switches unit seen owner a b) s t
      → AreNotPassed (value_switches (term_value unit seen owner a)) s t
  second_switches owner a b other clock kept = rw (other, clock) at kept

  same_comparison : (comparison : Comparison) (owner : Owner) (a b : TermOf)
      → is_plain (not (reads_clock b)) a ≡ true → is_plain (not (reads_clock a)) b ≡ true
      → AreNotPassed (compare_switches unit seen owner a b) s t
      → holds_in unit (seen_at seen s) owner (compare_test comparison a b) ≡ holds_in unit (seen_at seen t) owner (compare_test comparison a b)
  same_comparison comparison owner a b first second kept =
      elim (clock_or_free (not (reads_clock b)) a first) [
        | inl clock ↦ by_first clock.0 (from_not (reads_clock b) clock.1)
        | inr free ↦ elim (clock_or_free (not (reads_clock a)) b second) [
          | inl clock ↦ by_second free clock.0
          | inr other ↦ no_clock comparison owner a b free other
        ]
      ]
    where
      by_first : a ≡ now_term → reads_clock b ≡ false
          → holds_in unit (seen_at seen s) owner (compare_test comparison a b) ≡ holds_in unit (seen_at seen t) owner (compare_test comparison a b)
      by_first is free =
          subst (λ x. AreNotPassed (compare_switches unit seen owner x b) s t
          → holds_in unit (seen_at seen s) owner (compare_test comparison x b) ≡ holds_in unit (seen_at seen t) owner (compare_test comparison x b))
          (sym is) (clock_first comparison owner b free) kept

      by_second : reads_clock a ≡ false → b ≡ now_term
          → holds_in unit (seen_at seen s) owner (compare_test comparison a b) ≡ holds_in unit (seen_at seen t) owner (compare_test comparison a b)
      by_second free is =
          subst (λ x. AreNotPassed (compare_switches unit seen owner a x) s t
          → holds_in unit (seen_at seen s) owner (compare_test comparison a x) ≡ holds_in unit (seen_at seen t) owner (compare_test comparison a x))
          (sym is)
          (λ there. clock_second comparison owner a free
          (second_switches owner a now_term (free_is_no_clock a free) refl there))
          kept

  -- ---- tests

  mutual
    pub same_test : (owner : Owner) (test : TestOf) → is_timely test ≡ true
        → AreNotPassed (test_switches unit seen owner test) s t
        → holds_in unit (seen_at seen s) owner test ≡ holds_in unit (seen_at seen t) owner test
    same_test owner (compare_test comparison a b) timely kept =
        same_comparison comparison owner a b
        (and_left (is_plain (not (reads_clock b)) a) (is_plain (not (reads_clock a)) b) timely)
        (and_right (is_plain (not (reads_clock b)) a) (is_plain (not (reads_clock a)) b) timely)
        kept
    same_test owner (all_test tests) timely kept = same_all owner tests timely kept
    same_test owner (any_test tests) timely kept = same_any owner tests timely kept
    same_test owner (not_test test) timely kept = ap not (same_test owner test timely kept)
    same_test owner (no_value_test property) timely kept =
        ap is_none (unmoved_property unit seen s owner property ∙ sym (unmoved_property unit seen t owner property))
    same_test owner (member_test role) timely kept =
        unmoved_membership unit seen s owner role ∙ sym (unmoved_membership unit seen t owner role)
    same_test owner (users_test role test) timely kept =
        same_each (λ p. holds_in unit (seen_at seen s) (of_person p) test)
        (λ p. holds_in unit (seen_at seen t) (of_person p) test) (members_of unit seen role)
        (λ p inside. same_test (of_person p) test timely
        (λ c there. kept c (in_flat_map (λ q. test_switches unit seen (of_person q) test) (members_of unit seen role) p c inside there)))
    same_test owner (done_test thing) timely kept = refl

    same_all : (owner : Owner) (tests : TestsOf) → are_timely tests ≡ true
        → AreNotPassed (tests_switches unit seen owner tests) s t
        → all_hold unit (seen_at seen s) owner tests ≡ all_hold unit (seen_at seen t) owner tests
    same_all owner no_test timely kept = refl
    same_all owner (test_and test tests) timely kept =
        let own = test_switches unit seen owner test in
        let more = tests_switches unit seen owner tests in
        ap₂ (λ u v. u && v)
        (same_test owner test (and_left (is_timely test) (are_timely tests) timely) (passed_left own more s t kept))
        (same_all owner tests (and_right (is_timely test) (are_timely tests) timely) (passed_right own more s t kept))

    same_any : (owner : Owner) (tests : TestsOf) → are_timely tests ≡ true
        → AreNotPassed (tests_switches unit seen owner tests) s t
        → any_holds unit (seen_at seen s) owner tests ≡ any_holds unit (seen_at seen t) owner tests
    same_any owner no_test timely kept = refl
    same_any owner (test_and test tests) timely kept =
        let own = test_switches unit seen owner test in
        let more = tests_switches unit seen owner tests in
        ap₂ (λ u v. u || v)
        (same_test owner test (and_left (is_timely test) (are_timely tests) timely) (passed_left own more s t kept))
        (same_any owner tests (and_right (is_timely test) (are_timely tests) timely) (passed_right own more s t kept))

  -- A test that is asked of each member of a role.
  pub same_of_users : (role : List ℕ) (test : TestOf) → is_timely test ≡ true
      → AreNotPassed (flat_map (λ p. test_switches unit seen (of_person p) test) (members_of unit seen role)) s t
      → some_and_each (λ p. holds_in unit (seen_at seen s) (of_person p) test) (members_of unit seen role)
      ≡ some_and_each (λ p. holds_in unit (seen_at seen t) (of_person p) test) (members_of unit seen role)
  same_of_users role test timely kept =
      same_each (λ p. holds_in unit (seen_at seen s) (of_person p) test)
      (λ p. holds_in unit (seen_at seen t) (of_person p) test) (members_of unit seen role)
      (λ p inside. same_test (of_person p) test timely
      (λ c there. kept c (in_flat_map (λ q. test_switches unit seen (of_person q) test) (members_of unit seen role) p c inside there)))
