-- Two moments between which no switch lies, as comparisons with them see it.
use Rattle.std.proofs.Common.{◌≡◌, refl, sym, ap, ◌∙◌, ℤ, pos, ◌+ℤ◌, ◌≤ℤ◌, List, ◌++◌, inl, inr, Option, Some, None, Bool, true, false, not, int_le, int_lt, arith}
use Rattle.std.specs.Ordering.{int_eq}
use Rattle.std.proofs.lemmas.Bool.Decides.{Decides-int_eq}
use Rattle.jiff_core.proofs.SignedLemmas.{signed_arith}
use Rattle.ld_value.specs.Datum.{Datum, text_datum, truth_datum, number_datum, moment_datum, span_datum}
use Rattle.ld_value.proofs.Choices.{bool_cases}
use Rattle.ld_model.specs.Expressions.{Comparison, equal, different, greater, less}
use Rattle.ld_expr.specs.Arithmetic.{compares}
use Rattle.ld_expr.specs.Holding.{both_compare}
use Rattle.ld_state.proofs.Elements.{IsIn, in_left, in_right}
use Rattle.ld_alarm.specs.Switches.{switches_about, value_switches}

-- ---- tests of numbers

pub same_bool : (x y : Bool) → (x ≡ true → y ≡ true) → (y ≡ true → x ≡ true) → x ≡ y
same_bool true y there back = sym (there refl)
same_bool false true there back = back refl
same_bool false false there back = refl

pub le_test : (a b : ℤ) → a ≤ℤ b → int_le a b ≡ true
le_test a b h = elim (bool_cases (int_le a b)) [
  | inl goes ↦ goes
  | inr stops ↦ absurd (omega (arith, signed_arith, stops))
]

pub lt_test : (a b : ℤ) → (a +ℤ pos 1) ≤ℤ b → int_lt a b ≡ true
lt_test a b h = elim (bool_cases (int_lt a b)) [
  | inl goes ↦ goes
  | inr stops ↦ absurd (omega (arith, signed_arith, stops))
]

-- ---- switches

-- Each of these moments is reached at both, or at neither.
abbrev pub AreNotPassed : List ℤ → ℤ → ℤ → Type 0
AreNotPassed switches s t = (c : ℤ) → IsIn switches c → int_le c s ≡ int_le c t

pub passed_left : (xs ys : List ℤ) (s t : ℤ) → AreNotPassed (xs ++ ys) s t → AreNotPassed xs s t
passed_left xs ys s t kept c there = kept c (in_left xs ys c there)

pub passed_right : (xs ys : List ℤ) (s t : ℤ) → AreNotPassed (xs ++ ys) s t → AreNotPassed ys s t
passed_right xs ys s t kept c there = kept c (in_right xs ys c there)

-- ---- comparisons with a moment

-- Both lie on the same side of the moment c, or at it.
record LieAlike (c s t : ℤ) : Type 0 where
  reached : int_le c s ≡ int_le c t
  left : int_le (c +ℤ pos 1) s ≡ int_le (c +ℤ pos 1) t

lie_alike : (c s t : ℤ) → AreNotPassed (switches_about c) s t → LieAlike c s t
lie_alike c s t kept = record { reached = kept c (inl refl); left = kept (c +ℤ pos 1) (inr (inl refl)) }

module _ (c s t : ℤ) (alike : LieAlike c s t) where
  reached_there : c ≤ℤ s → c ≤ℤ t
  reached_there h = let goes = sym alike.reached ∙ le_test c s h in omega (arith, signed_arith, goes)

  reached_back : c ≤ℤ t → c ≤ℤ s
  reached_back h = let goes = alike.reached ∙ le_test c t h in omega (arith, signed_arith, goes)

  left_there : (c +ℤ pos 1) ≤ℤ s → (c +ℤ pos 1) ≤ℤ t
  left_there h = let goes = sym alike.left ∙ le_test (c +ℤ pos 1) s h in omega (arith, signed_arith, goes)

  left_back : (c +ℤ pos 1) ≤ℤ t → (c +ℤ pos 1) ≤ℤ s
  left_back h = let goes = alike.left ∙ le_test (c +ℤ pos 1) t h in omega (arith, signed_arith, goes)

  above_alike : int_lt c s ≡ int_lt c t
  above_alike =
      same_bool (int_lt c s) (int_lt c t)
      (λ goes. lt_test c t (left_there (omega (arith, signed_arith, goes))))
      (λ goes. lt_test c s (left_back (omega (arith, signed_arith, goes))))

  below_there : (s +ℤ pos 1) ≤ℤ c → (t +ℤ pos 1) ≤ℤ c
  below_there h = elim (bool_cases (int_le c t)) [
    | inl goes ↦ let back = reached_back (omega (arith, signed_arith, goes)) in absurd (omega (arith, signed_arith))
    | inr stops ↦ omega (arith, signed_arith, stops)
  ]

  below_back : (t +ℤ pos 1) ≤ℤ c → (s +ℤ pos 1) ≤ℤ c
  below_back h = elim (bool_cases (int_le c s)) [
    | inl goes ↦ let there = reached_there (omega (arith, signed_arith, goes)) in absurd (omega (arith, signed_arith))
    | inr stops ↦ omega (arith, signed_arith, stops)
  ]

  below_alike : int_lt s c ≡ int_lt t c
  below_alike =
      same_bool (int_lt s c) (int_lt t c)
      (λ goes. lt_test t c (below_there (omega (arith, signed_arith, goes))))
      (λ goes. lt_test s c (below_back (omega (arith, signed_arith, goes))))

  equal_there : s ≡ c → t ≡ c
  equal_there h =
      let from = reached_there (omega (arith, signed_arith)) in
      elim (bool_cases (int_le (c +ℤ pos 1) t)) [
        | inl goes ↦ let back = left_back (omega (arith, signed_arith, goes)) in absurd (omega (arith, signed_arith))
        | inr stops ↦ omega (arith, signed_arith, stops)
      ]

  equal_back : t ≡ c → s ≡ c
  equal_back h =
      let from = reached_back (omega (arith, signed_arith)) in
      elim (bool_cases (int_le (c +ℤ pos 1) s)) [
        | inl goes ↦ let there = left_there (omega (arith, signed_arith, goes)) in absurd (omega (arith, signed_arith))
        | inr stops ↦ omega (arith, signed_arith, stops)
      ]

  equal_alike : int_eq s c ≡ int_eq t c
  equal_alike =
      same_bool (int_eq s c) (int_eq t c)
      (λ goes. (Decides-int_eq t c).1 (equal_there ((Decides-int_eq s c).0 goes)))
      (λ goes. (Decides-int_eq s c).1 (equal_back ((Decides-int_eq t c).0 goes)))

  turned_alike : int_eq c s ≡ int_eq c t
  turned_alike =
      same_bool (int_eq c s) (int_eq c t)
      (λ goes. (Decides-int_eq c t).1 (sym (equal_there (sym ((Decides-int_eq c s).0 goes)))))
      (λ goes. (Decides-int_eq c s).1 (sym (equal_back (sym ((Decides-int_eq c t).0 goes)))))

  first_alike : (comparison : Comparison) → compares comparison (moment_datum s) (moment_datum c) ≡ compares comparison (moment_datum t) (moment_datum c)
  first_alike equal = equal_alike
  first_alike different = ap not equal_alike
  first_alike greater = above_alike
  first_alike less = below_alike

  second_alike : (comparison : Comparison) → compares comparison (moment_datum c) (moment_datum s) ≡ compares comparison (moment_datum c) (moment_datum t)
  second_alike equal = turned_alike
  second_alike different = ap not turned_alike
  second_alike greater = below_alike
  second_alike less = above_alike

-- A value compared with both, from the right and from the left.
pub after_clock : (comparison : Comparison) (value : Option Datum) (s t : ℤ)
    → AreNotPassed (value_switches value) s t
    → both_compare comparison (Some (moment_datum s)) value ≡ both_compare comparison (Some (moment_datum t)) value
after_clock comparison None s t kept = refl
after_clock comparison (Some (moment_datum c)) s t kept =
    first_alike c s t (lie_alike c s t kept) comparison
after_clock equal (Some (text_datum x)) s t kept = refl
after_clock different (Some (text_datum x)) s t kept = refl
after_clock greater (Some (text_datum x)) s t kept = refl
after_clock less (Some (text_datum x)) s t kept = refl
after_clock equal (Some (truth_datum x)) s t kept = refl
after_clock different (Some (truth_datum x)) s t kept = refl
after_clock greater (Some (truth_datum x)) s t kept = refl
after_clock less (Some (truth_datum x)) s t kept = refl
after_clock equal (Some (number_datum x)) s t kept = refl
after_clock different (Some (number_datum x)) s t kept = refl
after_clock greater (Some (number_datum x)) s t kept = refl
after_clock less (Some (number_datum x)) s t kept = refl
after_clock equal (Some (span_datum x)) s t kept = refl
after_clock different (Some (span_datum x)) s t kept = refl
after_clock greater (Some (span_datum x)) s t kept = refl
after_clock less (Some (span_datum x)) s t kept = refl

pub before_clock : (comparison : Comparison) (value : Option Datum) (s t : ℤ)
    → AreNotPassed (value_switches value) s t
    → both_compare comparison value (Some (moment_datum s)) ≡ both_compare comparison value (Some (moment_datum t))
before_clock comparison None s t kept = refl
before_clock comparison (Some (moment_datum c)) s t kept =
    second_alike c s t (lie_alike c s t kept) comparison
before_clock equal (Some (text_datum x)) s t kept = refl
before_clock different (Some (text_datum x)) s t kept = refl
before_clock greater (Some (text_datum x)) s t kept = refl
before_clock less (Some (text_datum x)) s t kept = refl
before_clock equal (Some (truth_datum x)) s t kept = refl
before_clock different (Some (truth_datum x)) s t kept = refl
before_clock greater (Some (truth_datum x)) s t kept = refl
before_clock less (Some (truth_datum x)) s t kept = refl
before_clock equal (Some (number_datum x)) s t kept = refl
before_clock different (Some (number_datum x)) s t kept = refl
before_clock greater (Some (number_datum x)) s t kept = refl
before_clock less (Some (number_datum x)) s t kept = refl
before_clock equal (Some (span_datum x)) s t kept = refl
before_clock different (Some (span_datum x)) s t kept = refl
before_clock greater (Some (span_datum x)) s t kept = refl
before_clock less (Some (span_datum x)) s t kept = refl
