-- Going from switch to switch: up to the switch that was reached the test of a site is what it was at first.
use Rattle.std.proofs.Common.{◌≡◌, refl, sym, ◌∙◌, ◌<◌, ◌⊎◌, ℤ, pos, ◌+ℤ◌, ◌≤ℤ◌, Some, None, Bool, true, false, not, int_lt, int_le, inl, inr, arith}
use Rattle.jiff_core.proofs.SignedLemmas.{signed_arith}
use Rattle.ld_value.specs.Datum.{moment_datum, same_truth}
use Rattle.ld_value.proofs.Choices.{and_left, and_right, bool_cases}
use Rattle.ld_model.specs.declared.cell.CellName.TheVariants.{Now}
use Rattle.ld_model.specs.declared.unit.Unit.{Unit}
use Rattle.ld_names.specs.Rules.{Site}
use Rattle.ld_expr.specs.Seen.{Seen}
use Rattle.ld_rules.specs.SiteTests.{site_test}
use Rattle.ld_state.proofs.Elements.{IsIn}
use Rattle.ld_alarm.specs.Later.{comes_after, next_after, count_after}
use Rattle.ld_alarm.specs.Alarm.{differs_at, first_after}
use Rattle.ld_alarm.specs.SeenAt.{seen_at}
use Rattle.ld_alarm.proofs.Timely.{IsTimelyUnit}
use Rattle.ld_alarm.specs.Switches.{site_switches}
use Rattle.ld_alarm.proofs.Comparing.{AreNotPassed, le_test, same_bool}
use Rattle.ld_alarm.proofs.FirstMoments.{NonePasses, none_after, first_is}
use Rattle.ld_alarm.proofs.NextAfter.{next_is, next_none, fewer_left, not_both}
use Rattle.ld_alarm.proofs.SameLooks.{test_now}
use Rattle.ld_alarm.proofs.SameTests.{same_site_test}

pub not_same : (a b : Bool) → a ≡ b → not (same_truth a b) ≡ false
not_same true true is = refl
not_same true false is = absurd (cc)
not_same false true is = absurd (cc)
not_same false false is = refl

are_same : (a b : Bool) → not (same_truth a b) ≡ false → a ≡ b
are_same true true is = refl
are_same true false is = absurd (cc)
are_same false true is = absurd (cc)
are_same false false is = refl

-- Up to this moment the test of the site is what it is now.
pub record IsWatched (unit : Unit) (seen : Seen) (site : Site) (now moment : ℤ) : Type 0 where
  pub since : now ≤ℤ moment
  pub same : site_test unit (seen_at seen moment) site ≡ site_test unit seen site
  pub none : NonePasses (differs_at unit seen site) (now +ℤ pos 1) (moment +ℤ pos 1)

pub watch_begins : (unit : Unit) (seen : Seen) (site : Site) (now : ℤ) → seen.value Now ≡ Some (moment_datum now)
    → IsWatched unit seen site now now
watch_begins unit seen site now is = record {
  since = omega (arith, signed_arith);
  same = test_now unit seen now site is;
  none = λ z low high. absurd (omega (arith, signed_arith, low, high));
}

-- What comes after a moment is later, and not after the last one.
after_parts : (moment c : ℤ) → comes_after moment c ≡ true → ((moment +ℤ pos 1) ≤ℤ c) × (c ≤ℤ pos 253402300799)
after_parts moment c after =
    let later = and_left (int_lt moment c) (int_le c (pos 253402300799)) after in
    let last = and_right (int_lt moment c) (int_le c (pos 253402300799)) after in
    (omega (arith, signed_arith, later), omega (arith, signed_arith, last))

-- What does not come after a moment has been reached by then, or is after the last one.
not_after : (moment c : ℤ) → comes_after moment c ≡ false → (c ≤ℤ moment) ⊎ ((pos 253402300799 +ℤ pos 1) ≤ℤ c)
not_after moment c unswitched = elim (bool_cases (int_lt moment c)) [
  | inl later ↦ elim (bool_cases (int_le c (pos 253402300799))) [
    | inl by ↦ absurd (cc)
    | inr over ↦ inr (omega (arith, signed_arith, over))
  ]
  | inr reached ↦ inl (omega (arith, signed_arith, reached))
]

module _ (unit : Unit) (seen : Seen) (site : Site) (timely : IsTimelyUnit unit) (now moment : ℤ)
    (watched : IsWatched unit seen site now moment) where
  -- No switch comes after the moment and by this one.
  abbrev NoSwitchBy : ℤ → Type 0
  NoSwitchBy z = (c : ℤ) → IsIn (site_switches unit seen site) c → comes_after moment c ≡ true → (z +ℤ pos 1) ≤ℤ c

  not_passed : (z : ℤ) → moment ≤ℤ z → z ≤ℤ pos 253402300799 → NoSwitchBy z → AreNotPassed (site_switches unit seen site) moment z
  not_passed z later high unswitched c there = elim (bool_cases (comes_after moment c)) [
    | inl after ↦
        let beyond = unswitched c there after in
        same_bool (int_le c moment) (int_le c z)
        (λ h. absurd (omega (arith, signed_arith, beyond, later, h)))
        (λ h. absurd (omega (arith, signed_arith, beyond, h)))
    | inr before ↦ elim (not_after moment c before) [
      | inl reached ↦
          same_bool (int_le c moment) (int_le c z)
          (λ h. le_test c z (omega (arith, signed_arith, reached, later)))
          (λ h. le_test c moment reached)
      | inr over ↦
          same_bool (int_le c moment) (int_le c z)
          (λ h. absurd (omega (arith, signed_arith, over, later, high, h)))
          (λ h. absurd (omega (arith, signed_arith, over, high, h)))
    ]
  ]

  -- So the test is the same then.
  same_then : (z : ℤ) → moment ≤ℤ z → z ≤ℤ pos 253402300799 → NoSwitchBy z
      → site_test unit (seen_at seen z) site ≡ site_test unit seen site
  same_then z later high unswitched =
      sym (same_site_test unit seen moment z timely site (not_passed z later high unswitched)) ∙ watched.same

  passes_none : (z : ℤ) → (now +ℤ pos 1) ≤ℤ z → z ≤ℤ pos 253402300799 → NoSwitchBy z → differs_at unit seen site z ≡ false
  passes_none z low high unswitched = elim (bool_cases (int_le z moment)) [
    | inl by ↦ watched.none z low (omega (arith, signed_arith, by))
    | inr later ↦ not_same (site_test unit (seen_at seen z) site) (site_test unit seen site) (same_then z (omega (arith, signed_arith, later)) high unswitched)
  ]

  -- Where no switch is left, the test stays as it is for good.
  pub watch_ends : next_after moment (site_switches unit seen site) ≡ None
      → first_after now (differs_at unit seen site) ≡ None
  watch_ends is =
      let unswitched = next_none moment (site_switches unit seen site) is in
      none_after now (differs_at unit seen site)
      (λ z low high. passes_none z low (omega (arith, signed_arith, high))
      (λ c there after. not_both (comes_after moment c) after (unswitched c there)))

  -- Before the next switch the test is what it is now.
  before_next : (next : ℤ) → next_after moment (site_switches unit seen site) ≡ Some next
      → NonePasses (differs_at unit seen site) (now +ℤ pos 1) next
  before_next next is z low high =
      let found = next_is moment (site_switches unit seen site) next is in
      let last = (after_parts moment next found.later).1 in
      passes_none z low (omega (arith, signed_arith, high, last))
      (λ c inside after. before c (found.least c inside after))
    where
      before : (c : ℤ) → int_le next c ≡ true → (z +ℤ pos 1) ≤ℤ c
      before c least = omega (arith, signed_arith, least, high)

  later_next : (next : ℤ) → next_after moment (site_switches unit seen site) ≡ Some next
      → ((moment +ℤ pos 1) ≤ℤ next) × (next ≤ℤ pos 253402300799)
  later_next next is = after_parts moment next (next_is moment (site_switches unit seen site) next is).later

  -- It differs at the next switch: that is the moment.
  pub watch_finds : (next : ℤ) → next_after moment (site_switches unit seen site) ≡ Some next
      → differs_at unit seen site next ≡ true
      → first_after now (differs_at unit seen site) ≡ Some next
  watch_finds next is apart =
      let later = later_next next is in
      first_is now (differs_at unit seen site) next (omega (arith, signed_arith, later.0, watched.since)) later.1
      apart (before_next next is)

  -- It is the same there: the watch goes on from it.
  pub watch_goes_on : (next : ℤ) → next_after moment (site_switches unit seen site) ≡ Some next
      → differs_at unit seen site next ≡ false
      → IsWatched unit seen site now next
  watch_goes_on next is alike =
      let later = later_next next is in
      record {
        since = omega (arith, signed_arith, later.0, watched.since);
        same = are_same (site_test unit (seen_at seen next) site) (site_test unit seen site) alike;
        none = by;
      }
    where
      by : NonePasses (differs_at unit seen site) (now +ℤ pos 1) (next +ℤ pos 1)
      by z low high = elim (bool_cases (int_le next z)) [
        | inl at ↦
            let here : z ≡ next = omega (arith, signed_arith, at, high) in
            rw here alike
        | inr less ↦ before_next next is z low (omega (arith, signed_arith, less))
      ]

  -- And fewer switches are left from it.
  pub watch_shortens : (next : ℤ) → next_after moment (site_switches unit seen site) ≡ Some next
      → count_after next (site_switches unit seen site) < count_after moment (site_switches unit seen site)
  watch_shortens next is =
      let found = next_is moment (site_switches unit seen site) next is in
      fewer_left moment next (site_switches unit seen site) found.there found.later
