-- What is known of the next alarm of a run, and of the steps that it takes to find it.
use Rattle.std.proofs.Common.{◌≡◌, refl, sym, ap, subst, ◌∙◌, ℕ, zero, suc, ◌+◌, ◌<◌, ◌≤◌, ℤ, pos, List, [], ◌∷◌, sum_by, Option, Some, None, IfSome, option_map, unwrap_or, inl, inr, Bool, true, false, ◌||◌, cond, nat_eq, Contains, arith}
use Rattle.std.proofs.lemmas.Bool.{eq-eqb, eqb-true}
use Rattle.std.proofs.lemmas.List.{get_or_default}
use Rattle.std.proofs.lemmas.List.Sums.{sum_by-cons}
use Rattle.std.specs.List.{list_any}
use Rattle.jiff_core.proofs.SignedLemmas.{signed_arith}
use Rattle.ld_base.specs.Maybe.{◌>>=◌}
use Rattle.ld_value.specs.Calendar.{IsMoment}
use Rattle.ld_value.specs.declared.moment.Moment.{Moment}
use Rattle.ld_value.proofs.Choices.{bool_cases}
use Rattle.ld_model.specs.declared.cell.CellName.TheVariants.{Now}
use Rattle.ld_model.specs.declared.unit.Unit.{Unit}
use Rattle.ld_graph.specs.Slots.{AreDistinct}
use Rattle.ld_cascade.specs.System.{Lawful}
use Rattle.ld_cascade.specs.Work.{sum_below}
use Rattle.ld_cascade.proofs.Sums.{sum_below_le, sum_below_less}
use Rattle.ld_expr.specs.Seen.{moment_of_value}
use Rattle.ld_state.specs.RunState.{RunState}
use Rattle.ld_firing.specs.RunSystem.{IsSoundRun, run_system}
use Rattle.ld_firing.proofs.Lawful.{run_is_lawful}
use Rattle.ld_alarm.specs.Alarm.{first_after}
use Rattle.ld_alarm.specs.NextAlarm.{at_moment, next_alarm, some_due}
use Rattle.ld_alarm.proofs.Moments.{found_later}
use Rattle.ld_next.specs.Alarms.{ReadsNow, alarm_steps_at}
use Rattle.ld_admission.specs.Checks.{last_moment}
use Rattle.ld_replies.proofs.Printable.{last_is_moment}
use Rattle.ld_run.specs.AlarmWork.{reads_now, steps_for_alarm}

-- ---- the alarm is a moment

later_is_moment : (now : ℤ) (passes : ℤ → Bool) (z : ℤ) → IsMoment now → first_after now passes ≡ Some z → IsMoment z
later_is_moment now passes z dated is =
    let found = found_later now passes z is in
    (omega (arith, signed_arith, dated.0, found.later), found.last)

-- In a sound run it lies in the years 1 to 9999.
pub alarm_is_moment : (unit : Unit) (s : RunState) → IsSoundRun unit s → IfSome (next_alarm unit s) IsMoment
alarm_is_moment unit s sound = by (moment_of_value (s.cells Now)) refl
  where
    passes : ℤ → Bool
    passes moment = some_due unit (at_moment s moment)

    found : (now : ℤ) (next : Option ℤ) → IsMoment now → first_after now passes ≡ next → IfSome next IsMoment
    found now None dated is = tt
    found now (Some z) dated is = later_is_moment now passes z dated is

    by : (now : Option ℤ) → moment_of_value (s.cells Now) ≡ now → IfSome (now >>= λ at. first_after at passes) IsMoment
    by None is = tt
    by (Some now) is =
        let last : last_moment s ≡ now = ap (λ o. unwrap_or o (pos 0)) is in
        found now (first_after now passes) (subst IsMoment last (last_is_moment unit s sound)) refl

-- The same of a moment of the program.
pub alarm_dated : (unit : Unit) (s : RunState) (next : Option Moment) → IsSoundRun unit s
    → option_map (λ (moment : Moment). moment.0) next ≡ next_alarm unit s → IfSome next (λ moment. IsMoment moment.0)
alarm_dated unit s None sound is = tt
alarm_dated unit s (Some moment) sound is = subst (λ o. IfSome o IsMoment) (sym is) (alarm_is_moment unit s sound)

-- ---- the steps

-- The number is in the list.
abbrev among : List ℕ → ℕ → Bool
among xs i = list_any (nat_eq i) xs

or_right : (a b : Bool) → b ≡ true → (a || b) ≡ true
or_right true b is = refl
or_right false b is = is

among_there : (xs : List ℕ) (x : ℕ) → Contains xs x → among xs x ≡ true
among_there [] x there = absurd (omega (arith, there.1))
among_there (y ∷ xs) x (zero, within, is) = ap (λ same. same || among xs x) (eq-eqb x y (sym is))
among_there (y ∷ xs) x (suc k, within, is) =
    or_right (nat_eq x y) (among xs x) (among_there xs x (k, omega (arith, within), is))

there_among : (xs : List ℕ) (x : ℕ) → among xs x ≡ true → Contains xs x
there_among [] x is = absurd (cc)
there_among (y ∷ xs) x is = by (there_among xs x) (nat_eq x y) refl is
  where
    by : (among xs x ≡ true → Contains xs x) → (same : Bool) → nat_eq x y ≡ same → (same || among xs x) ≡ true
        → Contains (y ∷ xs) x
    by rest true same is = (0, omega arith, sym (eqb-true x y same))
    by rest false other is = let later = rest is in (suc later.0, omega (arith, later.1), later.2)

-- These of the numbers that are in the list, and of the others nothing.
abbrev weighed : (ℕ → ℕ) → List ℕ → ℕ → ℕ
weighed g xs i = cond (among xs i) (g i) 0

-- What is summed over distinct numbers below another one is no more than over all numbers that are among them.
distinct_sum : (g : ℕ → ℕ) (n : ℕ) (xs : List ℕ) → AreDistinct xs → ((i : ℕ) → Contains xs i → i < n)
    → sum_by g xs ≤ sum_below n (weighed g xs)
distinct_sum g n [] distinct below = omega arith
distinct_sum g n (x ∷ xs) distinct below =
    omega (
      arith,
      sum_by-cons g x xs,
      distinct_sum g n xs tail (λ i there. below i (suc there.0, omega (arith, there.1), there.2)),
      sum_below_less n x (g x) (weighed g xs) (weighed g (x ∷ xs)) (below x (0, omega arith, refl)) others first,
    )
  where
    tail : AreDistinct xs
    tail i j i_in j_in same =
        let at = distinct (suc i) (suc j) (omega (arith, i_in)) (omega (arith, j_in)) same in omega (arith, at)

    out : Contains xs x → ⊥
    out there =
        let at = distinct 0 (suc there.0) (omega arith) (omega (arith, there.1))
        (sym there.2 ∙ sym (get_or_default xs there.0 0 x there.1)) in
        absurd (omega (arith, at))

    others : (i : ℕ) → (i ≡ x → ⊥) → weighed g xs i ≤ weighed g (x ∷ xs) i
    others i other = by (nat_eq i x) refl
      where
        by : (same : Bool) → nat_eq i x ≡ same → cond (among xs i) (g i) 0 ≤ cond (same || among xs i) (g i) 0
        by true is = absurd (other (eqb-true i x is))
        by false is = omega arith

    first : weighed g xs x + g x ≤ weighed g (x ∷ xs) x
    first = elim (bool_cases (among xs x)) [
      | inl is ↦ absurd (out (there_among xs x is))
      | inr isnt ↦ rw (isnt, eq-eqb x x refl) (omega arith)
    ]

none_contained : {x : ℕ} → Contains [] x → ⊥
none_contained there = absurd (omega (arith, there.1))

module _ (unit : Unit) (s : RunState) where
  -- What reads a slot is a site.
  is_counted : IsSoundRun unit s → (i : ℕ) → ReadsNow unit s i → i < (run_system unit).count s
  is_counted sound i reads = by ((run_system unit).is_site s i) refl
    where
      lawful : Lawful (run_system unit)
      lawful = run_is_lawful unit

      by : (b : Bool) → (run_system unit).is_site s i ≡ b → i < (run_system unit).count s
      by true is = lawful.within s i sound is
      by false isnt = absurd (none_contained (subst (λ slots. Contains slots 1) (lawful.no_reads s i sound isnt) reads))

  -- The steps for readers that are distinct, each of which reads the moment.
  pub readers_cost : IsSoundRun unit s → (readers : List ℕ) → AreDistinct readers
      → ((i : ℕ) → Contains readers i → ReadsNow unit s i)
      → sum_by (alarm_steps_at unit s) readers ≤ steps_for_alarm unit s
  readers_cost sound readers distinct reads =
      let below = λ (i : ℕ) (there : Contains readers i). is_counted sound i (reads i there) in
      let count = (run_system unit).count s in
      let g = alarm_steps_at unit s in
      omega (
        arith,
        distinct_sum g count readers distinct below,
        sum_below_le count (weighed g readers) (λ i. cond (reads_now unit s i) (g i) 0) (λ i within. each i),
      )
    where
      each : (i : ℕ) → weighed (alarm_steps_at unit s) readers i ≤ cond (reads_now unit s i) (alarm_steps_at unit s i) 0
      each i = elim (bool_cases (among readers i)) [
        | inl is ↦
            let read = among_there ((run_system unit).reads s i) 1 (reads i (there_among readers i is)) in
            rw (is, read) (omega arith)
        | inr isnt ↦ rw isnt (omega arith)
      ]
