-- The checks of a command refuse with the first of its causes, and pass where there is none.
use Rattle.std.proofs.Common.{◌≡◌, refl, sym, ap, ◌∙◌, ℕ, ℤ, List, ◌∷◌, length, Option, Some, None, Result, ok_or, Bool, true, false, not, is_some, nat_le, int_lt}
use Rattle.ld_base.specs.Maybe.{provided}
use Rattle.ld_model.specs.declared.property.Property.{Property}
use Rattle.ld_model.specs.declared.unit.Unit.{Unit}
use Rattle.ld_lines.specs.declared.command.RunCommand.{RunCommand}
use Rattle.ld_lines.specs.declared.command.RunCommand.TheVariants.{Enrol, Assign, Drop, Start, Open, Complete, Set, Clear, Get, Tree, Outbox, Report, Tick, Next}
use Rattle.ld_names.specs.Names.{role_number}
use Rattle.ld_expr.specs.Lookup.{is_some_and}
use Rattle.ld_expr.specs.Membership.{is_member_of}
use Rattle.ld_roles.specs.Roster.{Shortage, person_number, holds_role, has_no_room, is_excluded, short_at_start}
use Rattle.ld_state.specs.RunState.{RunState, seen_in}
use Rattle.ld_admission.specs.Causes.{Cause, first_cause, refusal_in, unless_found, of_both, too_early, not_started, shortage_cause, shortage_for, fitting, is_barred, causes}
use Rattle.ld_admission.specs.Checks.{admitted, in_time, running, last_moment, is_by_choice, is_started, none_short, shortage_if_running}
use Rattle.ld_admission.specs.Found.{FoundActivity, FoundProperty, activity_found, property_found}
use Rattle.ld_admission.specs.Refusals.{Refusal, MomentBack, NotStarted, StartedAlready, UnknownPerson, PersonExists, RunFull, UnknownRole, HoldsAlready, NotHeld, RoleFull, RoleExclusive, UnknownActivity, NotByChoice, UnknownProperty, BadValue, NotAllowed, ◌unless_refused◌ as ◌>>=◌, ◌>>◌, refuse_if}

-- A check, and then those behind it.
after_check : {A : Type 0} (b c : Bool) (refusal : Refusal) (next : Result A Refusal) (later : List Cause) → b ≡ c → refusal_in next ≡ first_cause later
    → refusal_in (refuse_if b refusal >> next) ≡ first_cause (provided c refusal ∷ later)
after_check b c refusal next later same rest = by b ∙ ap (λ d. first_cause (provided d refusal ∷ later)) same
  where
    by : (d : Bool) → refusal_in (refuse_if d refusal >> next) ≡ first_cause (provided d refusal ∷ later)
    by true = refl
    by false = rest

after_own : {A : Type 0} (b : Bool) (refusal : Refusal) (next : Result A Refusal) (later : List Cause) → refusal_in next ≡ first_cause later → refusal_in (refuse_if b refusal >> next) ≡ first_cause (provided b refusal ∷ later)
after_own b refusal next later rest = after_check b b refusal next later refl rest

after_search : {A B : Type 0} (found : Option A) (refusal : Refusal) (next : A → Result B Refusal) (later : List Cause) → ((x : A) → found ≡ Some x → refusal_in (next x) ≡ first_cause later)
    → refusal_in (ok_or found refusal >>= next) ≡ first_cause (unless_found found refusal ∷ later)
after_search None refusal next later each = refl
after_search (Some x) refusal next later each = each x refl

after_any : {A B : Type 0} (found : Option A) (refusal : Refusal) (next : A → Result B Refusal) (later : List Cause) → ((x : A) → refusal_in (next x) ≡ first_cause later)
    → refusal_in (ok_or found refusal >>= next) ≡ first_cause (unless_found found refusal ∷ later)
after_any None refusal next later each = refl
after_any (Some x) refusal next later each = each x

-- The same of a search that itself looks at what was found before.
after_own_search : {A B : Type 0} (found : Option A) (none : Bool) (refusal : Refusal) (next : A → Result B Refusal) (later : List Cause) → not (is_some found) ≡ none → ((x : A) → refusal_in (next x) ≡ first_cause later)
    → refusal_in (ok_or found refusal >>= next) ≡ first_cause (provided none refusal ∷ later)
after_own_search found none refusal next later same each = after_any found refusal next later each ∙ ap (λ d. first_cause (provided d refusal ∷ later)) same

after_shortage : {A : Type 0} (unit : Unit) (short other : Option Shortage) (next : Result A Refusal) (later : List Cause) → short ≡ other → refusal_in next ≡ first_cause later
    → refusal_in (none_short unit short >> next) ≡ first_cause (shortage_cause unit other ∷ later)
after_shortage unit short other next later same rest = by short ∙ ap (λ o. first_cause (shortage_cause unit o ∷ later)) same
  where
    by : (o : Option Shortage) → refusal_in (none_short unit o >> next) ≡ first_cause (shortage_cause unit o ∷ later)
    by None = rest
    by (Some one) = refl

both_found : (test : ℕ → ℕ → Bool) (r p : ℕ) (ro po : Option ℕ) → ro ≡ Some r → po ≡ Some p → test r p ≡ of_both test ro po
both_found test r p ro po role person = sym (ap (λ o. of_both test o po) role ∙ ap (λ o. is_some_and (test r) o) person)

module _ (unit : Unit) (s : RunState) (moment : ℤ) where
  in_order : {A : Type 0} (next : Result A Refusal) (later : List Cause) → refusal_in next ≡ first_cause later → refusal_in (in_time s moment >> next) ≡ first_cause (too_early s moment ∷ later)
  in_order next later rest = after_own (int_lt moment (last_moment s)) (MomentBack (last_moment s)) next later rest

  in_running : {A : Type 0} (next : Result A Refusal) (later : List Cause) → refusal_in next ≡ first_cause later → refusal_in (in_time s moment >> (running s >> next)) ≡ first_cause (too_early s moment ∷ not_started s ∷ later)
  in_running next later rest = in_order (running s >> next) (not_started s ∷ later) (after_own (not (is_started s)) NotStarted next later rest)

  abbrev bars : ℕ → Property → Bool
  bars p one = is_some_and (λ role. not (is_member_of unit (seen_in unit s) role p)) one.role

  -- Whether the property is barred, once person and property are found.
  barred : (p : ℕ) (one : FoundProperty) (po : Option ℕ) (found : Option FoundProperty) → po ≡ Some p → found ≡ Some one
      → bars p one.property ≡ is_barred unit s po found
  barred p one po found person property = sym (ap (λ o. is_barred unit s o found) person ∙ ap (λ o. is_barred unit s (Some p) o) property)

  short_same : (r p : ℕ) (ro po : Option ℕ) → ro ≡ Some r → po ≡ Some p → shortage_if_running unit s r p (is_started s) ≡ shortage_for unit s ro po
  short_same r p ro po role person = sym (ap (λ o. shortage_for unit s o po) role ∙ ap (λ o. shortage_for unit s (Some r) o) person)

  -- The refusal of the checks is the first of the causes, and they pass where there is none.
  pub refused_by_first : (asked : RunCommand) → refusal_in (admitted unit s moment asked) ≡ first_cause (causes unit s moment asked)
  unfolding admitted
  refused_by_first (Enrol person) =
      in_order _ _ (after_own (is_some (person_number s.persons person)) PersonExists _ _ (after_own (nat_le s.seats (length s.persons)) RunFull _ _ refl))
  refused_by_first (Assign person role) =
      in_order _ _ (after_search (person_number s.persons person) UnknownPerson _ _ λ p has. after_search (role_number unit role) UnknownRole _ _ λ r is.
      after_check (holds_role s.persons r p) (of_both (holds_role s.persons) (role_number unit role) (person_number s.persons person)) HoldsAlready _ _ (both_found (holds_role s.persons) r p (role_number unit role) (person_number s.persons person) is has)
      (after_check (has_no_room unit s.persons r p) (of_both (has_no_room unit s.persons) (role_number unit role) (person_number s.persons person)) RoleFull _ _ (both_found (has_no_room unit s.persons) r p (role_number unit role) (person_number s.persons person) is has)
      (after_check (is_excluded unit s.persons r p) (of_both (is_excluded unit s.persons) (role_number unit role) (person_number s.persons person)) RoleExclusive _ _ (both_found (is_excluded unit s.persons) r p (role_number unit role) (person_number s.persons person) is has) refl)))
  refused_by_first (Drop person role) =
      in_order _ _ (after_search (person_number s.persons person) UnknownPerson _ _ λ p has. after_search (role_number unit role) UnknownRole _ _ λ r is.
      after_check (not (holds_role s.persons r p)) (of_both (λ one other. not (holds_role s.persons one other)) (role_number unit role) (person_number s.persons person)) NotHeld _ _ (both_found (λ one other. not (holds_role s.persons one other)) r p (role_number unit role) (person_number s.persons person) is has)
      (after_shortage unit (shortage_if_running unit s r p (is_started s)) (shortage_for unit s (role_number unit role) (person_number s.persons person)) _ _ (short_same r p (role_number unit role) (person_number s.persons person) is has) refl))
  refused_by_first Start = in_order _ _ (after_own (is_started s) StartedAlready _ _ (after_shortage unit (short_at_start unit s.persons) (short_at_start unit s.persons) _ _ refl refl))
  refused_by_first (Open person activity) =
      in_running _ _ (after_search (person_number s.persons person) UnknownPerson _ _ λ p has. after_search (activity_found unit activity) UnknownActivity _ _ λ one is. refl)
  refused_by_first (Complete person activity) =
      in_running _ _ (after_search (person_number s.persons person) UnknownPerson _ _ λ p has. after_search (activity_found unit activity) UnknownActivity _ _ λ one is.
      after_check (not (is_by_choice one.activity)) (is_some_and (λ (found : FoundActivity). not (is_by_choice found.activity)) (activity_found unit activity)) NotByChoice _ _ (sym (ap (is_some_and (λ (found : FoundActivity). not (is_by_choice found.activity))) is)) refl)
  refused_by_first (Set person property text) =
      in_running _ _ (after_search (person_number s.persons person) UnknownPerson _ _ λ p has. after_search (property_found unit property) UnknownProperty _ _ λ one is.
      after_own_search (fitting one.property text) (is_some_and (λ (found : FoundProperty). not (is_some (fitting found.property text))) (property_found unit property)) BadValue _ _ (sym (ap (is_some_and (λ (found : FoundProperty). not (is_some (fitting found.property text)))) is)) λ value.
      after_check (bars p one.property) (is_barred unit s (person_number s.persons person) (property_found unit property)) NotAllowed _ _ (barred p one (person_number s.persons person) (property_found unit property) has is) refl)
  refused_by_first (Clear person property) =
      in_running _ _ (after_search (person_number s.persons person) UnknownPerson _ _ λ p has. after_search (property_found unit property) UnknownProperty _ _ λ one is.
      after_check (bars p one.property) (is_barred unit s (person_number s.persons person) (property_found unit property)) NotAllowed _ _ (barred p one (person_number s.persons person) (property_found unit property) has is) refl)
  refused_by_first (Get person property) =
      in_running _ _ (after_search (person_number s.persons person) UnknownPerson _ _ λ p has. after_search (property_found unit property) UnknownProperty _ _ λ one is. refl)
  refused_by_first (Tree person) = in_running _ _ (after_search (person_number s.persons person) UnknownPerson _ _ λ p has. refl)
  refused_by_first (Outbox person) = in_running _ _ (after_search (person_number s.persons person) UnknownPerson _ _ λ p has. refl)
  refused_by_first Report = in_running _ _ refl
  refused_by_first Tick = in_running _ _ refl
  refused_by_first Next = in_running _ _ refl
