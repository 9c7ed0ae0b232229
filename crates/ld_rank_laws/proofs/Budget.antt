-- No command is refused for the budget where each settling comes to its end.
use Rattle.std.proofs.Common.{◌≡◌, refl, sym, ap, ◌∙◌, ℕ, ℤ, ◌+◌, ◌≤◌, List, Option, Some, None, Result, Ok, Err, ok_or, Bool, true, false, ◌&&◌, is_some}
use Rattle.std.proofs.lemmas.Bool.{false≢true}
use Rattle.ld_model.specs.declared.unit.Unit.{Unit}
use Rattle.ld_lines.specs.declared.command.RunCommand.{RunCommand}
use Rattle.ld_lines.specs.declared.command.RunCommand.TheVariants.{Enrol, Assign, Drop, Start, Open, Complete, Set, Clear, Get, Tree, Outbox, Report, Tick, Next}
use Rattle.ld_refs.specs.Checks.{IsValid}
use Rattle.ld_roles.specs.Roster.{Shortage, short_at_start}
use Rattle.ld_state.specs.GlobalValues.{GlobalValues}
use Rattle.ld_state.specs.RunState.{RunState}
use Rattle.ld_firing.specs.RunSettling.{Settlement, run_settling}
use Rattle.ld_admission.specs.Checks.{admitted, in_time, running, not_running, the_person, not_enrolled, has_seat, the_role, does_not_hold, holds_it, has_room, keeps_apart, none_short, the_activity, only_by_choice, the_property, fitting_value, may_write, is_started, shortage_if_running}
use Rattle.ld_admission.specs.Commands.{Admitted, opens, completes, enrols, assigns, drops, starts, sets, clears, gets, shows_tree, shows_outbox, reports, ticks, shows_next}
use Rattle.ld_admission.specs.Refusals.{Refusal, TurnBudget, ◌unless_refused◌ as ◌>>=◌, ◌>>◌, refuse_if}
use Rattle.ld_run.specs.Changes.{directly_changed, has_change}
use Rattle.ld_run.specs.RunStep.{DoneCommand, run_step, settled, settled_after, done_by, open_for_it}
use Rattle.ld_cascade.specs.Settling.{plus}
use Rattle.ld_sharing.specs.Globals.{giving_back}
use Rattle.ld_rank.specs.Ranking.{IsRanking, depth_of}
use Rattle.ld_rank.proofs.Sweeps.{settles}

-- The refusal is not for the budget.
abbrev is_other : Refusal → Bool
is_other TurnBudget = false
is_other _ = true

-- Nothing is refused for the budget.
abbrev keeps : {A : Type 0} → Result A Refusal → Bool
keeps (Ok x) = true
keeps (Err refusal) = is_other refusal

bound : {A B : Type 0} (r : Result A Refusal) (next : A → Result B Refusal) → keeps r ≡ true
    → ((x : A) → keeps (next x) ≡ true) → keeps (r >>= next) ≡ true
bound (Ok x) next first rest = rest x
bound (Err refusal) next first rest = first

carried : (r : Result Settlement Refusal) (f : Settlement → DoneCommand) → keeps r ≡ true
    → keeps (r >>= λ x. Ok (f x)) ≡ true
carried (Ok x) f first = refl
carried (Err refusal) f first = first

and_then : {A B : Type 0} (r : Result A Refusal) (next : Result B Refusal) → keeps r ≡ true
    → keeps next ≡ true → keeps (r >> next) ≡ true
and_then (Ok x) next first rest = rest
and_then (Err refusal) next first rest = first

checked : (b : Bool) (refusal : Refusal) → is_other refusal ≡ true → keeps (refuse_if b refusal) ≡ true
checked true refusal other = other
checked false refusal other = refl

found : {A : Type 0} (o : Option A) (refusal : Refusal) → is_other refusal ≡ true → keeps (ok_or o refusal) ≡ true
found None refusal other = other
found (Some x) refusal other = refl

none_missing : (unit : Unit) (o : Option Shortage) → keeps (none_short unit o) ≡ true
none_missing unit None = refl
none_missing unit (Some short) = refl

module _ (unit : Unit) (s : RunState) (moment : ℤ) where
  timely : {A : Type 0} (next : Result A Refusal) → keeps next ≡ true → keeps (in_time s moment >> next) ≡ true
  timely next rest = and_then (in_time s moment) next (checked _ _ refl) rest

  begun_in_time : {A : Type 0} (next : Result A Refusal) → keeps next ≡ true
      → keeps (in_time s moment >> (running s >> next)) ≡ true
  begun_in_time next rest = timely (running s >> next) (and_then (running s) next (checked _ _ refl) rest)

  for_person : {A : Type 0} (person : List ℕ) (next : ℕ → Result A Refusal) → ((p : ℕ) → keeps (next p) ≡ true)
      → keeps (the_person s person >>= next) ≡ true
  for_person person next rest = bound (the_person s person) next (found _ _ refl) rest

  admitted_keeps : (asked : RunCommand) → keeps (admitted unit s moment asked) ≡ true
  unfolding admitted
  admitted_keeps (Enrol person) =
      timely _ (and_then (not_enrolled s person) _ (checked _ _ refl) (and_then (has_seat s) _ (checked _ _ refl) refl))
  admitted_keeps (Assign person role) =
      timely _ (for_person person _ λ p. bound (the_role unit role) _ (found _ _ refl) λ r.
      and_then (does_not_hold s r p) _ (checked _ _ refl) (and_then (has_room unit s r p) _ (checked _ _ refl)
      (and_then (keeps_apart unit s r p) _ (checked _ _ refl) refl)))
  admitted_keeps (Drop person role) =
      timely _ (for_person person _ λ p. bound (the_role unit role) _ (found _ _ refl) λ r.
      and_then (holds_it s r p) _ (checked _ _ refl)
      (and_then (none_short unit (shortage_if_running unit s r p (is_started s))) (Ok (drops p r)) (none_missing unit _) refl))
  admitted_keeps Start =
      timely _ (and_then (not_running s) _ (checked _ _ refl) (and_then (none_short unit (short_at_start unit s.persons)) (Ok starts) (none_missing unit _) refl))
  admitted_keeps (Open person activity) =
      begun_in_time _ (for_person person _ λ p. bound (the_activity unit activity) _ (found _ _ refl) λ one. refl)
  admitted_keeps (Complete person activity) =
      begun_in_time _ (for_person person _ λ p. bound (the_activity unit activity) _ (found _ _ refl) λ one.
      and_then (only_by_choice one.activity) _ (checked _ _ refl) refl)
  admitted_keeps (Set person property text) =
      begun_in_time _ (for_person person _ λ p. bound (the_property unit property) _ (found _ _ refl) λ one.
      bound (fitting_value one.property text) _ (found _ _ refl) λ value. and_then (may_write unit s p one.property) _ (checked _ _ refl) refl)
  admitted_keeps (Clear person property) =
      begun_in_time _ (for_person person _ λ p. bound (the_property unit property) _ (found _ _ refl) λ one.
      and_then (may_write unit s p one.property) _ (checked _ _ refl) refl)
  admitted_keeps (Get person property) =
      begun_in_time _ (for_person person _ λ p. bound (the_property unit property) _ (found _ _ refl) λ one. refl)
  admitted_keeps (Tree person) = begun_in_time _ (for_person person _ λ p. refl)
  admitted_keeps (Outbox person) = begun_in_time _ (for_person person _ λ p. refl)
  admitted_keeps Report = begun_in_time _ refl
  admitted_keeps Tick = begun_in_time _ refl
  admitted_keeps Next = begun_in_time _ refl

open_keeps : (unit : Unit) (s : RunState) (command : Admitted) → keeps (open_for_it unit s command) ≡ true
open_keeps unit s (opens p thing) = checked _ _ refl
open_keeps unit s (completes p thing) = checked _ _ refl
open_keeps unit s (enrols name) = refl
open_keeps unit s (assigns p role) = refl
open_keeps unit s (drops p role) = refl
open_keeps unit s starts = refl
open_keeps unit s (sets cell value) = refl
open_keeps unit s (clears cell) = refl
open_keeps unit s (gets cell) = refl
open_keeps unit s (shows_tree p) = refl
open_keeps unit s (shows_outbox p) = refl
open_keeps unit s reports = refl
open_keeps unit s ticks = refl
open_keeps unit s shows_next = refl

module _ (unit : Unit) (valid : IsValid unit) (ranks : List ℕ) (ranking : IsRanking unit ranks) (deep : depth_of ranks ≤ unit.turns) where
  settled_keeps : (b : Bool) (s : RunState) → keeps (settled b unit s) ≡ true
  settled_keeps false s = refl
  settled_keeps true s = by (run_settling unit s) (settles unit valid ranks ranking deep s)
    where
      by : (o : Option Settlement) → is_some o ≡ true → keeps (ok_or o TurnBudget) ≡ true
      by None there = absurd (false≢true there)
      by (Some x) there = refl

  done_keeps : (s : RunState) (store : GlobalValues) (moment : ℤ) (command : Admitted)
      → keeps (done_by unit s store moment command) ≡ true
  done_keeps s store moment command =
      bound (settled (is_started s) unit _) _ (settled_keeps (is_started s) _) λ first.
      let changed = directly_changed unit store first.state moment command in
      and_then (open_for_it unit first.state command) _ (open_keeps unit first.state command)
      (carried (settled_after unit store first.state moment command)
      (λ second. record {
        command = command;
        turns = first.turns + second.turns;
        sums = plus first.sums second.sums;
        state = second.state;
        store = giving_back unit second.state store;
      })
      (settled_keeps (has_change command && is_started changed) changed))

  step_keeps : (s : RunState) (store : GlobalValues) (moment : ℤ) (asked : RunCommand)
      → keeps (run_step unit s store moment asked) ≡ true
  unfolding run_step
  step_keeps s store moment asked =
      bound (admitted unit s moment asked) _ (admitted_keeps unit s moment asked) λ command. done_keeps s store moment command

  pub within_budget : (s : RunState) (store : GlobalValues) (moment : ℤ) (asked : RunCommand)
      → run_step unit s store moment asked ≡ Err TurnBudget → ⊥
  within_budget s store moment asked is = false≢true (sym (ap keeps is) ∙ step_keeps s store moment asked)
