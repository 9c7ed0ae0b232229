-- The persons of a run have names of their own, in each state that it comes to.
use Rattle.std.specs.Prelude.{⊤}
use Rattle.std.proofs.Common.{◌≡◌, refl, sym, ap, subst, ◌∙◌, ℕ, ℤ, List, map, Option, Some, None, Ok, Result, Bool, true, false, is_some, inl, inr, if◌then◌else◌, ◌&&◌}
use Rattle.ld_value.specs.Datum.{moment_datum}
use Rattle.ld_names.specs.Identifiers.{all_differ}
use Rattle.ld_model.specs.declared.unit.Unit.{Unit}
use Rattle.ld_lines.specs.declared.command.RunCommand.{RunCommand}
use Rattle.ld_lines.specs.declared.command.RunCommand.TheVariants.{Enrol, Assign, Drop, Start, Open, Complete, Set, Clear, Get, Tree, Outbox, Report, Tick, Next}
use Rattle.ld_expr.specs.Owners.{of_person}
use Rattle.ld_expr.specs.Seen.{opened_cell}
use Rattle.ld_roles.specs.Roster.{person_number}
use Rattle.ld_state.specs.GlobalValues.{GlobalValues}
use Rattle.ld_state.specs.RunState.{RunState, with_cell}
use Rattle.ld_state.proofs.Elements.{none_is_some, some_same}
use Rattle.ld_firing.specs.RunSettling.{Settlement}
use Rattle.ld_firing.specs.RunSystem.{HaveNamesOfTheirOwn}
use Rattle.ld_firing.proofs.LawsKept.{settling_keeps}
use Rattle.ld_firing.proofs.SeatsKept.{persons_kept}
use Rattle.ld_admission.specs.Checks.{admitted, in_time, has_seat, is_started}
use Rattle.ld_admission.specs.Commands.{Admitted, enrols, assigns, drops, starts, opens, completes, sets, clears, gets, shows_tree, shows_outbox, reports, ticks, shows_next}
use Rattle.ld_admission.specs.Refusals.{PersonExists, ◌>>◌, refuse_if}
use Rattle.ld_world.specs.Isolation.{newcomer_of}
use Rattle.ld_world.proofs.OwnValues.{IsOf, admitted_is}
use Rattle.ld_run.specs.Changes.{directly_changed, has_change}
use Rattle.ld_run.specs.Reached.{IsReached, made, left_by}
use Rattle.ld_run.specs.RunStep.{DoneCommand, run_step, settled}
use Rattle.ld_run.proofs.LawsKept.{begun}
use Rattle.ld_run.proofs.SeatsOfChecks.{Each, each_then}
use Rattle.ld_run.proofs.Settlings.{either_settled}
use Rattle.ld_run.proofs.SoundRuns.{names_stay, new_names}
use Rattle.ld_laws.proofs.LawsUnmoved.{HasStages, stages_of}

-- ---- who joins is new

-- No person of the run has this name.
abbrev IsNew : RunState → List ℕ → Type 0
IsNew s name = person_number s.persons name ≡ None

enrolled_is_new : (unit : Unit) (s : RunState) (moment : ℤ) (name : List ℕ)
    → Each (λ (command : Admitted). IsNew s name) (admitted unit s moment (Enrol name))
unfolding admitted
enrolled_is_new unit s moment name =
    each_then (λ (command : Admitted). IsNew s name) (in_time s moment) _ (by (person_number s.persons name) refl)
  where
    by : (found : Option ℕ) → person_number s.persons name ≡ found
        → Each (λ (command : Admitted). IsNew s name) (refuse_if (is_some found) PersonExists >> (has_seat s >> Ok (enrols name)))
    by None new = each_then (λ (command : Admitted). IsNew s name) (has_seat s) _ new
    by (Some n) there = tt

joins_new : (unit : Unit) (s : RunState) (moment : ℤ) (asked : RunCommand) (name : List ℕ) → Some name ≡ newcomer_of asked
    → admitted unit s moment asked ≡ Ok (enrols name) → IsNew s name
joins_new unit s moment (Enrol other) name is admits =
    subst (IsNew s) (sym (some_same is))
    (subst (Each (λ (command : Admitted). IsNew s other)) admits (enrolled_is_new unit s moment other))
joins_new unit s moment asked name is admits = none_is_some (sym is)

-- ---- a direct change

-- Who joins by the command is new.
abbrev JoinsNew : RunState → Admitted → Type 0
JoinsNew s (enrols name) = IsNew s name
JoinsNew s _ = ⊤

admitted_joins : (unit : Unit) (s : RunState) (moment : ℤ) (asked : RunCommand) (command : Admitted)
    → admitted unit s moment asked ≡ Ok command → JoinsNew s command
admitted_joins unit s moment asked (enrols name) admits =
    joins_new unit s moment asked name (subst (Each (IsOf asked)) admits (admitted_is unit s moment asked)) admits
admitted_joins unit s moment asked command admits = tt

changed_names : (unit : Unit) (store : GlobalValues) (s t : RunState) (moment : ℤ) (command : Admitted)
    → t.persons ≡ s.persons → JoinsNew s command → HaveNamesOfTheirOwn s.persons
    → HaveNamesOfTheirOwn (directly_changed unit store t moment command).persons
changed_names unit store s t moment (enrols name) same new own =
    new_names t.persons name (subst HaveNamesOfTheirOwn (sym same) own) (ap (λ persons. person_number persons name) same ∙ new)
changed_names unit store s t moment (assigns p role) same new own =
    ap all_differ (names_stay t.persons p role true) ∙ subst HaveNamesOfTheirOwn (sym same) own
changed_names unit store s t moment (drops p role) same new own =
    ap all_differ (names_stay t.persons p role false) ∙ subst HaveNamesOfTheirOwn (sym same) own
changed_names unit store s t moment (opens p thing) same new own = by (is_some (t.cells (opened_cell thing (of_person p))))
  where
    by : (b : Bool)
        → HaveNamesOfTheirOwn (if b then t else with_cell t (opened_cell thing (of_person p)) (Some (moment_datum moment))).persons
    by true = subst HaveNamesOfTheirOwn (sym same) own
    by false = subst HaveNamesOfTheirOwn (sym same) own
changed_names unit store s t moment starts same new own = subst HaveNamesOfTheirOwn (sym same) own
changed_names unit store s t moment (completes p thing) same new own = subst HaveNamesOfTheirOwn (sym same) own
changed_names unit store s t moment (sets cell value) same new own = subst HaveNamesOfTheirOwn (sym same) own
changed_names unit store s t moment (clears cell) same new own = subst HaveNamesOfTheirOwn (sym same) own
changed_names unit store s t moment (gets cell) same new own = subst HaveNamesOfTheirOwn (sym same) own
changed_names unit store s t moment (shows_tree p) same new own = subst HaveNamesOfTheirOwn (sym same) own
changed_names unit store s t moment (shows_outbox p) same new own = subst HaveNamesOfTheirOwn (sym same) own
changed_names unit store s t moment reports same new own = subst HaveNamesOfTheirOwn (sym same) own
changed_names unit store s t moment ticks same new own = subst HaveNamesOfTheirOwn (sym same) own
changed_names unit store s t moment shows_next same new own = subst HaveNamesOfTheirOwn (sym same) own

-- ---- a command

settled_persons : (unit : Unit) (settles : Bool) (t : RunState) (x : Settlement) → settled settles unit t ≡ Ok x
    → x.state.persons ≡ t.persons
settled_persons unit settles t x is = elim (either_settled unit settles t x is) [
  | inl moved ↦
      settling_keeps unit (λ (u : RunState). u.persons ≡ t.persons) (λ u site fired here. persons_kept unit u site ∙ here) t x moved.1 refl
  | inr stayed ↦ ap (λ (u : RunState). u.persons) stayed.1
]

step_names : (unit : Unit) (s : RunState) (store : GlobalValues) (moment : ℤ) (asked : RunCommand) (d : DoneCommand)
    → run_step unit s store moment asked ≡ Ok d → HaveNamesOfTheirOwn s.persons → HaveNamesOfTheirOwn d.state.persons
step_names unit s store moment asked d is own =
    let stages = stages_of unit s store moment asked d is in
    let first = stages.settlings.first in
    let changed = directly_changed unit store first.state moment d.command in
    let kept : d.state.persons ≡ changed.persons =
    ap (λ (u : RunState). u.persons) stages.settlings.state
    ∙ settled_persons unit (has_change d.command && is_started changed) changed stages.settlings.second stages.settlings.settled_second in
    subst HaveNamesOfTheirOwn (sym kept)
    (changed_names unit store s first.state moment d.command
    (settled_persons unit (is_started s) (begun unit store s moment) first stages.settlings.settled_first)
    (admitted_joins unit s moment asked d.command stages.checked) own)

pub reached_names : (unit : Unit) (s : RunState) → IsReached unit s → HaveNamesOfTheirOwn s.persons
reached_names unit s (made seats store moment) = refl
reached_names unit s (left_by before store moment asked d reached is) =
    step_names unit before store moment asked d is (reached_names unit before reached)
