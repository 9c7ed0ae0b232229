-- The stages of a command that was done; and that a command which tells of no turns, or leaves a run unstarted, sets
-- nothing off in it.
use Rattle.std.proofs.Common.{◌≡◌, refl, sym, ap, subst, ◌∙◌, ℕ, ℤ, inl, inr, length, Option, Some, None, Result, Ok, Err, Bool, true, false, ◌&&◌, is_some}
use Rattle.ld_value.specs.Datum.{Datum}
use Rattle.ld_model.specs.Cells.{same_cell}
use Rattle.ld_model.specs.declared.cell.CellName.{CellName}
use Rattle.ld_model.specs.declared.cell.CellName.TheVariants.{Prop, Vis, Member, Chosen, Opened, ActOpened, Started, Mark, Now, Roster}
use Rattle.ld_model.specs.declared.cell.Owner.{Owner}
use Rattle.ld_model.specs.declared.unit.Unit.{Unit}
use Rattle.ld_lines.specs.declared.command.RunCommand.{RunCommand}
use Rattle.ld_expr.specs.Seen.{mark_cell, opened_cell, act_opened_cell}
use Rattle.ld_state.specs.GlobalValues.{GlobalValues}
use Rattle.ld_state.specs.RunState.{RunState, is_cell_of}
use Rattle.ld_state.proofs.Elements.{different}
use Rattle.ld_rules.specs.LawWords.{HasOwner, is_property}
use Rattle.ld_firing.specs.RunSettling.{Settlement}
use Rattle.ld_firing.proofs.LawsKept.{FiringsKeep, settling_keeps}
use Rattle.ld_firing.proofs.LawsOpenings.{told_apart, settling_leaves_start}
use Rattle.ld_run.specs.Changes.{directly_changed, has_change}
use Rattle.ld_admission.specs.Checks.{admitted, is_started}
use Rattle.ld_admission.specs.Commands.{Admitted, enrols, assigns, drops, starts, opens, completes, sets, clears, gets, shows_tree, shows_outbox, reports, ticks, shows_next}
use Rattle.ld_admission.specs.Refusals.{Refusal}
use Rattle.ld_run.specs.RunStep.{DoneCommand, done_by, run_step, settled}
use Rattle.ld_run.proofs.LawsKept.{Fits, fits, touches, change_leaves, begun}
use Rattle.ld_run.proofs.LawsNotices.{changed_outbox}
use Rattle.ld_run.proofs.Settlings.{HasSettlings, each_itself, each_settling, either_settled, no_turns}
use Rattle.ld_run.proofs.Joining.{not_joining}
use Rattle.ld_laws.proofs.LawsOpenings.{step_leaves_start}
use Rattle.ld_run.proofs.SeatsOfChecks.{Each}
use Rattle.ld_run.proofs.SeatsOfSteps.{bound_where}

-- ---- the stages of a step

-- A command that was done: the checks admit it, and then it settles and changes the run.
pub record HasStages (unit : Unit) (s : RunState) (store : GlobalValues) (moment : ℤ) (asked : RunCommand) (d : DoneCommand) : Type 0 where
  pub checked : admitted unit s moment asked ≡ Ok d.command
  pub settlings : HasSettlings unit s store moment d.command d

each_so : {A : Type 0} {P Q : A → Type 0} (r : Result A Refusal) → ((x : A) → P x → Q x) → Each P r → Each Q r
each_so (Ok x) so each = so x each
each_so (Err refusal) so each = tt

each_staged : (unit : Unit) (s : RunState) (store : GlobalValues) (moment : ℤ) (asked : RunCommand)
    → Each (HasStages unit s store moment asked) (run_step unit s store moment asked)
unfolding run_step
each_staged unit s store moment asked =
    bound_where (λ (command : Admitted). admitted unit s moment asked ≡ Ok command) (HasStages unit s store moment asked)
    (admitted unit s moment asked) (done_by unit s store moment) (each_itself (admitted unit s moment asked)) λ command checked.
    each_so (done_by unit s store moment command) (λ d both. record {
      checked = checked ∙ ap Ok (sym both.told);
      settlings = subst (λ (one : Admitted). HasSettlings unit s store moment one d) (sym both.told) both;
    }) (each_settling unit s store moment command)

pub stages_of : (unit : Unit) (s : RunState) (store : GlobalValues) (moment : ℤ) (asked : RunCommand) (d : DoneCommand)
    → run_step unit s store moment asked ≡ Ok d → HasStages unit s store moment asked d
stages_of unit s store moment asked d is = subst (Each (HasStages unit s store moment asked)) is (each_staged unit s store moment asked)

settled_keeps : (unit : Unit) (P : RunState → Type 0) → FiringsKeep unit P → (settles : Bool) (t : RunState) (x : Settlement) → settled settles unit t ≡ Ok x → P t → P x.state
settled_keeps unit P kept settles t x is holds = elim (either_settled unit settles t x is) [
  | inl moved ↦ settling_keeps unit P kept t x moved.1 holds
  | inr stayed ↦ subst P (sym stayed.1) holds
]

-- What holds once the moment and the store's values are taken in, and what firings and the command's own change
-- keep, holds after the command.
pub kept_from_begin : (unit : Unit) (s : RunState) (store : GlobalValues) (moment : ℤ) (asked : RunCommand) (d : DoneCommand) (P : RunState → Type 0)
    → run_step unit s store moment asked ≡ Ok d → FiringsKeep unit P
    → ((t : RunState) → Fits s d.command → P t → P (directly_changed unit store t moment d.command))
    → P (begun unit store s moment) → P d.state
kept_from_begin unit s store moment asked d P is kept changes holds =
    let stages = stages_of unit s store moment asked d is in
    let fit : Fits s d.command = subst (Each (Fits s)) stages.checked (fits unit s moment asked) in
    let changed = directly_changed unit store stages.settlings.first.state moment d.command in
    subst P (sym stages.settlings.state)
    (settled_keeps unit P kept (has_change d.command && is_started changed) changed stages.settlings.second stages.settlings.settled_second
    (changes stages.settlings.first.state fit (settled_keeps unit P kept (is_started s) (begun unit store s moment) stages.settlings.first stages.settlings.settled_first holds)))

-- ---- a command that tells of no turns

-- A command that tells of no turns did its own change alone: no rule fired.
pub no_turns_step : (unit : Unit) (s : RunState) (store : GlobalValues) (moment : ℤ) (asked : RunCommand) (d : DoneCommand)
    → run_step unit s store moment asked ≡ Ok d → d.turns ≡ 0
    → d.state ≡ directly_changed unit store (begun unit store s moment) moment d.command
no_turns_step unit s store moment asked d is none =
    no_turns unit s store moment d.command d (stages_of unit s store moment asked d is).settlings none

-- ---- a command that leaves the run unstarted

unstarted_by : (o : Option Datum) → ((value : Datum) → o ≡ Some value → is_some o ≡ false) → is_some o ≡ false
unstarted_by None told = refl
unstarted_by (Some value) told = told value refl

-- It found the run unstarted.
pub unstarted_before : (unit : Unit) (s : RunState) (store : GlobalValues) (moment : ℤ) (asked : RunCommand) (d : DoneCommand)
    → run_step unit s store moment asked ≡ Ok d → is_started d.state ≡ false → is_started s ≡ false
unstarted_before unit s store moment asked d is still =
    unstarted_by (s.cells Started) λ value was.
    different (sym (ap is_some (step_leaves_start unit s store moment asked d value is was)) ∙ still)

-- What it does is its own change alone: no rule fires.
pub unstarted_step : (unit : Unit) (s : RunState) (store : GlobalValues) (moment : ℤ) (asked : RunCommand) (d : DoneCommand)
    → run_step unit s store moment asked ≡ Ok d → is_started d.state ≡ false
    → d.state ≡ directly_changed unit store (begun unit store s moment) moment d.command
unstarted_step unit s store moment asked d is still =
    stages.settlings.state ∙ second ∙ ap (λ (t : RunState). directly_changed unit store t moment d.command) first
  where
    stages : HasStages unit s store moment asked d
    stages = stages_of unit s store moment asked d is

    both_so : (a b : Bool) → (a && b) ≡ true → b ≡ true
    both_so true b is = is
    both_so false b is = different (sym is)

    first : stages.settlings.first.state ≡ begun unit store s moment
    first = elim (either_settled unit (is_started s) (begun unit store s moment) stages.settlings.first stages.settlings.settled_first) [
      | inl moved ↦ different (sym moved.0 ∙ unstarted_before unit s store moment asked d is still)
      | inr stayed ↦ stayed.1
    ]

    changed : RunState
    changed = directly_changed unit store stages.settlings.first.state moment d.command

    second : stages.settlings.second.state ≡ directly_changed unit store stages.settlings.first.state moment d.command
    second = elim (either_settled unit (has_change d.command && is_started changed) changed stages.settlings.second stages.settlings.settled_second) [
      | inl moved ↦ different (sym (both_so (has_change d.command) (is_started changed) moved.0)
          ∙ sym (ap is_some (settling_leaves_start unit changed stages.settlings.second moved.1)) ∙ sym (ap is_started stages.settlings.state) ∙ still)
      | inr stayed ↦ stayed.1
    ]

-- ---- what such a command leaves

-- What was begun has the same but for the moment and the values of properties.
begin_leaves : (unit : Unit) (store : GlobalValues) (s : RunState) (moment : ℤ) (cell : CellName) → is_property cell ≡ false → same_cell cell Now ≡ false
    → (begun unit store s moment).cells cell ≡ s.cells cell
begin_leaves unit store s moment (Prop n owner) no_property other = different no_property
begin_leaves unit store s moment (Vis t p) no_property other = refl
begin_leaves unit store s moment (Member r p) no_property other = refl
begin_leaves unit store s moment (Chosen t owner) no_property other = refl
begin_leaves unit store s moment (Opened t owner) no_property other = refl
begin_leaves unit store s moment (ActOpened t) no_property other = refl
begin_leaves unit store s moment Started no_property other = refl
begin_leaves unit store s moment (Mark r owner) no_property other = refl
begin_leaves unit store s moment Now no_property other = different other
begin_leaves unit store s moment Roster no_property other = refl

-- The command's own change writes values of properties and the cells of a person who joins alone.
unstarted_untouched : (unit : Unit) (store : GlobalValues) (s t : RunState) (moment : ℤ) (command : Admitted) (cell : CellName) → Fits s command → is_started s ≡ false
    → is_started (directly_changed unit store t moment command) ≡ false → is_property cell ≡ false → is_cell_of (length t.persons) cell ≡ false → touches t command cell ≡ false
unstarted_untouched unit store s t moment (enrols name) cell fit before still no_property joining = joining
unstarted_untouched unit store s t moment (assigns p role) cell fit before still no_property joining = refl
unstarted_untouched unit store s t moment (drops p role) cell fit before still no_property joining = refl
unstarted_untouched unit store s t moment starts cell fit before still no_property joining = different still
unstarted_untouched unit store s t moment (opens p thing) cell fit before still no_property joining = different (sym fit ∙ before)
unstarted_untouched unit store s t moment (completes p thing) cell fit before still no_property joining = different (sym fit ∙ before)
unstarted_untouched unit store s t moment (sets name value) cell fit before still no_property joining = told_apart is_property cell name no_property fit
unstarted_untouched unit store s t moment (clears name) cell fit before still no_property joining = told_apart is_property cell name no_property fit
unstarted_untouched unit store s t moment (gets name) cell fit before still no_property joining = refl
unstarted_untouched unit store s t moment (shows_tree p) cell fit before still no_property joining = refl
unstarted_untouched unit store s t moment (shows_outbox p) cell fit before still no_property joining = refl
unstarted_untouched unit store s t moment reports cell fit before still no_property joining = refl
unstarted_untouched unit store s t moment ticks cell fit before still no_property joining = refl
unstarted_untouched unit store s t moment shows_next cell fit before still no_property joining = refl

-- A command that leaves the run unstarted leaves each cell as it was but the moment, the values of properties, and
-- the cells of a person who joins.
pub unstarted_leaves : (unit : Unit) (s : RunState) (store : GlobalValues) (moment : ℤ) (asked : RunCommand) (d : DoneCommand) (cell : CellName)
    → run_step unit s store moment asked ≡ Ok d → is_started d.state ≡ false
    → is_property cell ≡ false → same_cell cell Now ≡ false → is_cell_of (length s.persons) cell ≡ false
    → d.state.cells cell ≡ s.cells cell
unstarted_leaves unit s store moment asked d cell is still no_property other joining =
    let step = unstarted_step unit s store moment asked d is still in
    let fit : Fits s d.command = subst (Each (Fits s)) (stages_of unit s store moment asked d is).checked (fits unit s moment asked) in
    ap (λ (t : RunState). t.cells cell) step
    ∙ change_leaves unit store (begun unit store s moment) moment d.command cell
    (unstarted_untouched unit store s (begun unit store s moment) moment d.command cell fit (unstarted_before unit s store moment asked d is still)
    (sym (ap is_started step) ∙ still) no_property joining)
    ∙ begin_leaves unit store s moment cell no_property other

-- It leaves the mark of each rule, for the run and for each person that it has.
pub unstarted_leaves_mark : (unit : Unit) (s : RunState) (store : GlobalValues) (moment : ℤ) (asked : RunCommand) (d : DoneCommand) (rule : ℕ) (owner : Owner)
    → run_step unit s store moment asked ≡ Ok d → is_started d.state ≡ false → HasOwner s owner
    → d.state.cells (mark_cell rule owner) ≡ s.cells (mark_cell rule owner)
unstarted_leaves_mark unit s store moment asked d rule owner is still has =
    unstarted_leaves unit s store moment asked d (mark_cell rule owner) is still refl refl (not_joining s owner has)

-- It leaves when each act was opened,
pub unstarted_leaves_act : (unit : Unit) (s : RunState) (store : GlobalValues) (moment : ℤ) (asked : RunCommand) (d : DoneCommand) (thing : ℕ)
    → run_step unit s store moment asked ≡ Ok d → is_started d.state ≡ false
    → d.state.cells (act_opened_cell thing) ≡ s.cells (act_opened_cell thing)
unstarted_leaves_act unit s store moment asked d thing is still = unstarted_leaves unit s store moment asked d (act_opened_cell thing) is still refl refl refl

-- and when each activity was, by the persons that the run has.
pub unstarted_leaves_opening : (unit : Unit) (s : RunState) (store : GlobalValues) (moment : ℤ) (asked : RunCommand) (d : DoneCommand) (thing : ℕ) (owner : Owner)
    → run_step unit s store moment asked ≡ Ok d → is_started d.state ≡ false → HasOwner s owner
    → d.state.cells (opened_cell thing owner) ≡ s.cells (opened_cell thing owner)
unstarted_leaves_opening unit s store moment asked d thing owner is still has =
    unstarted_leaves unit s store moment asked d (opened_cell thing owner) is still refl refl (not_joining s owner has)

-- It sends no notice.
pub unstarted_sends_nothing : (unit : Unit) (s : RunState) (store : GlobalValues) (moment : ℤ) (asked : RunCommand) (d : DoneCommand)
    → run_step unit s store moment asked ≡ Ok d → is_started d.state ≡ false → d.state.outbox ≡ s.outbox
unstarted_sends_nothing unit s store moment asked d is still =
    ap (λ (t : RunState). t.outbox) (unstarted_step unit s store moment asked d is still)
    ∙ changed_outbox unit store (begun unit store s moment) moment d.command
