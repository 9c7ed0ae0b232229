-- When a run was started and when an activity was first opened stay as they are through each command that is
-- done. (Through firings and settlings: proofs/LawsOpenings of ld_firing.)
use Rattle.std.proofs.Common.{◌≡◌, refl, sym, ap, ◌∙◌, ℕ, ℤ, length, Option, Some, Ok, Bool, true, false, is_some, if◌then◌else◌}
use Rattle.ld_value.specs.Datum.{Datum, moment_datum}
use Rattle.ld_model.specs.Cells.{same_cell}
use Rattle.ld_model.specs.declared.cell.CellName.{CellName}
use Rattle.ld_model.specs.declared.cell.CellName.TheVariants.{Started}
use Rattle.ld_model.specs.declared.cell.Owner.{Owner}
use Rattle.ld_model.specs.declared.unit.Unit.{Unit}
use Rattle.ld_lines.specs.declared.command.RunCommand.{RunCommand}
use Rattle.ld_expr.specs.Owners.{of_person}
use Rattle.ld_expr.specs.Seen.{opened_cell}
use Rattle.ld_firing.specs.Actions.{site_firing}
use Rattle.ld_state.specs.GlobalValues.{GlobalValues}
use Rattle.ld_rules.specs.LawWords.{HasOwner, is_property}
use Rattle.ld_state.specs.RunState.{RunState, with_cell}
use Rattle.ld_state.proofs.Elements.{different}
use Rattle.ld_firing.proofs.LawsCells.{owner_stays}
use Rattle.ld_firing.proofs.LawsKept.{settling_keeps}
use Rattle.ld_firing.proofs.LawsOpenings.{told_apart, firing_leaves, settling_leaves_start}
use Rattle.ld_state.proofs.SameCells.{one_cell}
use Rattle.ld_firing.proofs.SeatsKept.{persons_kept}
use Rattle.ld_run.specs.Changes.{directly_changed, with_first}
use Rattle.ld_admission.specs.Commands.{Admitted, enrols, assigns, drops, starts, opens, completes, sets, clears, gets, shows_tree, shows_outbox, reports, ticks, shows_next}
use Rattle.ld_run.specs.RunStep.{DoneCommand, run_step}
use Rattle.ld_run.proofs.LawsKept.{Fits, touches, change_leaves, begun, IsLasting, step_keeps}
use Rattle.ld_laws.proofs.LawsLatching.{owner_after}
use Rattle.ld_run.proofs.Joining.{not_joining}

-- ---- the start

is_there : (o : Option Datum) (value : Datum) → o ≡ Some value → is_some o ≡ true
is_there o value is = ap is_some is

-- No command writes it once it is there.
start_untouched : (s t : RunState) (command : Admitted) (value : Datum) → Fits s command → s.cells Started ≡ Some value → touches t command Started ≡ false
start_untouched s t (enrols name) value fit was = refl
start_untouched s t (assigns p role) value fit was = refl
start_untouched s t (drops p role) value fit was = refl
start_untouched s t starts value fit was = different (sym (is_there (s.cells Started) value was) ∙ fit)
start_untouched s t (opens p thing) value fit was = refl
start_untouched s t (completes p thing) value fit was = refl
start_untouched s t (sets name new) value fit was = told_apart is_property Started name refl fit
start_untouched s t (clears name) value fit was = told_apart is_property Started name refl fit
start_untouched s t (gets name) value fit was = refl
start_untouched s t (shows_tree p) value fit was = refl
start_untouched s t (shows_outbox p) value fit was = refl
start_untouched s t reports value fit was = refl
start_untouched s t ticks value fit was = refl
start_untouched s t shows_next value fit was = refl

start_lasts : (unit : Unit) (value : Datum) → IsLasting unit (λ s. s.cells Started ≡ Some value)
start_lasts unit value = record {
  settles = λ s x runs is was. settling_leaves_start unit s x is ∙ was;
  begins = λ s store moment was. was;
  changes = λ s t store moment command fit starting before was.
      change_leaves unit store t moment command Started (start_untouched s t command value fit before) ∙ was;
}

-- A run that was started stays started, and at the same moment.
pub step_leaves_start : (unit : Unit) (s : RunState) (store : GlobalValues) (moment : ℤ) (asked : RunCommand) (d : DoneCommand) (value : Datum)
    → run_step unit s store moment asked ≡ Ok d → s.cells Started ≡ Some value → d.state.cells Started ≡ Some value
step_leaves_start unit s store moment asked d value is was =
    step_keeps unit (λ t. t.cells Started ≡ Some value) (start_lasts unit value) s store moment asked d is was

-- ---- activities

-- The owner is one of the run, and first opened the thing at this moment.
record WasOpened (thing : ℕ) (owner : Owner) (value : Datum) (s : RunState) : Type 0 where
  has : HasOwner s owner
  opened : s.cells (opened_cell thing owner) ≡ Some value

-- A cell that has a value stays as it is where one gets its first.
first_leaves : (s : RunState) (cell name : CellName) (value new : Datum) → s.cells cell ≡ Some value → (with_first s name new).cells cell ≡ Some value
first_leaves s cell name value new was = by (is_some (s.cells name)) refl
  where
    apart : is_some (s.cells name) ≡ false → (same : Bool) → same_cell cell name ≡ same → same ≡ false
    apart none false other = refl
    apart none true same = different (sym (is_there (s.cells cell) value was) ∙ ap (λ c. is_some (s.cells c)) (one_cell cell name same) ∙ none)

    by : (b : Bool) → is_some (s.cells name) ≡ b → (if b then s else with_cell s name (Some new)).cells cell ≡ Some value
    by true there = was
    by false none = rw (apart none (same_cell cell name) refl) was

opening_stays : (unit : Unit) (store : GlobalValues) (s t : RunState) (moment : ℤ) (command : Admitted) (thing : ℕ) (owner : Owner) (value : Datum) → Fits s command → WasOpened thing owner value t
    → (directly_changed unit store t moment command).cells (opened_cell thing owner) ≡ Some value
opening_stays unit store s t moment (enrols name) thing owner value fit was =
    change_leaves unit store t moment (enrols name) (opened_cell thing owner) (not_joining t owner was.has) ∙ was.opened
opening_stays unit store s t moment (assigns p role) thing owner value fit was = was.opened
opening_stays unit store s t moment (drops p role) thing owner value fit was = was.opened
opening_stays unit store s t moment starts thing owner value fit was = was.opened
opening_stays unit store s t moment (opens p other) thing owner value fit was =
    first_leaves t (opened_cell thing owner) (opened_cell other (of_person p)) value (moment_datum moment) was.opened
opening_stays unit store s t moment (completes p other) thing owner value fit was = was.opened
opening_stays unit store s t moment (sets name new) thing owner value fit was =
    change_leaves unit store t moment (sets name new) (opened_cell thing owner) (told_apart is_property (opened_cell thing owner) name refl fit) ∙ was.opened
opening_stays unit store s t moment (clears name) thing owner value fit was =
    change_leaves unit store t moment (clears name) (opened_cell thing owner) (told_apart is_property (opened_cell thing owner) name refl fit) ∙ was.opened
opening_stays unit store s t moment (gets name) thing owner value fit was = was.opened
opening_stays unit store s t moment (shows_tree p) thing owner value fit was = was.opened
opening_stays unit store s t moment (shows_outbox p) thing owner value fit was = was.opened
opening_stays unit store s t moment reports thing owner value fit was = was.opened
opening_stays unit store s t moment ticks thing owner value fit was = was.opened
opening_stays unit store s t moment shows_next thing owner value fit was = was.opened

opening_lasts : (unit : Unit) (thing : ℕ) (owner : Owner) (value : Datum) → IsLasting unit (WasOpened thing owner value)
opening_lasts unit thing owner value = record {
  settles = λ s x runs is was. settling_keeps unit (WasOpened thing owner value)
      (λ t site fired told. record {
        has = owner_stays t (site_firing unit t site).state owner (ap length (persons_kept unit t site)) told.has;
        opened = firing_leaves unit t site (opened_cell thing owner) refl refl ∙ told.opened;
      }) s x is was;
  begins = λ s store moment was. record { has = owner_stays s (begun unit store s moment) owner refl was.has; opened = was.opened };
  changes = λ s t store moment command fit starting before was. record {
    has = owner_after unit store t moment command owner was.has;
    opened = opening_stays unit store s t moment command thing owner value fit was;
  };
}

-- When a person of the run first opened an activity stays as it is.
pub step_leaves_opening : (unit : Unit) (s : RunState) (store : GlobalValues) (moment : ℤ) (asked : RunCommand) (d : DoneCommand) (thing : ℕ) (owner : Owner) (value : Datum)
    → run_step unit s store moment asked ≡ Ok d → HasOwner s owner
    → s.cells (opened_cell thing owner) ≡ Some value → d.state.cells (opened_cell thing owner) ≡ Some value
step_leaves_opening unit s store moment asked d thing owner value is has was =
    (step_keeps unit (WasOpened thing owner value) (opening_lasts unit thing owner value) s store moment asked d is (record { has = has; opened = was })).opened
