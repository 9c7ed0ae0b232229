-- What a rule that is no condition has once said yes to stays so, through each command that is done.
use Rattle.std.proofs.Common.{◌≡◌, refl, ap, ◌∙◌, ℕ, ℤ, [], ◌∷◌, length, Some, Ok, is_some, if◌then◌else◌, Bool, true, false, arith, length-append}
use Rattle.ld_value.specs.Datum.{Datum, moment_datum}
use Rattle.ld_model.specs.Cells.{same_cell}
use Rattle.ld_model.specs.declared.cell.CellName.{CellName}
use Rattle.ld_model.specs.declared.cell.CellName.TheVariants.{Started}
use Rattle.ld_model.specs.declared.cell.Owner.{Owner}
use Rattle.ld_model.specs.declared.cell.Owner.TheVariants.{Run, Person}
use Rattle.ld_model.specs.declared.unit.Unit.{Unit}
use Rattle.ld_lines.specs.declared.command.RunCommand.{RunCommand}
use Rattle.ld_expr.specs.Owners.{of_person}
use Rattle.ld_expr.specs.Seen.{says_yes, mark_cell, chosen_cell, opened_cell}
use Rattle.ld_roles.specs.Roster.{newcomer, with_role}
use Rattle.ld_firing.specs.Actions.{site_firing}
use Rattle.ld_state.specs.GlobalValues.{GlobalValues}
use Rattle.ld_rules.specs.LawWords.{is_marked, is_for_good, is_property, HasOwner}
use Rattle.ld_state.specs.RunState.{RunState, with_cell, is_cell_of}
use Rattle.ld_firing.proofs.LawsCells.{owner_stays}
use Rattle.ld_firing.proofs.LawsKept.{settling_keeps}
use Rattle.ld_firing.proofs.LawsLatching.{firing_latches}
use Rattle.ld_firing.proofs.LawsOpenings.{told_apart}
use Rattle.ld_firing.proofs.SeatsKept.{persons_kept}
use Rattle.ld_run.specs.Changes.{directly_changed, with_first}
use Rattle.ld_admission.specs.Commands.{Admitted, enrols, assigns, drops, starts, opens, completes, sets, clears, gets, shows_tree, shows_outbox, reports, ticks, shows_next}
use Rattle.ld_run.specs.RunStep.{DoneCommand, run_step}
use Rattle.ld_run.proofs.Joining.{not_joining}
use Rattle.ld_run.proofs.LawsKept.{Fits, touches, change_leaves, begun, IsLasting, step_keeps}
use Rattle.ld_run.proofs.SeatsOfStages.{length-changed}

-- ---- owners

first_persons : (s : RunState) (cell : CellName) (value : Datum) → (with_first s cell value).persons ≡ s.persons
first_persons s cell value = by (is_some (s.cells cell))
  where
    by : (b : Bool) → (if b then s else with_cell s cell (Some value)).persons ≡ s.persons
    by true = refl
    by false = refl

-- No command takes an owner away.
pub owner_after : (unit : Unit) (store : GlobalValues) (s : RunState) (moment : ℤ) (command : Admitted) (owner : Owner) → HasOwner s owner → HasOwner (directly_changed unit store s moment command) owner
owner_after unit store s moment command Run has = tt
owner_after unit store s moment (enrols name) (Person p) has = omega (arith, has, length-append s.persons (newcomer name ∷ []))
owner_after unit store s moment (assigns q role) (Person p) has = omega (arith, has, length-changed (with_role role true) q s.persons)
owner_after unit store s moment (drops q role) (Person p) has = omega (arith, has, length-changed (with_role role false) q s.persons)
owner_after unit store s moment starts (Person p) has = has
owner_after unit store s moment (opens q thing) (Person p) has = omega (arith, has, ap length (first_persons s (opened_cell thing (of_person q)) (moment_datum moment)))
owner_after unit store s moment (completes q thing) (Person p) has = has
owner_after unit store s moment (sets cell value) (Person p) has = has
owner_after unit store s moment (clears cell) (Person p) has = has
owner_after unit store s moment (gets cell) (Person p) has = has
owner_after unit store s moment (shows_tree q) (Person p) has = has
owner_after unit store s moment (shows_outbox q) (Person p) has = has
owner_after unit store s moment reports (Person p) has = has
owner_after unit store s moment ticks (Person p) has = has
owner_after unit store s moment shows_next (Person p) has = has

-- ---- marks

-- No command writes a cell that is no property, not when the run was started or what a person has chosen or
-- opened, and not one of a person who joins.
pub record IsLeft (s : RunState) (cell : CellName) : Type 0 where
  pub property : is_property cell ≡ false
  pub joining : is_cell_of (length s.persons) cell ≡ false
  pub started : same_cell cell Started ≡ false
  pub opened : (thing : ℕ) (p : ℕ) → same_cell cell (opened_cell thing (of_person p)) ≡ false
  pub chosen : (thing : ℕ) (p : ℕ) → same_cell cell (chosen_cell thing p) ≡ false

pub left_untouched : (s t : RunState) (command : Admitted) (cell : CellName) → Fits s command → IsLeft t cell → touches t command cell ≡ false
left_untouched s t (enrols name) cell fit left = left.joining
left_untouched s t (assigns p role) cell fit left = refl
left_untouched s t (drops p role) cell fit left = refl
left_untouched s t starts cell fit left = left.started
left_untouched s t (opens p thing) cell fit left = left.opened thing p
left_untouched s t (completes p thing) cell fit left = left.chosen thing p
left_untouched s t (sets name value) cell fit left = told_apart is_property cell name left.property fit
left_untouched s t (clears name) cell fit left = told_apart is_property cell name left.property fit
left_untouched s t (gets name) cell fit left = refl
left_untouched s t (shows_tree p) cell fit left = refl
left_untouched s t (shows_outbox p) cell fit left = refl
left_untouched s t reports cell fit left = refl
left_untouched s t ticks cell fit left = refl
left_untouched s t shows_next cell fit left = refl

pub mark_left : (s : RunState) (rule : ℕ) (owner : Owner) → HasOwner s owner → IsLeft s (mark_cell rule owner)
mark_left s rule owner has = record {
  property = refl;
  joining = not_joining s owner has;
  started = refl;
  opened = λ thing p. refl;
  chosen = λ thing p. refl;
}

-- The owner is one of the run, and the rule has said yes to it.
record IsYes (rule : ℕ) (owner : Owner) (s : RunState) : Type 0 where
  has : HasOwner s owner
  told : is_marked s rule owner ≡ true

yes_lasts : (unit : Unit) (rule : ℕ) (owner : Owner) → is_for_good unit rule ≡ true → IsLasting unit (IsYes rule owner)
yes_lasts unit rule owner good = record {
  settles = λ s x runs is yes. settling_keeps unit (IsYes rule owner)
      (λ t site fired told. record {
        has = owner_stays t (site_firing unit t site).state owner (ap length (persons_kept unit t site)) told.has;
        told = firing_latches unit t site rule owner good told.told;
      }) s x is yes;
  begins = λ s store moment yes. record { has = owner_stays s (begun unit store s moment) owner refl yes.has; told = yes.told };
  changes = λ s t store moment command fit starting before yes. record {
    has = owner_after unit store t moment command owner yes.has;
    told = ap says_yes (change_leaves unit store t moment command (mark_cell rule owner) (left_untouched s t command (mark_cell rule owner) fit (mark_left t rule owner yes.has))) ∙ yes.told;
  };
}

-- A mark of a rule that is no condition, once it says yes, says yes after each command that is done, for the run
-- and for each person that it has.
pub step_latches : (unit : Unit) (s : RunState) (store : GlobalValues) (moment : ℤ) (asked : RunCommand) (d : DoneCommand) (rule : ℕ) (owner : Owner)
    → run_step unit s store moment asked ≡ Ok d → is_for_good unit rule ≡ true → HasOwner s owner
    → is_marked s rule owner ≡ true → is_marked d.state rule owner ≡ true
step_latches unit s store moment asked d rule owner is good has told =
    (step_keeps unit (IsYes rule owner) (yes_lasts unit rule owner good) s store moment asked d is (record { has = has; told = told })).told
