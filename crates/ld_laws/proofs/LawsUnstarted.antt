-- Until a run is started, no rule has said yes in it, nothing was opened, and no notice was sent.
use Rattle.std.proofs.Common.{◌≡◌, refl, sym, ap, ◌∙◌, ℕ, ℤ, List, length, slice_get, Option, Some, None, Bool, true, false, cond, is_some}
use Rattle.ld_base.specs.Maybe.{◌>>=◌}
use Rattle.ld_model.specs.declared.cell.CellName.{CellName}
use Rattle.ld_model.specs.declared.cell.CellName.TheVariants.{Started}
use Rattle.ld_model.specs.declared.cell.Owner.{Owner}
use Rattle.ld_model.specs.declared.unit.Unit.{Unit}
use Rattle.ld_names.specs.declared.rule.Rule.{Rule}
use Rattle.ld_names.specs.declared.rule.Rule.TheVariants.{CompletesActivity, CompletesStructure, OpensAct, CompletesPart, CompletesAct, CompletesPlay, CompletesUnit, JudgesCondition}
use Rattle.ld_names.specs.Rules.{rules_of}
use Rattle.ld_expr.specs.Seen.{says_yes, act_opened_cell, opened_cell, mark_cell}
use Rattle.ld_state.specs.GlobalValues.{GlobalValues}
use Rattle.ld_rules.specs.LawWords.{is_property}
use Rattle.ld_state.specs.RunCells.{begins_as, mark_begins, is_kept_by_run}
use Rattle.ld_state.specs.RunState.{RunState, made_at, joined, is_kept_for}
use Rattle.ld_state.proofs.Elements.{different}
use Rattle.ld_firing.proofs.LawsOpenings.{told_apart, settling_leaves_start}
use Rattle.ld_run.specs.Changes.{directly_changed}
use Rattle.ld_admission.specs.Checks.{is_started}
use Rattle.ld_admission.specs.Commands.{Admitted, enrols, assigns, drops, starts, opens, completes, sets, clears, gets, shows_tree, shows_outbox, reports, ticks, shows_next}
use Rattle.ld_run.specs.Reached.{IsReached}
use Rattle.ld_laws.specs.Untouched.{IsUntouched}
use Rattle.ld_run.proofs.LawsKept.{Fits, touches, change_leaves, IsLasting}
use Rattle.ld_laws.proofs.LawsOrder.{holds_if_reached}

abbrev UntouchedUntilStarted : RunState → Type 0
UntouchedUntilStarted s = is_started s ≡ false → IsUntouched s

-- ---- how marks begin

unmarked_at_first : (found : Option Rule) → says_yes (found >>= mark_begins) ≡ false
unmarked_at_first None = refl
unmarked_at_first (Some (CompletesActivity _)) = refl
unmarked_at_first (Some (CompletesStructure _)) = refl
unmarked_at_first (Some (OpensAct _ _)) = refl
unmarked_at_first (Some (CompletesPart _ _ _)) = refl
unmarked_at_first (Some (CompletesAct _ _)) = refl
unmarked_at_first (Some (CompletesPlay _)) = refl
unmarked_at_first (Some CompletesUnit) = refl
unmarked_at_first (Some (JudgesCondition _)) = refl

either : {A : Type 0} (b : Bool) (x y v : A) → x ≡ v → y ≡ v → cond b x y ≡ v
either true x y v this that = this
either false x y v this that = that

untouched_at_first : (unit : Unit) (seats : ℕ) (store : GlobalValues) (moment : ℤ) → IsUntouched (made_at seats unit store moment)
unfolding begins_as
untouched_at_first unit seats store moment = record {
  unmarked = λ rule owner. by (slice_get (rules_of unit) rule) (is_kept_by_run unit (mark_cell rule owner));
  no_act = λ thing. either (is_kept_by_run unit (act_opened_cell thing)) None None None refl refl;
  no_activity = λ thing owner. refl;
  no_notice = refl;
}
  where
    by : (found : Option Rule) (b : Bool) → says_yes (cond b (found >>= mark_begins) None) ≡ false
    by found true = unmarked_at_first found
    by found false = refl

joined_untouched : (unit : Unit) (store : GlobalValues) (s : RunState) (moment : ℤ) (name : List ℕ) → IsUntouched s → IsUntouched (joined unit store s moment name)
unfolding begins_as
joined_untouched unit store s moment name untouched = record {
  unmarked = λ rule owner. by rule owner (is_kept_for unit (length s.persons) (mark_cell rule owner));
  no_act = untouched.no_act;
  no_activity = λ thing owner. either (is_kept_for unit (length s.persons) (opened_cell thing owner)) None (s.cells (opened_cell thing owner)) None refl (untouched.no_activity thing owner);
  no_notice = untouched.no_notice;
}
  where
    by : (rule : ℕ) (owner : Owner) (b : Bool) → says_yes (cond b (slice_get (rules_of unit) rule >>= mark_begins) (s.cells (mark_cell rule owner))) ≡ false
    by rule owner true = unmarked_at_first (slice_get (rules_of unit) rule)
    by rule owner false = untouched.unmarked rule owner

-- ---- commands

-- A command that writes the value of a property writes none of these.
written_untouched : (unit : Unit) (store : GlobalValues) (t : RunState) (moment : ℤ) (command : Admitted) → ((cell : CellName) → is_property cell ≡ false → touches t command cell ≡ false)
    → (directly_changed unit store t moment command).outbox ≡ t.outbox → UntouchedUntilStarted t → UntouchedUntilStarted (directly_changed unit store t moment command)
written_untouched unit store t moment command other outbox held still =
    let same = λ (cell : CellName) (no_property : is_property cell ≡ false). change_leaves unit store t moment command cell (other cell no_property) in
    let untouched = held (sym (ap is_some (same Started refl)) ∙ still) in
    record {
      unmarked = λ rule owner. ap says_yes (same (mark_cell rule owner) refl) ∙ untouched.unmarked rule owner;
      no_act = λ thing. same (act_opened_cell thing) refl ∙ untouched.no_act thing;
      no_activity = λ thing owner. same (opened_cell thing owner) refl ∙ untouched.no_activity thing owner;
      no_notice = outbox ∙ untouched.no_notice;
    }

changed_untouched : (unit : Unit) (store : GlobalValues) (s t : RunState) (moment : ℤ) (command : Admitted) → Fits s command → (is_started s ≡ true → is_started t ≡ true) → UntouchedUntilStarted t
    → UntouchedUntilStarted (directly_changed unit store t moment command)
changed_untouched unit store s t moment (enrols name) fit starting held still = joined_untouched unit store t moment name (held still)
changed_untouched unit store s t moment (assigns p role) fit starting held still =
    let untouched = held still in
    record { unmarked = untouched.unmarked; no_act = untouched.no_act; no_activity = untouched.no_activity; no_notice = untouched.no_notice }
changed_untouched unit store s t moment (drops p role) fit starting held still =
    let untouched = held still in
    record { unmarked = untouched.unmarked; no_act = untouched.no_act; no_activity = untouched.no_activity; no_notice = untouched.no_notice }
changed_untouched unit store s t moment starts fit starting held still = different still
changed_untouched unit store s t moment (opens p thing) fit starting held still =
    different (sym (starting fit) ∙ sym (ap is_some (change_leaves unit store t moment (opens p thing) Started refl)) ∙ still)
changed_untouched unit store s t moment (completes p thing) fit starting held still =
    different (sym (starting fit) ∙ still)
changed_untouched unit store s t moment (sets name value) fit starting held still =
    written_untouched unit store t moment (sets name value) (λ cell no_property. told_apart is_property cell name no_property fit) refl held still
changed_untouched unit store s t moment (clears name) fit starting held still =
    written_untouched unit store t moment (clears name) (λ cell no_property. told_apart is_property cell name no_property fit) refl held still
changed_untouched unit store s t moment (gets cell) fit starting held still = held still
changed_untouched unit store s t moment (shows_tree p) fit starting held still = held still
changed_untouched unit store s t moment (shows_outbox p) fit starting held still = held still
changed_untouched unit store s t moment reports fit starting held still = held still
changed_untouched unit store s t moment ticks fit starting held still = held still
changed_untouched unit store s t moment shows_next fit starting held still = held still

untouched_lasts : (unit : Unit) → IsLasting unit UntouchedUntilStarted
untouched_lasts unit = record {
  settles = λ s x runs is held still. different (sym runs ∙ sym (ap is_some (settling_leaves_start unit s x is)) ∙ still);
  begins = λ s store moment held still. let untouched = held still in record {
    unmarked = untouched.unmarked;
    no_act = untouched.no_act;
    no_activity = untouched.no_activity;
    no_notice = untouched.no_notice;
  };
  changes = λ s t store moment command fit starting before held. changed_untouched unit store s t moment command fit starting held;
}

-- A state that a run comes to and that is not started is untouched.
pub untouched_until_started : (unit : Unit) (s : RunState) → IsReached unit s → is_started s ≡ false → IsUntouched s
untouched_until_started unit s reached =
    holds_if_reached unit UntouchedUntilStarted (untouched_lasts unit) (λ seats store moment still. untouched_at_first unit seats store moment) s reached
