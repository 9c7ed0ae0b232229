-- When acts are opened: at the moment of the command that sets it off, and once.
use Rattle.std.proofs.Common.{◌≡◌, refl, sym, ap, ap₂, ◌∙◌, ℕ, ℤ, ◌⊎◌, inl, inr, length, Option, Some, Ok, Bool, true, false, is_some}
use Rattle.ld_cascade.specs.System.{due}
use Rattle.ld_value.specs.Datum.{Datum, moment_datum}
use Rattle.ld_model.specs.declared.cell.CellName.TheVariants.{Now}
use Rattle.ld_model.specs.declared.cell.Owner.{Owner}
use Rattle.ld_model.specs.declared.cell.Owner.TheVariants.{Run}
use Rattle.ld_model.specs.declared.unit.Unit.{Unit}
use Rattle.ld_names.specs.declared.rule.Rule.{Rule}
use Rattle.ld_names.specs.declared.rule.Rule.TheVariants.{CompletesActivity, CompletesStructure, OpensAct, CompletesPart, CompletesAct, CompletesPlay, CompletesUnit, JudgesCondition}
use Rattle.ld_names.specs.Rules.{Site, kind_of, is_for_persons}
use Rattle.ld_lines.specs.declared.command.RunCommand.{RunCommand}
use Rattle.ld_expr.specs.Lookup.{is_some_and}
use Rattle.ld_expr.specs.Seen.{says_yes, act_opened_cell}
use Rattle.ld_state.specs.GlobalValues.{GlobalValues}
use Rattle.ld_state.specs.RunState.{RunState}
use Rattle.ld_state.proofs.Elements.{none_is_some, different}
use Rattle.ld_firing.specs.Actions.{opened_by}
use Rattle.ld_rules.specs.LawWords.{IsValid, is_marked, is_for_good}
use Rattle.ld_rules.specs.SiteTests.{says_for_good, site_mark}
use Rattle.ld_firing.specs.SiteWalk.{HasSeats}
use Rattle.ld_firing.proofs.LawsKept.{IsFired, FiringsKeep, settling_keeps}
use Rattle.ld_firing.proofs.LawsLatching.{test_latched, firing_latches}
use Rattle.ld_firing.proofs.LawsOpenings.{firing_leaves}
use Rattle.ld_firing.proofs.Sites.{IsOwner, a_person, the_run}
use Rattle.ld_run.specs.Reached.{IsReached}
use Rattle.ld_run.specs.RunStep.{DoneCommand, run_step}
use Rattle.ld_run.proofs.LawsKept.{IsLasting, step_keeps}
use Rattle.ld_laws.proofs.LawsUnmoved.{kept_from_begin}
use Rattle.ld_laws.proofs.ActOpenings.{firing_opens, change_leaves_act, change_leaves_now, change_leaves_run_mark}
use Rattle.ld_laws.specs.ActLaws.{IsOpener}
use Rattle.ld_laws.proofs.LawsOpeners.{opened_is_yes, yes_verdict}

-- ---- the moment of an opening

-- The clock shows this moment, and the act was opened as before or at this moment.
record OpensNow (thing : ℕ) (was now : Option Datum) (t : RunState) : Type 0 where
  clock : t.cells Now ≡ now
  opening : (t.cells (act_opened_cell thing) ≡ was) ⊎ (t.cells (act_opened_cell thing) ≡ now)

either_on : {a b was now : Option Datum} → a ≡ b → (b ≡ was) ⊎ (b ≡ now) → (a ≡ was) ⊎ (a ≡ now)
either_on same (inl before) = inl (same ∙ before)
either_on same (inr opened) = inr (same ∙ opened)

firing_opens_now : (unit : Unit) (thing : ℕ) (was now : Option Datum) → FiringsKeep unit (OpensNow thing was now)
firing_opens_now unit thing was now s site fired holds = record {
  clock = firing_leaves unit s site Now refl refl ∙ holds.clock;
  opening = elim (firing_opens unit s site thing fired) [
    | inl stays ↦ either_on stays holds.opening
    | inr opened ↦ inr (opened.0 ∙ holds.clock)
  ];
}

-- A command leaves when an act was opened, or opens it at its own moment.
pub step_opens_now : (unit : Unit) (s : RunState) (store : GlobalValues) (moment : ℤ) (asked : RunCommand) (d : DoneCommand) (thing : ℕ)
    → run_step unit s store moment asked ≡ Ok d
    → (d.state.cells (act_opened_cell thing) ≡ s.cells (act_opened_cell thing)) ⊎ (d.state.cells (act_opened_cell thing) ≡ Some (moment_datum moment))
step_opens_now unit s store moment asked d thing is =
    (kept_from_begin unit s store moment asked d (OpensNow thing (s.cells (act_opened_cell thing)) (Some (moment_datum moment))) is
    (firing_opens_now unit thing (s.cells (act_opened_cell thing)) (Some (moment_datum moment)))
    (λ t fit holds. record {
      clock = change_leaves_now unit store s t moment d.command fit ∙ holds.clock;
      opening = either_on (change_leaves_act unit store s t moment d.command thing fit) holds.opening;
    })
    (record { clock = refl; opening = inl refl })).opening

-- ---- it stays so

-- The act was opened then, and each rule that opens it has said yes.
record StaysOpened (unit : Unit) (thing : ℕ) (value : Datum) (t : RunState) : Type 0 where
  opened : t.cells (act_opened_cell thing) ≡ Some value
  told : (rule : ℕ) → IsOpener unit rule thing → is_marked t rule Run ≡ true

opener_kind : (unit : Unit) (one : Rule) (thing : ℕ) → opened_by unit one ≡ Some thing → (says_for_good one ≡ true) × (is_for_persons (kind_of one) ≡ false)
opener_kind unit (OpensAct p a) thing opens = (refl, refl)
opener_kind unit (CompletesActivity _) thing opens = none_is_some opens
opener_kind unit (CompletesStructure _) thing opens = none_is_some opens
opener_kind unit (CompletesPart _ _ _) thing opens = none_is_some opens
opener_kind unit (CompletesAct _ _) thing opens = none_is_some opens
opener_kind unit (CompletesPlay _) thing opens = none_is_some opens
opener_kind unit CompletesUnit thing opens = none_is_some opens
opener_kind unit (JudgesCondition _) thing opens = none_is_some opens

good_opener : (unit : Unit) (rule thing : ℕ) → IsOpener unit rule thing → is_for_good unit rule ≡ true
good_opener unit rule thing opener = ap (is_some_and says_for_good) opener.ruled ∙ (opener_kind unit opener.one thing opener.opens).0

run_owner : (persons : ℕ) (own : Bool) (owner : Owner) → IsOwner persons own owner → own ≡ false → owner ≡ Run
run_owner persons own owner (a_person p below) run = different run
run_owner persons own owner the_run run = refl

-- A rule that has opened an act is not due again.
opens_once : (unit : Unit) (t : RunState) (site : Site) (thing : ℕ) (fired : IsFired unit t site) → opened_by unit fired.rule ≡ Some thing
    → ((rule : ℕ) → IsOpener unit rule thing → is_marked t rule Run ≡ true) → ⊥
opens_once unit t site thing fired opens told =
    different (sym fired.due_now ∙ ap₂ due
    (test_latched unit t site (good_opener unit site.rule thing opener) marked)
    (yes_verdict (t.cells (site_mark site)) marked))
  where
    opener : IsOpener unit site.rule thing
    opener = record { one = fired.rule; ruled = fired.ruled; opens = opens }

    marked : is_marked t site.rule site.owner ≡ true
    marked = ap (λ owner. is_marked t site.rule owner) (run_owner (length t.persons) (is_for_persons (kind_of fired.rule)) site.owner fired.owned (opener_kind unit fired.rule thing opens).1)
        ∙ told site.rule opener

firing_stays_opened : (unit : Unit) (thing : ℕ) (value : Datum) → FiringsKeep unit (StaysOpened unit thing value)
firing_stays_opened unit thing value s site fired holds = record {
  opened = elim (firing_opens unit s site thing fired) [
    | inl stays ↦ stays ∙ holds.opened
    | inr opened ↦ absurd (opens_once unit s site thing fired opened.1 holds.told)
  ];
  told = λ rule opener. firing_latches unit s site rule Run (good_opener unit rule thing opener) (holds.told rule opener);
}

stays_opened : (unit : Unit) (thing : ℕ) (value : Datum) → IsLasting unit (StaysOpened unit thing value)
stays_opened unit thing value = record {
  settles = λ s x runs is holds. settling_keeps unit (StaysOpened unit thing value) (firing_stays_opened unit thing value) s x is holds;
  begins = λ s store moment holds. record { opened = holds.opened; told = holds.told };
  changes = λ s t store moment command fit starting before holds. record {
    opened = change_leaves_act unit store s t moment command thing fit ∙ holds.opened;
    told = λ rule opener. ap says_yes (change_leaves_run_mark unit store s t moment command rule fit) ∙ holds.told rule opener;
  };
}

-- Once an act is opened it stays opened, and at the same moment, through each command that is done, in a run of a
-- valid unit with a seat for each person.
pub step_leaves_act : (unit : Unit) (s : RunState) (store : GlobalValues) (moment : ℤ) (asked : RunCommand) (d : DoneCommand) (thing : ℕ) (value : Datum)
    → IsValid unit → IsReached unit s → HasSeats s → run_step unit s store moment asked ≡ Ok d
    → s.cells (act_opened_cell thing) ≡ Some value → d.state.cells (act_opened_cell thing) ≡ Some value
step_leaves_act unit s store moment asked d thing value valid reached seats is opened =
    (step_keeps unit (StaysOpened unit thing value) (stays_opened unit thing value) s store moment asked d is (record {
      opened = opened;
      told = λ rule opener. opened_is_yes unit s rule thing valid reached seats opener (ap is_some opened);
    })).opened
