-- In each state that a run comes to, an act but the first of its play is opened only where the act before it is
-- done.
use Rattle.std.proofs.Common.{◌≡◌, refl, sym, ap, ◌∙◌, ℕ, ℤ, Option, Some, None, Bool, true, false, cond, is_some, option_map, slice_get}
use Rattle.std.specs.Option.{option_map_or}
use Rattle.ld_base.specs.Maybe.{◌>>=◌}
use Rattle.ld_value.specs.Datum.{Datum}
use Rattle.ld_model.specs.declared.cell.Owner.TheVariants.{Run}
use Rattle.ld_model.specs.declared.method.Act.{Act}
use Rattle.ld_model.specs.declared.unit.Unit.{Unit}
use Rattle.ld_names.specs.declared.rule.Rule.{Rule}
use Rattle.ld_names.specs.declared.rule.RuleKind.{RuleKind}
use Rattle.ld_names.specs.declared.rule.RuleKind.TheVariants.{Person as OfPerson, Run as OfRun}
use Rattle.ld_names.specs.Names.{thing_number}
use Rattle.ld_names.specs.Rules.{rules_of, kind_of, is_for_run}
use Rattle.ld_expr.specs.Lookup.{is_some_and}
use Rattle.ld_expr.specs.Owners.{mark_owner}
use Rattle.ld_expr.specs.Seen.{says_yes, act_opened_cell, mark_cell}
use Rattle.ld_state.specs.GlobalValues.{GlobalValues}
use Rattle.ld_rules.specs.LawWords.{IsValid, IsInOrder, ActsOpenInOrder}
use Rattle.ld_state.specs.RunCells.{begins_as, mark_begins, is_kept_by_run}
use Rattle.ld_state.specs.RunState.{RunState, made_at, seen_in, cell_of}
use Rattle.ld_rules.specs.SiteTests.{is_opened}
use Rattle.ld_state.proofs.Elements.{different}
use Rattle.ld_firing.proofs.LawsDone.{done_stays}
use Rattle.ld_firing.proofs.LawsOrder.{settling_in_order}
use Rattle.ld_run.specs.Changes.{directly_changed}
use Rattle.ld_run.specs.Reached.{IsReached, made, left_by}
use Rattle.ld_run.proofs.LawsKept.{change_leaves, begun, IsLasting, step_keeps}
use Rattle.ld_laws.proofs.LawsLatching.{IsLeft, left_untouched, mark_left}

-- What holds of a run that was made, and what lasts, holds of each state that a run comes to.
pub holds_if_reached : (unit : Unit) (P : RunState → Type 0) → IsLasting unit P → ((seats : ℕ) (store : GlobalValues) (moment : ℤ) → P (made_at seats unit store moment)) → (s : RunState) → IsReached unit s → P s
holds_if_reached unit P lasting first s (made seats store moment) = first seats store moment
holds_if_reached unit P lasting first s (left_by t store moment asked d reached is) = step_keeps unit P lasting t store moment asked d is (holds_if_reached unit P lasting first t reached)

-- ---- the same marks and openings

-- Where the run speaks, its own mark is meant.
marked_by_run : (found : Option Rule) → option_map_or (λ rule. mark_owner (kind_of rule) Run) found Run ≡ Run
marked_by_run None = refl
marked_by_run (Some rule) = by (kind_of rule)
  where
    by : (kind : RuleKind) → mark_owner kind Run ≡ Run
    by OfPerson = refl
    by OfRun = refl

same_opened : (unit : Unit) (s t : RunState) (act : Act) → ((thing : ℕ) → t.cells (act_opened_cell thing) ≡ s.cells (act_opened_cell thing)) → is_opened unit (seen_in unit t) act ≡ is_opened unit (seen_in unit s) act
unfolding cell_of
same_opened unit s t act same = by (thing_number unit act.identifier)
  where
    by : (o : Option ℕ) → is_some (option_map act_opened_cell o >>= cell_of unit t) ≡ is_some (option_map act_opened_cell o >>= cell_of unit s)
    by None = refl
    by (Some thing) = ap is_some (same thing)

in_order_too : (unit : Unit) (s t : RunState) → ((thing : ℕ) → t.cells (act_opened_cell thing) ≡ s.cells (act_opened_cell thing)) → ((rule : ℕ) → t.cells (mark_cell rule Run) ≡ s.cells (mark_cell rule Run))
    → IsInOrder unit s → IsInOrder unit t
in_order_too unit s t openings marks order = record {
  judged = λ rule p a ruled. let said = order.judged rule p a ruled in (said.0, marks rule ∙ said.1);
  ordered = λ p a before act at next opened.
      done_stays unit s t Run before.identifier
      (λ rule good told.
      let of_run = marked_by_run (slice_get (rules_of unit) rule) in
      ap (λ owner. says_yes (t.cells (mark_cell rule owner))) of_run ∙ ap says_yes (marks rule)
      ∙ sym (ap (λ owner. says_yes (s.cells (mark_cell rule owner))) of_run) ∙ told)
      (order.ordered p a before act at next (sym (same_opened unit s t act openings) ∙ opened));
}

opening_left : (s : RunState) (thing : ℕ) → IsLeft s (act_opened_cell thing)
opening_left s thing = record { property = refl; joining = refl; started = refl; opened = λ other p. refl; chosen = λ other p. refl }

order_lasts : (unit : Unit) → IsValid unit → IsLasting unit (IsInOrder unit)
order_lasts unit valid = record {
  settles = λ s x runs is order. settling_in_order unit valid s x is order;
  begins = λ s store moment order. in_order_too unit s (begun unit store s moment) (λ thing. refl) (λ rule. refl) order;
  changes = λ s t store moment command fit starting before order.
      in_order_too unit t (directly_changed unit store t moment command)
      (λ thing. change_leaves unit store t moment command (act_opened_cell thing) (left_untouched s t command (act_opened_cell thing) fit (opening_left t thing)))
      (λ rule. change_leaves unit store t moment command (mark_cell rule Run) (left_untouched s t command (mark_cell rule Run) fit (mark_left t rule Run tt)))
      order;
}

-- ---- a run that was made

none_opened : (unit : Unit) (seats : ℕ) (store : GlobalValues) (moment : ℤ) (act : Act) → is_opened unit (seen_in unit (made_at seats unit store moment)) act ≡ false
unfolding cell_of begins_as
none_opened unit seats store moment act = by (thing_number unit act.identifier)
  where
    either : (b : Bool) → ◌≡◌ {A = Option Datum} (cond b None None) None
    either true = refl
    either false = refl

    by : (o : Option ℕ) → is_some (option_map act_opened_cell o >>= cell_of unit (made_at seats unit store moment)) ≡ false
    by None = refl
    by (Some thing) = ap is_some (either (is_kept_by_run unit (act_opened_cell thing)))

order_at_first : (unit : Unit) (seats : ℕ) (store : GlobalValues) (moment : ℤ) → IsInOrder unit (made_at seats unit store moment)
unfolding begins_as
order_at_first unit seats store moment = record {
  judged = λ rule p a ruled. (
    false,
    ap (λ b. cond b (slice_get (rules_of unit) rule >>= mark_begins) None)
        (ap (λ (found : Option Rule). is_some_and (λ one. is_for_run (kind_of one)) found) ruled)
        ∙ ap (λ found. found >>= mark_begins) ruled,
  );
  ordered = λ p a before act at next opened. different (sym opened ∙ none_opened unit seats store moment act);
}

-- Acts open in order in each state that a run of a valid unit comes to.
pub acts_open_in_order : (unit : Unit) → IsValid unit → (s : RunState) → IsReached unit s → ActsOpenInOrder unit s
acts_open_in_order unit valid s reached =
    (holds_if_reached unit (IsInOrder unit) (order_lasts unit valid) (order_at_first unit) s reached).ordered
