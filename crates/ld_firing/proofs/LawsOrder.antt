-- An act but the first of its play opens only after the act before it is done: in each firing and each settling.
use Rattle.std.proofs.Common.{◌≡◌, refl, sym, ap, ap₂, ◌∙◌, ℕ, suc, ◌⊎◌, inl, inr, List, slice_get, Option, Some, None, Bool, true, false, ◌||◌, cond, is_some, nat_eq}
use Rattle.std.proofs.lemmas.Bool.{eqb-true}
use Rattle.std.specs.Option.{option_map}
use Rattle.ld_base.specs.Maybe.{◌>>=◌}
use Rattle.ld_cascade.specs.System.{due}
use Rattle.ld_value.specs.Datum.{Datum, truth_datum}
use Rattle.ld_model.specs.Cells.{same_cell}
use Rattle.ld_model.specs.declared.cell.CellName.{CellName}
use Rattle.ld_model.specs.declared.cell.CellName.TheVariants.{Now}
use Rattle.ld_model.specs.declared.cell.Owner.{Owner}
use Rattle.ld_model.specs.declared.cell.Owner.TheVariants.{Run, Person}
use Rattle.ld_model.specs.declared.completion.Change.{Change as ChangeOf}
use Rattle.ld_model.specs.declared.condition.Action.{Action}
use Rattle.ld_model.specs.declared.condition.Action.TheVariants.{Show, Hide, Change, Notify}
use Rattle.ld_model.specs.declared.method.Act.{Act as ActOf}
use Rattle.ld_model.specs.declared.unit.Unit.{Unit}
use Rattle.ld_walk.specs.declared.place.Place.TheVariants.{Act}
use Rattle.ld_names.specs.declared.rule.Rule.{Rule}
use Rattle.ld_names.specs.declared.rule.Rule.TheVariants.{CompletesActivity, CompletesStructure, OpensAct, CompletesPart, CompletesAct, CompletesPlay, CompletesUnit, JudgesCondition}
use Rattle.ld_names.specs.Names.{thing_number}
use Rattle.ld_names.specs.Rules.{Site, kind_of, is_for_persons}
use Rattle.ld_names.specs.Things.{Entry, things_of}
use Rattle.ld_refs.specs.Checks.{IsValid}
use Rattle.ld_refs.specs.Extents.{act_at}
use Rattle.ld_expr.specs.Done.{is_done}
use Rattle.ld_expr.specs.Lookup.{is_some_and}
use Rattle.ld_expr.specs.Seen.{says_yes, act_opened_cell, mark_cell}
use Rattle.ld_expr.specs.Terms.{term_value, cell_of_property}
use Rattle.ld_firing.specs.Actions.{Doing, nothing_done, with_write, with_change, if_fitting, change_for, targets_of, with_visible, set_visible, do_action, actions_of, opened_by, with_opening, firing_by, site_firing}
use Rattle.ld_rules.specs.LawWords.{is_property, IsInOrder, ActsOpenInOrder, OpeningsAreJudged}
use Rattle.ld_firing.specs.RunSettling.{Settlement, run_settling}
use Rattle.ld_state.specs.RunState.{RunState, seen_in, cell_of}
use Rattle.ld_firing.specs.RunSystem.{verdict_in}
use Rattle.ld_rules.specs.SiteTests.{is_latched, rule_test, opening_test, is_opened, site_test, site_mark, rule_of}
use Rattle.ld_firing.proofs.ChecksMet.{checks_met}
use Rattle.ld_state.proofs.Elements.{none_is_some, some_same, different}
use Rattle.ld_firing.proofs.Firings.{firing_marks, other_cell}
use Rattle.ld_firing.proofs.LawsCells.{property_cells}
use Rattle.ld_firing.proofs.LawsDone.{firing_leaves_done}
use Rattle.ld_firing.proofs.LawsKept.{IsFired, FiringsKeep, settling_keeps}
use Rattle.ld_firing.proofs.LawsOpenings.{told_apart}
use Rattle.ld_firing.proofs.MetChecks.{MeetsChecks}
use Rattle.ld_firing.proofs.Named.{IsThing, thing_number_is}
use Rattle.ld_firing.proofs.RulesThere.{act_of, act_is}
use Rattle.ld_firing.proofs.SeatsKept.{fold_keeps}
use Rattle.ld_firing.proofs.Sites.{IsOwner, a_person, the_run}

-- ---- which firing opens an act

abbrev opening_in : ℕ → Doing → Option Datum
opening_in thing doing = doing.state.cells (act_opened_cell thing)

change_keeps : (thing : ℕ) (doing : Doing) (cell : Option CellName) (value : Option Datum) → ((c : CellName) → cell ≡ Some c → is_property c ≡ true) → opening_in thing (with_change doing cell value) ≡ opening_in thing doing
change_keeps thing doing None value owned = refl
change_keeps thing doing (Some cell) None owned = refl
change_keeps thing doing (Some cell) (Some value) owned =
    other_cell doing.state.cells cell (act_opened_cell thing) (Some value) (told_apart is_property (act_opened_cell thing) cell refl (owned cell refl))

change_for_keeps : (unit : Unit) (thing : ℕ) (change : ChangeOf) (doing : Doing) (owner : Owner) → opening_in thing (change_for unit change doing owner) ≡ opening_in thing doing
change_for_keeps unit thing change doing owner =
    change_keeps thing doing (cell_of_property unit owner change.property)
    (term_value unit (seen_in unit doing.state) owner change.value >>= if_fitting unit change.property)
    (λ c is. property_cells unit owner change.property c is)

visible_keeps : (thing p : ℕ) (visible : Bool) (doing : Doing) (shown : Option ℕ) → opening_in thing (with_visible p visible doing shown) ≡ opening_in thing doing
visible_keeps thing p visible doing None = refl
visible_keeps thing p visible doing (Some shown) = refl

set_visible_keeps : (unit : Unit) (thing : ℕ) (owner : Owner) (visible : Bool) (doing : Doing) (id : List ℕ) → opening_in thing (set_visible unit owner visible doing id) ≡ opening_in thing doing
set_visible_keeps unit thing Run visible doing id = refl
set_visible_keeps unit thing (Person p) visible doing id = visible_keeps thing p.0 visible doing (thing_number unit id)

action_keeps : (unit : Unit) (thing : ℕ) (owner : Owner) (doing : Doing) (action : Action) → opening_in thing (do_action unit owner doing action) ≡ opening_in thing doing
action_keeps unit thing owner doing (Show things) = fold_keeps (opening_in thing) (set_visible unit owner true) (set_visible_keeps unit thing owner true) doing things
action_keeps unit thing owner doing (Hide things) = fold_keeps (opening_in thing) (set_visible unit owner false) (set_visible_keeps unit thing owner false) doing things
action_keeps unit thing owner doing (Change change) = fold_keeps (opening_in thing) (change_for unit change) (change_for_keeps unit thing change) doing (targets_of unit doing.state owner change)
action_keeps unit thing owner doing (Notify notice) = refl

abbrev marked : Unit → RunState → Site → Doing
marked unit s site = with_write (nothing_done s) (site_mark site) (Some (truth_datum (site_test unit (seen_in unit s) site)))

-- But for what the rule opens, no opening changes.
pub firing_opening : (unit : Unit) (s : RunState) (site : Site) (rule : Rule) (thing : ℕ) → rule_of unit site ≡ Some rule
    → (site_firing unit s site).state.cells (act_opened_cell thing) ≡ opening_in thing (with_opening (marked unit s site) (opened_by unit rule))
unfolding site_firing
firing_opening unit s site rule thing ruled =
    ap (λ (found : Option Rule). opening_in thing (elim found as (λ _. Doing) [ None ↦ nothing_done s | Some one ↦ firing_by unit s site one ])) ruled
    ∙ fold_keeps (opening_in thing) (do_action unit site.owner) (action_keeps unit thing site.owner) (with_opening (marked unit s site) (opened_by unit rule)) (actions_of unit rule (site_test unit (seen_in unit s) site))

opened_before_or_now : (unit : Unit) (s : RunState) (site : Site) (thing : ℕ) (o : Option ℕ) → is_some (opening_in thing (with_opening (marked unit s site) o)) ≡ true
    → (is_some (s.cells (act_opened_cell thing)) ≡ true) ⊎ (o ≡ Some thing)
opened_before_or_now unit s site thing None there = inl there
opened_before_or_now unit s site thing (Some other) there = by (nat_eq thing other) refl there
  where
    by : (b : Bool) → nat_eq thing other ≡ b → is_some (cond b ((marked unit s site).state.cells Now) (s.cells (act_opened_cell thing))) ≡ true
        → (is_some (s.cells (act_opened_cell thing)) ≡ true) ⊎ (Some other ≡ Some thing)
    by true same there = inr (ap Some (sym (eqb-true thing other same)))
    by false apart there = inl there

-- The rule opens the act at this place, which is this thing.
record Opens (unit : Unit) (rule : Rule) (thing : ℕ) : Type 0 where
  p : ℕ
  a : ℕ
  act : ActOf
  is : rule ≡ OpensAct p a
  at : act_at unit p a ≡ Some act
  number : thing_number unit act.identifier ≡ Some thing

opens_by : (unit : Unit) (rule : Rule) (thing : ℕ) → opened_by unit rule ≡ Some thing → Opens unit rule thing
opens_by unit (OpensAct p a) thing is = by (act_at unit p a) refl is
  where
    by : (found : Option ActOf) → act_at unit p a ≡ found → (found >>= λ act. thing_number unit act.identifier) ≡ Some thing → Opens unit (OpensAct p a) thing
    by None at is = none_is_some is
    by (Some act) at is = record { p = p; a = a; act = act; is = refl; at = at; number = is }
opens_by unit (CompletesActivity _) thing is = none_is_some is
opens_by unit (CompletesStructure _) thing is = none_is_some is
opens_by unit (CompletesPart _ _ _) thing is = none_is_some is
opens_by unit (CompletesAct _ _) thing is = none_is_some is
opens_by unit (CompletesPlay _) thing is = none_is_some is
opens_by unit CompletesUnit thing is = none_is_some is
opens_by unit (JudgesCondition _) thing is = none_is_some is

one_place : (p a q b : ℕ) → Act p a ≡ Act q b → (p ≡ q) × (a ≡ b)
one_place p a q b same = (cc, cc)

-- Two acts of one number are one.
same_act : (unit : Unit) (meets : MeetsChecks unit) (p a q b thing : ℕ) (one other : ActOf) → act_at unit p a ≡ Some one → act_at unit q b ≡ Some other
    → thing_number unit one.identifier ≡ Some thing → thing_number unit other.identifier ≡ Some thing → (p ≡ q) × (a ≡ b)
same_act unit meets p a q b thing one other at at_other number number_other =
    let first = act_is unit meets p a one (act_of unit p a one at) in
    let second = act_is unit meets q b other (act_of unit q b other at_other) in
    let same : first.number ≡ second.number = some_same (sym (thing_number_is unit one.identifier (Act p a) first) ∙ number ∙ sym number_other ∙ thing_number_is unit other.identifier (Act q b) second) in
    let entries : first.entry ≡ second.entry = some_same (sym first.at ∙ ap (slice_get (things_of unit)) same ∙ second.at) in
    one_place p a q b (sym first.placed ∙ ap (λ (entry : Entry). entry.place) entries ∙ second.placed)

-- ---- when it does

run_owner : (persons : ℕ) (own : Bool) (owner : Owner) → IsOwner persons own owner → own ≡ false → owner ≡ Run
run_owner persons own owner (a_person p below) run = different run
run_owner persons own owner the_run run = refl

due_opens : (said opening : Bool) → due (said || opening) (Some said) ≡ true → opening ≡ true
due_opens true opening is = different (sym is)
due_opens false true is = refl
due_opens false false is = different (sym is)

test_is : (unit : Unit) (s : RunState) (site : Site) (p n : ℕ) (said : Bool) → rule_of unit site ≡ Some (OpensAct p n) → site.owner ≡ Run
    → s.cells (site_mark site) ≡ Some (truth_datum said) → site_test unit (seen_in unit s) site ≡ (said || opening_test unit (seen_in unit s) p n)
unfolding site_test cell_of
test_is unit s site p n said ruled run mark =
    ap (is_some_and (λ rule. is_latched (seen_in unit s) site rule || rule_test unit (seen_in unit s) site.owner rule)) ruled
    ∙ ap₂ (λ v owner. says_yes v || rule_test unit (seen_in unit s) owner (OpensAct p n)) mark run

-- A site that is due and opens the act after another finds that one done.
before_is_done : (unit : Unit) (s : RunState) (site : Site) (p a : ℕ) (before : ActOf) → OpeningsAreJudged unit s → rule_of unit site ≡ Some (OpensAct p (suc a))
    → IsFired unit s site → act_at unit p a ≡ Some before → is_done unit (seen_in unit s) Run before.identifier ≡ true
before_is_done unit s site p a before judged ruled fired at =
    let one = some_same (sym fired.ruled ∙ ruled) in
    let run = run_owner _ (is_for_persons (kind_of fired.rule)) site.owner fired.owned (ap (λ rule. is_for_persons (kind_of rule)) one) in
    let said = judged site.rule p (suc a) ruled in
    let mark = ap (λ owner. s.cells (mark_cell site.rule owner)) run ∙ said.1 in
    let opening = due_opens said.0 (opening_test unit (seen_in unit s) p (suc a))
    (sym (ap₂ (λ test v. due test (verdict_in v)) (test_is unit s site p (suc a) said.0 ruled run mark) mark) ∙ fired.due_now) in
    sym (ap (is_some_and (λ (act : ActOf). is_done unit (seen_in unit s) Run act.identifier)) at) ∙ opening

-- ---- what a firing keeps

opened_is : (unit : Unit) (s : RunState) (act : ActOf) (thing : ℕ) → thing_number unit act.identifier ≡ Some thing → is_opened unit (seen_in unit s) act ≡ is_some (s.cells (act_opened_cell thing))
unfolding cell_of
opened_is unit s act thing number = ap (λ o. is_some (option_map act_opened_cell o >>= cell_of unit s)) number

judged_after : (unit : Unit) (s : RunState) (site : Site) → IsFired unit s site → OpeningsAreJudged unit s → OpeningsAreJudged unit (site_firing unit s site).state
judged_after unit s site fired judged rule p a ruled = by (same_cell (mark_cell rule Run) (site_mark site)) refl
  where
    is : (site_firing unit s site).state.cells (mark_cell rule Run) ≡ cond (same_cell (mark_cell rule Run) (site_mark site)) (Some (truth_datum (site_test unit (seen_in unit s) site))) (s.cells (mark_cell rule Run))
    is = firing_marks unit s site fired.rule fired.ruled rule Run

    by : (b : Bool) → same_cell (mark_cell rule Run) (site_mark site) ≡ b → (said : Bool) × ((site_firing unit s site).state.cells (mark_cell rule Run) ≡ Some (truth_datum said))
    by true same = (site_test unit (seen_in unit s) site, is ∙ ap (λ b. cond b (Some (truth_datum (site_test unit (seen_in unit s) site))) (s.cells (mark_cell rule Run))) same)
    by false other =
        let before = judged rule p a ruled in
        (before.0, is ∙ ap (λ b. cond b (Some (truth_datum (site_test unit (seen_in unit s) site))) (s.cells (mark_cell rule Run))) other ∙ before.1)

ordered_after : (unit : Unit) → MeetsChecks unit → (s : RunState) (site : Site) → IsFired unit s site → IsInOrder unit s → ActsOpenInOrder unit (site_firing unit s site).state
ordered_after unit meets s site fired order p a before act at next opened =
    firing_leaves_done unit s site Run before.identifier
    (by (opened_before_or_now unit s site thing.number (opened_by unit fired.rule) now_open))
  where
    thing : IsThing unit act.identifier (Act p (suc a))
    thing = act_is unit meets p (suc a) act (act_of unit p (suc a) act next)

    number : thing_number unit act.identifier ≡ Some thing.number
    number = thing_number_is unit act.identifier (Act p (suc a)) thing

    now_open : is_some (opening_in thing.number (with_opening (marked unit s site) (opened_by unit fired.rule))) ≡ true
    now_open = sym (ap is_some (firing_opening unit s site fired.rule thing.number fired.ruled)) ∙ sym (opened_is unit (site_firing unit s site).state act thing.number number) ∙ opened

    by : (is_some (s.cells (act_opened_cell thing.number)) ≡ true) ⊎ (opened_by unit fired.rule ≡ Some thing.number) → is_done unit (seen_in unit s) Run before.identifier ≡ true
    by (inl there) = order.ordered p a before act at next (opened_is unit s act thing.number number ∙ there)
    by (inr new) =
        let opens = opens_by unit fired.rule thing.number new in
        let same = same_act unit meets opens.p opens.a p (suc a) thing.number opens.act act opens.at next opens.number number in
        before_is_done unit s site p a before order.judged
        (fired.ruled ∙ ap Some (opens.is ∙ ap₂ OpensAct same.0 same.1)) fired at

-- Acts open in order in each firing of a site that is due.
pub firing_in_order : (unit : Unit) → IsValid unit → FiringsKeep unit (IsInOrder unit)
firing_in_order unit valid s site fired order = record {
  judged = judged_after unit s site fired order.judged;
  ordered = ordered_after unit (checks_met unit valid) s site fired order;
}

-- They do in each settling.
pub settling_in_order : (unit : Unit) → IsValid unit → (s : RunState) (x : Settlement) → run_settling unit s ≡ Some x → IsInOrder unit s → IsInOrder unit x.state
settling_in_order unit valid s x is order = settling_keeps unit (IsInOrder unit) (firing_in_order unit valid) s x is order
