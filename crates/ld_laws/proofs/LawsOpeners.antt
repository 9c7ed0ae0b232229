-- An act is opened exactly where the rule that opens it has said yes.
use Rattle.std.proofs.Common.{◌≡◌, refl, sym, ap, ◌∙◌, ℕ, zero, suc, inl, inr, List, [], ◌∷◌, length, slice_get, Option, Some, None, Bool, true, false, ◌||◌, cond, is_some, option_map}
use Rattle.std.proofs.lemmas.Bool.{eq-eqb}
use Rattle.ld_base.specs.Maybe.{◌>>=◌}
use Rattle.ld_value.specs.Datum.{Datum, text_datum, truth_datum, number_datum, moment_datum, span_datum}
use Rattle.ld_model.specs.Cells.{same_cell}
use Rattle.ld_model.specs.declared.cell.CellName.{CellName}
use Rattle.ld_model.specs.declared.cell.CellName.TheVariants.{Mark, Now}
use Rattle.ld_model.specs.declared.cell.Owner.TheVariants.{Run}
use Rattle.ld_model.specs.declared.method.Act.{Act}
use Rattle.ld_model.specs.declared.method.Play.{Play}
use Rattle.ld_model.specs.declared.unit.Unit.{Unit}
use Rattle.ld_names.specs.declared.rule.Rule.{Rule}
use Rattle.ld_names.specs.declared.rule.Rule.TheVariants.{CompletesActivity, CompletesStructure, OpensAct, CompletesPart, CompletesAct, CompletesPlay, CompletesUnit, JudgesCondition}
use Rattle.ld_names.specs.declared.rule.RuleKind.TheVariants.{Run as OfRun}
use Rattle.ld_names.specs.Names.{thing_number}
use Rattle.ld_names.specs.Rules.{Site, kind_of, rules_of}
use Rattle.ld_refs.specs.Extents.{act_at}
use Rattle.ld_expr.specs.Done.{is_done}
use Rattle.ld_expr.specs.Lookup.{is_some_and}
use Rattle.ld_expr.specs.Seen.{says_yes, act_opened_cell, mark_cell}
use Rattle.ld_state.specs.RunCells.{begins_as}
use Rattle.ld_state.specs.RunState.{RunState, made_at, seen_in, cell_of}
use Rattle.ld_state.proofs.Elements.{none_is_some, some_same, different}
use Rattle.ld_state.proofs.SameCells.{one_cell}
use Rattle.ld_firing.specs.Actions.{nothing_done, with_write, opened_by, with_opening, site_firing}
use Rattle.ld_rules.specs.LawWords.{IsValid, is_marked, ActsOpenInOrder}
use Rattle.ld_firing.specs.RunSystem.{verdict_in}
use Rattle.ld_rules.specs.SiteTests.{is_latched, rule_test, opening_test, is_opened, site_test, site_mark}
use Rattle.ld_firing.specs.SiteWalk.{HasSeats}
use Rattle.ld_firing.proofs.Firings.{firing_marks}
use Rattle.ld_firing.proofs.LawsKept.{IsFired, FiringsKeep, settling_keeps}
use Rattle.ld_firing.proofs.LawsOpenings.{firing_leaves}
use Rattle.ld_firing.proofs.LawsOrder.{firing_opening}
use Rattle.ld_firing.proofs.SitesNumbered.{run_site_there}
use Rattle.ld_admission.specs.Checks.{is_started}
use Rattle.ld_run.specs.Reached.{IsReached, made}
use Rattle.ld_run.proofs.LawsKept.{IsLasting}
use Rattle.ld_laws.specs.ActLaws.{IsOpener}
use Rattle.ld_laws.proofs.LawsOrder.{acts_open_in_order, holds_if_reached}
use Rattle.ld_laws.proofs.LawsRest.{marks_tell_tests}
use Rattle.ld_laws.proofs.LawsUnstarted.{untouched_until_started}
use Rattle.ld_laws.proofs.ActOpenings.{firing_opens, change_leaves_act, change_leaves_now, change_leaves_run_mark}

-- ---- what the rule that opens an act has said

abbrev number_in_mark : CellName → ℕ
number_in_mark (Mark rule owner) = rule.0
number_in_mark _ = 0

-- The clock shows some moment, and where the rule has said yes the act is opened.
record OpensIfYes (rule thing : ℕ) (t : RunState) : Type 0 where
  clock : is_some (t.cells Now) ≡ true
  opened : is_marked t rule Run ≡ true → is_some (t.cells (act_opened_cell thing)) ≡ true

-- The firing of the rule opens the act.
own_firing_opens : (unit : Unit) (s : RunState) (site : Site) (rule thing : ℕ) (fired : IsFired unit s site) → IsOpener unit rule thing → site.rule ≡ rule
    → (site_firing unit s site).state.cells (act_opened_cell thing) ≡ s.cells Now
own_firing_opens unit s site rule thing fired opener same =
    let one : fired.rule ≡ opener.one = some_same (sym fired.ruled ∙ ap (slice_get (rules_of unit)) same ∙ opener.ruled) in
    let set = with_write (nothing_done s) (site_mark site) (Some (truth_datum (site_test unit (seen_in unit s) site))) in
    firing_opening unit s site fired.rule thing fired.ruled
    ∙ ap (λ (o : Option ℕ). (with_opening set o).state.cells (act_opened_cell thing)) (ap (opened_by unit) one ∙ opener.opens)
    ∙ ap (λ b. cond b (s.cells Now) (s.cells (act_opened_cell thing))) (eq-eqb thing thing refl)

firing_opens_if_yes : (unit : Unit) (rule thing : ℕ) → IsOpener unit rule thing → FiringsKeep unit (OpensIfYes rule thing)
firing_opens_if_yes unit rule thing opener s site fired holds = record {
  clock = ap is_some (firing_leaves unit s site Now refl refl) ∙ holds.clock;
  opened = λ told. by (same_cell (mark_cell rule Run) (site_mark site)) refl
      (sym (ap says_yes (firing_marks unit s site fired.rule fired.ruled rule Run)) ∙ told);
}
  where
    after : Option Datum
    after = (site_firing unit s site).state.cells (act_opened_cell thing)

    by : (b : Bool) → same_cell (mark_cell rule Run) (site_mark site) ≡ b
        → says_yes (cond b (Some (truth_datum (site_test unit (seen_in unit s) site))) (s.cells (mark_cell rule Run))) ≡ true → is_some after ≡ true
    by true same told =
        ap is_some (own_firing_opens unit s site rule thing fired opener (sym (ap number_in_mark (one_cell (mark_cell rule Run) (site_mark site) same)))) ∙ holds.clock
    by false other told = elim (firing_opens unit s site thing fired) [
      | inl stays ↦ ap is_some stays ∙ holds.opened told
      | inr opened ↦ ap is_some opened.0 ∙ holds.clock
    ]

opening_lasts : (unit : Unit) (rule thing : ℕ) → IsOpener unit rule thing → IsLasting unit (OpensIfYes rule thing)
opening_lasts unit rule thing opener = record {
  settles = λ s x runs is holds. settling_keeps unit (OpensIfYes rule thing) (firing_opens_if_yes unit rule thing opener) s x is holds;
  begins = λ s store moment holds. record { clock = refl; opened = holds.opened };
  changes = λ s t store moment command fit starting before holds. record {
    clock = ap is_some (change_leaves_now unit store s t moment command fit) ∙ holds.clock;
    opened = λ told. ap is_some (change_leaves_act unit store s t moment command thing fit)
        ∙ holds.opened (sym (ap says_yes (change_leaves_run_mark unit store s t moment command rule fit)) ∙ told);
  };
}

-- In each state that a run comes to, an act whose rule has said yes is opened.
pub yes_is_opened : (unit : Unit) (s : RunState) (rule thing : ℕ) → IsReached unit s → IsOpener unit rule thing
    → is_marked s rule Run ≡ true → is_some (s.cells (act_opened_cell thing)) ≡ true
unfolding begins_as
yes_is_opened unit s rule thing reached opener told =
    (holds_if_reached unit (OpensIfYes rule thing) (opening_lasts unit rule thing opener)
    (λ seats store moment. record {
      clock = refl;
      opened = λ said. different (sym said ∙ (untouched_until_started unit (made_at seats unit store moment) (made seats store moment) refl).unmarked rule Run);
    }) s reached).opened told

-- ---- an act that is opened

pub verdict_yes : (mark : Option Datum) → verdict_in mark ≡ Some true → says_yes mark ≡ true
verdict_yes None is = none_is_some is
verdict_yes (Some (truth_datum said)) is = some_same is
verdict_yes (Some (text_datum _)) is = none_is_some is
verdict_yes (Some (number_datum _)) is = none_is_some is
verdict_yes (Some (moment_datum _)) is = none_is_some is
verdict_yes (Some (span_datum _)) is = none_is_some is

pub yes_verdict : (mark : Option Datum) → says_yes mark ≡ true → verdict_in mark ≡ Some true
yes_verdict None is = different (sym is)
yes_verdict (Some (truth_datum said)) is = ap Some is
yes_verdict (Some (text_datum _)) is = different (sym is)
yes_verdict (Some (number_datum _)) is = different (sym is)
yes_verdict (Some (moment_datum _)) is = different (sym is)
yes_verdict (Some (span_datum _)) is = different (sym is)

earlier : {A : Type 0} (xs : List A) (n : ℕ) (x : A) → slice_get xs (suc n) ≡ Some x → (y : A) × (slice_get xs n ≡ Some y)
earlier [] n x at = none_is_some at
earlier (y ∷ ys) zero x at = (y, refl)
earlier (y ∷ ys) (suc n) x at = earlier ys n x at

act_before : (unit : Unit) (p n : ℕ) (act : Act) → act_at unit p (suc n) ≡ Some act → (before : Act) × (act_at unit p n ≡ Some before)
act_before unit p n act at = by (slice_get unit.method.plays p) at
  where
    by : (play : Option Play) → (play >>= λ one. slice_get one.acts (suc n)) ≡ Some act → (before : Act) × ((play >>= λ one. slice_get one.acts n) ≡ Some before)
    by None none = none_is_some none
    by (Some play) some = earlier play.acts n act some

-- The act before one that is opened is done.
opening_holds : (unit : Unit) (s : RunState) → ActsOpenInOrder unit s → (p a : ℕ) (act : Act) → act_at unit p a ≡ Some act
    → is_opened unit (seen_in unit s) act ≡ true → opening_test unit (seen_in unit s) p a ≡ true
opening_holds unit s order p zero act at opened = refl
opening_holds unit s order p (suc n) act at opened =
    let before = act_before unit p n act at in
    ap (is_some_and (λ (one : Act). is_done unit (seen_in unit s) Run one.identifier)) before.1 ∙ order p n before.0 act before.1 at opened

later_holds : (a b : Bool) → b ≡ true → (a || b) ≡ true
later_holds true b is = refl
later_holds false b is = is

-- The test of the rule that opened an act says yes.
opener_says_yes : (unit : Unit) (s : RunState) → ActsOpenInOrder unit s → (rule thing : ℕ) (one : Rule) → slice_get (rules_of unit) rule ≡ Some one → opened_by unit one ≡ Some thing
    → is_some (s.cells (act_opened_cell thing)) ≡ true → (site_test unit (seen_in unit s) (record { rule = rule; owner = Run }) ≡ true) × (OfRun ≡ kind_of one)
unfolding site_test cell_of
opener_says_yes unit s order rule thing (OpensAct p a) ruled opens there = (
  ap (is_some_and (λ one. is_latched (seen_in unit s) site one || rule_test unit (seen_in unit s) Run one)) ruled
      ∙ later_holds (is_latched (seen_in unit s) site (OpensAct p a)) (opening_test unit (seen_in unit s) p a) (by (act_at unit p a) refl opens),
  refl,
)
  where
    site : Site
    site = record { rule = rule; owner = Run }

    by : (found : Option Act) → act_at unit p a ≡ found → (found >>= λ act. thing_number unit act.identifier) ≡ Some thing → opening_test unit (seen_in unit s) p a ≡ true
    by None at number = none_is_some number
    by (Some act) at number =
        opening_holds unit s order p a act at (ap (λ o. is_some (option_map act_opened_cell o >>= cell_of unit s)) number ∙ there)
opener_says_yes unit s order rule thing (CompletesActivity _) ruled opens there = none_is_some opens
opener_says_yes unit s order rule thing (CompletesStructure _) ruled opens there = none_is_some opens
opener_says_yes unit s order rule thing (CompletesPart _ _ _) ruled opens there = none_is_some opens
opener_says_yes unit s order rule thing (CompletesAct _ _) ruled opens there = none_is_some opens
opener_says_yes unit s order rule thing (CompletesPlay _) ruled opens there = none_is_some opens
opener_says_yes unit s order rule thing CompletesUnit ruled opens there = none_is_some opens
opener_says_yes unit s order rule thing (JudgesCondition _) ruled opens there = none_is_some opens

-- In each state that a run of a valid unit comes to, with a seat for each person, the rule of an act that is opened
-- has said yes.
pub opened_is_yes : (unit : Unit) (s : RunState) (rule thing : ℕ) → IsValid unit → IsReached unit s → HasSeats s → IsOpener unit rule thing
    → is_some (s.cells (act_opened_cell thing)) ≡ true → is_marked s rule Run ≡ true
opened_is_yes unit s rule thing valid reached seats opener there = by (is_started s) refl
  where
    by : (b : Bool) → is_started s ≡ b → is_marked s rule Run ≡ true
    by false still = different (sym there ∙ ap is_some ((untouched_until_started unit s reached still).no_act thing))
    by true started =
        let says = opener_says_yes unit s (acts_open_in_order unit valid s reached) rule thing opener.one opener.ruled opener.opens there in
        verdict_yes (s.cells (mark_cell rule Run))
        (marks_tell_tests unit s (record { rule = rule; owner = Run }) reached started seats (run_site_there unit (length s.persons) rule opener.one opener.ruled says.1)
        ∙ ap Some says.0)
