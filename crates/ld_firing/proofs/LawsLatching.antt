-- What a rule that is no condition has once said yes to stays so, through each firing and each settling.
use Rattle.std.proofs.Common.{◌≡◌, refl, sym, ap, subst, ◌∙◌, ℕ, Option, Some, None, Bool, true, false, ◌&&◌, ◌||◌, cond}
use Rattle.ld_value.specs.Datum.{truth_datum}
use Rattle.ld_model.specs.Cells.{same_cell}
use Rattle.ld_model.specs.declared.cell.CellName.{CellName}
use Rattle.ld_model.specs.declared.cell.CellName.TheVariants.{Mark}
use Rattle.ld_model.specs.declared.cell.Owner.{Owner}
use Rattle.ld_model.specs.declared.unit.Unit.{Unit}
use Rattle.ld_names.specs.declared.rule.Rule.{Rule}
use Rattle.ld_names.specs.Rules.{Site}
use Rattle.ld_expr.specs.Lookup.{is_some_and}
use Rattle.ld_expr.specs.Seen.{says_yes, mark_cell}
use Rattle.ld_firing.specs.Actions.{Doing, site_firing}
use Rattle.ld_rules.specs.LawWords.{is_marked, is_for_good}
use Rattle.ld_firing.specs.RunSettling.{Settlement, run_settling}
use Rattle.ld_state.specs.RunState.{RunState, seen_in, cell_of}
use Rattle.ld_rules.specs.SiteTests.{says_for_good, is_latched, rule_test, site_test, site_mark, rule_of}
use Rattle.ld_firing.proofs.Firings.{firing_marks}
use Rattle.ld_firing.proofs.LawsKept.{settling_keeps, unruled_firing}
use Rattle.ld_state.proofs.SameCells.{one_cell}

-- The number of the rule whose mark the cell is.
abbrev number_in_mark : CellName → ℕ
number_in_mark (Mark rule owner) = rule.0
number_in_mark _ = 0

latched : (good told other : Bool) → good ≡ true → told ≡ true → ((good && told) || other) ≡ true
latched true true other is said = refl
latched true false other is said = cc
latched false told other is said = cc

tested : (unit : Unit) (s : RunState) (site : Site) (found : Option Rule) → is_some_and says_for_good found ≡ true → says_yes (s.cells (site_mark site)) ≡ true
    → is_some_and (λ rule. is_latched (seen_in unit s) site rule || rule_test unit (seen_in unit s) site.owner rule) found ≡ true
unfolding cell_of
tested unit s site None good told = cc
tested unit s site (Some rule) good told = latched (says_for_good rule) (says_yes (s.cells (site_mark site))) (rule_test unit (seen_in unit s) site.owner rule) good told

-- The test of a site that has said yes for good says yes.
pub test_latched : (unit : Unit) (s : RunState) (site : Site) → is_for_good unit site.rule ≡ true → is_marked s site.rule site.owner ≡ true → site_test unit (seen_in unit s) site ≡ true
unfolding site_test
test_latched unit s site good told = tested unit s site (rule_of unit site) good told

-- A firing, of whatever site, leaves the mark.
pub firing_latches : (unit : Unit) (s : RunState) (site : Site) (rule : ℕ) (owner : Owner)
    → is_for_good unit rule ≡ true → is_marked s rule owner ≡ true
    → is_marked (site_firing unit s site).state rule owner ≡ true
firing_latches unit s site rule owner good told = by (rule_of unit site) refl
  where
    mine : mark_cell rule owner ≡ site_mark site → site_test unit (seen_in unit s) site ≡ true
    mine one =
        test_latched unit s site (subst (λ n. is_for_good unit n ≡ true) (ap number_in_mark one) good)
        (subst (λ name. says_yes (s.cells name) ≡ true) one told)

    set : (b : Bool) → same_cell (mark_cell rule owner) (site_mark site) ≡ b
        → says_yes (cond b (Some (truth_datum (site_test unit (seen_in unit s) site))) (s.cells (mark_cell rule owner))) ≡ true
    set true same = mine (one_cell (mark_cell rule owner) (site_mark site) same)
    set false other = told

    by : (found : Option Rule) → rule_of unit site ≡ found → is_marked (site_firing unit s site).state rule owner ≡ true
    by None none = subst (λ (doing : Doing). is_marked doing.state rule owner ≡ true) (sym (unruled_firing unit s site none)) told
    by (Some one) ruled =
        ap says_yes (firing_marks unit s site one ruled rule owner)
        ∙ set (same_cell (mark_cell rule owner) (site_mark site)) refl

-- A settling leaves it.
pub settling_latches : (unit : Unit) (s : RunState) (x : Settlement) (rule : ℕ) (owner : Owner)
    → is_for_good unit rule ≡ true → is_marked s rule owner ≡ true
    → run_settling unit s ≡ Some x → is_marked x.state rule owner ≡ true
settling_latches unit s x rule owner good told is =
    settling_keeps unit (λ t. is_marked t rule owner ≡ true) (λ t site fired told. firing_latches unit t site rule owner good told) s x is told
