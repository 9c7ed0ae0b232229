-- What a site reads whose rule is known, by what the rule and its mark say.
use Rattle.std.proofs.Common.{◌≡◌, ◌<◌, ◌≤◌, List, [], ◌∷◌, ◌++◌, length, slice_get, Some, None, Bool, true, false, refl, sym, ap, ◌∙◌, arith}
use Rattle.std.proofs.lemmas.Option.{slice_get_past}
use Rattle.ld_graph.specs.Slots.{Slots}
use Rattle.ld_model.specs.declared.unit.Unit.{Unit}
use Rattle.ld_names.specs.declared.rule.Rule.{Rule}
use Rattle.ld_names.specs.Rules.{Site, rules_of}
use Rattle.ld_expr.specs.Seen.{Seen, says_yes}
use Rattle.ld_state.specs.RunState.{RunState, cell_of, seen_in}
use Rattle.ld_state.specs.StateView.{StateView, run_of, seen_of}
use Rattle.ld_rules.specs.SiteLooks.{looks_by, open_looks, rule_looks, site_looks}
use Rattle.ld_rules.specs.SiteTests.{rule_of, says_for_good, site_mark}
use Rattle.ld_settling.specs.Gathering.{FallsShort, Gathers, looks_until_latched, with_cells}
use Rattle.ld_settling.proofs.Gathered.{short_first}

-- A view of a state shows the mark of a site as it is seen of the run.
pub mark_seen : (unit : Unit) (state : StateView) (site : Site)
    → (seen_of state).value (site_mark site) ≡ cell_of unit (run_of state) (site_mark site)
unfolding cell_of
mark_seen unit state site = refl

module _ (unit : Unit) (seen : Seen) (site : Site) (rule : Rule) where
  -- Its mark has said yes.
  pub looks_latched : says_for_good rule ≡ true → says_yes (seen.value (site_mark site)) ≡ true
      → looks_until_latched unit seen site rule ≡ site_mark site ∷ []
  looks_latched good marked = rw (good, marked) refl

  -- It has not.
  pub looks_open : says_for_good rule ≡ true → says_yes (seen.value (site_mark site)) ≡ false
      → looks_until_latched unit seen site rule ≡ (site_mark site ∷ []) ++ rule_looks unit seen site.owner rule
  looks_open good unmarked = rw (good, unmarked) refl

-- Where the list has no room for the mark, it has none for what the site reads.
pub short_of_mark : (unit : Unit) (s : RunState) (site : Site) (rule : Rule) (list : Slots) → says_for_good rule ≡ true
    → FallsShort unit s (site_mark site ∷ []) list
    → FallsShort unit s (looks_until_latched unit (seen_in unit s) site rule) list
short_of_mark unit s site rule list good short = by (says_yes ((seen_in unit s).value (site_mark site))) refl
  where
    by : (said : Bool) → says_yes ((seen_in unit s).value (site_mark site)) ≡ said
        → FallsShort unit s (looks_until_latched unit (seen_in unit s) site rule) list
    by true marked = rw (looks_latched unit (seen_in unit s) site rule good marked) short
    by false unmarked =
        rw (looks_open unit (seen_in unit s) site rule good unmarked)
        (short_first unit s (site_mark site ∷ []) (rule_looks unit (seen_in unit s) site.owner rule) list short)

-- ---- a site

-- Past the end of the rules there is none.
pub no_rule : (unit : Unit) (rules : List Rule) (site : Site) → rules ≡ rules_of unit → length rules ≤ site.rule
    → rule_of unit site ≡ None
no_rule unit rules site are past =
    ap (λ some. slice_get some site.rule) (sym are) ∙ slice_get_past rules site.rule past

-- A site without a rule reads nothing.
pub looks_of_none : (unit : Unit) (seen : Seen) (site : Site) → rule_of unit site ≡ None → site_looks unit seen site ≡ []
unfolding site_looks
looks_of_none unit seen site missing = rw missing refl

pub looks_of_rule : (unit : Unit) (seen : Seen) (site : Site) (rule : Rule) → rule_of unit site ≡ Some rule
    → site_looks unit seen site ≡ looks_until_latched unit seen site rule
unfolding site_looks
looks_of_rule unit seen site rule at = rw at refl

pub open_of_rule : (unit : Unit) (seen : Seen) (site : Site) (rule : Rule) → rule_of unit site ≡ Some rule
    → open_looks unit seen site ≡ looks_by unit seen site rule
open_of_rule unit seen site rule at = rw at refl

module _ (unit : Unit) (s : RunState) (site : Site) (rule : Rule) (at : rule_of unit site ≡ Some rule) where
  -- What is gathered from an empty list on is what the site reads.
  pub reads_all : (old new : Slots) → old.items ≡ []
      → Gathers unit s (looks_until_latched unit (seen_in unit s) site rule) old new
      → new.items ≡ with_cells unit s [] (site_looks unit (seen_in unit s) site)
  reads_all old new empty all =
      all.items
      ∙ ap (λ items. with_cells unit s items (looks_until_latched unit (seen_in unit s) site rule)) empty
      ∙ ap (with_cells unit s []) (sym (looks_of_rule unit (seen_in unit s) site rule at))

  pub short_of_all : (start old : Slots) → old.items ≡ [] → old.room ≡ start.room
      → FallsShort unit s (looks_until_latched unit (seen_in unit s) site rule) old
      → start.room < length (with_cells unit s [] (site_looks unit (seen_in unit s) site))
  short_of_all start old empty room short =
      omega (
        arith,
        short,
        room,
        ap (λ items. length (with_cells unit s items (looks_until_latched unit (seen_in unit s) site rule))) empty,
        ap (λ cells. length (with_cells unit s [] cells)) (looks_of_rule unit (seen_in unit s) site rule at),
      )
