-- What a firing as a whole did, and what it cost.
use Rattle.std.proofs.Common.{◌≡◌, refl, sym, ap, ap₂, subst, ◌∙◌, ℕ, ◌+◌, ◌<◌, List, ◌++◌, filter_map, get_or, length, slice_get, is_some, Option, Some, None, Bool, true, Result, Ok, Err, IfOk, OnOk, Contains}
use Rattle.std.proofs.lemmas.Option.{slice_get_read, slice_get_within}
use Rattle.std.specs.List.{sum_by}
use Rattle.ld_base.specs.declared.fired.Fired.{Fired}
use Rattle.ld_value.specs.Datum.{truth_datum}
use Rattle.ld_model.specs.declared.unit.Unit.{Unit}
use Rattle.ld_names.specs.declared.rule.Rule.{Rule}
use Rattle.ld_names.specs.Rules.{Site, rules_of, sites_of}
use Rattle.ld_expr.specs.Lookup.{list_from}
use Rattle.ld_expr.specs.Seen.{mark_cell}
use Rattle.ld_roles.specs.Roster.{Persons}
use Rattle.ld_firing.specs.Actions.{Doing, with_write, rule_effect, actions_of, site_firing}
use Rattle.ld_firing.specs.Costs.{action_cost, site_cost}
use Rattle.ld_firing.specs.Progress.{Progress, progress_of, progress_by, Does}
use Rattle.ld_firing.specs.RunSystem.{slots_named}
use Rattle.ld_rules.specs.SiteTests.{rule_of, site_test}
use Rattle.ld_state.specs.RunCells.{slot_of}
use Rattle.ld_state.specs.RunState.{RunState, seen_in}
use Rattle.ld_state.specs.StateView.{StateView, run_of}
use Rattle.ld_state.proofs.Elements.{different}
use Rattle.ld_firing.proofs.Sites.{rule_listed}
use Rattle.ld_firing.proofs.Firings.{firing_enrolment}
use Rattle.ld_firing.proofs.Progressing.{done_at_all, fired_is}

-- The rule of this number, the site and the verdict of a firing.
pub record IsFiring (unit : Unit) (s : RunState) (site : Site) (rule : Rule) (verdict : Bool) : Type 0 where
  pub ruled : rule_of unit site ≡ Some rule
  pub judged : verdict ≡ site_test unit (seen_in unit s) site

-- What the firing of the rule does.
abbrev pub fires_by : Unit → Site → Rule → Bool → Doing → Doing
fires_by unit site rule verdict doing =
    rule_effect unit site.owner rule verdict (with_write doing (mark_cell site.rule site.owner) (Some (truth_datum verdict)))

module _ (unit : Unit) (s t : StateView) (told after : List ℕ) (site : Site) (rule : Rule) (verdict : Bool)
    (firing : IsFiring unit (run_of s) site rule verdict) {here : Unit} (same : here ≡ unit) where
  -- What is said of this outcome, where the unit at hand is the one of the site.
  abbrev DoesAs : Unit → Fired → Type 0
  DoesAs one fired =
      Does one (progress_of s told (record { rejected = 0; sent = 0 })) (progress_of t after fired) (fires_by one site rule verdict)

  whole : (fired : Fired) → DoesAs here fired → progress_of t after fired ≡ progress_by unit told (site_firing unit (run_of s) site)
  whole fired does =
      done_at_all unit s told (progress_of t after fired) (fires_by unit site rule verdict) (subst (λ one. DoesAs one fired) same does)
      ∙ ap (progress_by unit told) (fired_is unit (run_of s) site rule verdict firing.ruled firing.judged)

  pub fired_run : {E : Type 0} (result : Result Fired E)
      → IfOk result (DoesAs here)
      → OnOk result (run_of t ≡ (site_firing unit (run_of s) site).state)
  fired_run (Ok fired) does = ap (λ (p : Progress). p.run) (whole fired does)
  fired_run (Err e) does = tt

  pub fired_changed : {E : Type 0} (result : Result Fired E)
      → IfOk result (DoesAs here)
      → OnOk result (after ≡ told ++ slots_named unit (run_of s) (site_firing unit (run_of s) site).changes)
  fired_changed (Ok fired) does =
      ap (λ (p : Progress). p.told) (whole fired does)
      ∙ ap (λ (ps : Persons). told ++ filter_map (slot_of unit (length ps)) (site_firing unit (run_of s) site).changes)
      (firing_enrolment unit (run_of s) site).persons
  fired_changed (Err e) does = tt

  pub fired_rejected : {E : Type 0} (result : Result Fired E)
      → IfOk result (DoesAs here)
      → IfOk result (λ fired. fired.rejected ≡ (site_firing unit (run_of s) site).rejected)
  fired_rejected (Ok fired) does = ap (λ (p : Progress). p.rejected) (whole fired does)
  fired_rejected (Err e) does = tt

  pub fired_sent : {E : Type 0} (result : Result Fired E)
      → IfOk result (DoesAs here)
      → IfOk result (λ fired. fired.sent ≡ (site_firing unit (run_of s) site).sent)
  fired_sent (Ok fired) does = ap (λ (p : Progress). p.sent) (whole fired does)
  fired_sent (Err e) does = tt

pub costs_of : (unit : Unit) (s : RunState) (site : Site) (rule : Rule) (verdict : Bool) → IsFiring unit s site rule verdict
    → 4 + sum_by (action_cost unit s site.owner) (actions_of unit rule verdict) ≡ site_cost unit s site
unfolding site_cost
costs_of unit s site rule verdict firing =
    ap₂ (λ b (found : Option Rule). 4 + sum_by (action_cost unit s site.owner) (list_from (λ one. actions_of unit one b) found))
    firing.judged (sym firing.ruled)

-- Each site of a run has a rule.
pub never_missing : {A : Type 0} (unit : Unit) (persons : ℕ) (site : Site) → Contains (sites_of unit persons) site → (rules : List Rule)
    → rules ≡ rules_of unit → (found : Option A) → found ≡ None → (site.rule < length rules → is_some found ≡ true) → ⊥
never_missing unit persons site there rules are found none present =
    let has = rule_listed unit persons site there in
    let within : site.rule < length rules =
    slice_get_within rules site.rule has.rule (ap (λ all. slice_get all site.rule) are ∙ has.ruled) in
    different (sym (subst (λ o. is_some o ≡ true) none (present within)))

-- The rule that is got by its number.
pub rule_got : (unit : Unit) (rules : List Rule) (site : Site) (rule : Rule) → rules ≡ rules_of unit → site.rule < length rules
    → rule ≡ get_or rules site.rule rule → rule_of unit site ≡ Some rule
rule_got unit rules site rule are within is =
    ap (λ all. slice_get all site.rule) (sym are) ∙ slice_get_read rules (length rules) site.rule rule refl within is

pub firing_got : (unit : Unit) (s : RunState) (rules : List Rule) (site : Site) (rule : Rule) (verdict : Bool) → rules ≡ rules_of unit
    → site.rule < length rules → rule ≡ get_or rules site.rule rule → verdict ≡ site_test unit (seen_in unit s) site
    → IsFiring unit s site rule verdict
firing_got unit s rules site rule verdict are within is judged =
    record { ruled = rule_got unit rules site rule are within is; judged = judged }
