-- What each firing of a site keeps, a settling keeps.
use Rattle.std.proofs.Common.{◌≡◌, refl, ap, subst, ℕ, zero, suc, length, Option, Some, None, Bool, true, false, cond, option_map}
use Rattle.std.specs.Option.{option_map_or}
use Rattle.ld_cascade.specs.System.{due}
use Rattle.ld_cascade.specs.Settling.{step, visited, after_sweeps}
use Rattle.ld_model.specs.declared.unit.Unit.{Unit}
use Rattle.ld_names.specs.declared.rule.Rule.{Rule}
use Rattle.ld_names.specs.Rules.{Site, kind_of, is_for_persons}
use Rattle.ld_firing.specs.Actions.{Doing, nothing_done, firing_by, site_firing}
use Rattle.ld_firing.specs.RunSettling.{Settlement, settlement_after, turns_within, run_settling}
use Rattle.ld_state.specs.RunState.{RunState, seen_in}
use Rattle.ld_firing.specs.RunSystem.{run_system, site_at, verdict_in}
use Rattle.ld_rules.specs.SiteTests.{site_test, site_mark, rule_of}
use Rattle.ld_firing.specs.SiteWalk.{is_due}
use Rattle.ld_firing.proofs.Sites.{IsOwner, HasSite, site_found}

-- The site is one of the run, with its rule, and its test and its mark differ.
pub record IsFired (unit : Unit) (s : RunState) (site : Site) : Type 0 where
  pub rule : Rule
  pub ruled : rule_of unit site ≡ Some rule
  pub owned : IsOwner (length s.persons) (is_for_persons (kind_of rule)) site.owner
  pub due_now : is_due unit s site ≡ true

-- What has no rule does nothing.
pub unruled_firing : (unit : Unit) (s : RunState) (site : Site) → rule_of unit site ≡ None → site_firing unit s site ≡ nothing_done s
unfolding site_firing
unruled_firing unit s site none =
    ap (λ (found : Option Rule). elim found as (λ _. Doing) [ None ↦ nothing_done s | Some rule ↦ firing_by unit s site rule ]) none

-- Each firing keeps the fact.
abbrev pub FiringsKeep : Unit → (RunState → Type 0) → Type 0
FiringsKeep unit P = (s : RunState) (site : Site) → IsFired unit s site → P s → P (site_firing unit s site).state

module _ (unit : Unit) (P : RunState → Type 0) (kept : FiringsKeep unit P) where
  visit_keeps : (s : RunState) (i : ℕ) (site : Site) → site_at unit s i ≡ Some site → P s → (b : Bool) → is_due unit s site ≡ b
      → P (cond b (site_firing unit s site).state s)
  visit_keeps s i site at holds false rests = holds
  visit_keeps s i site at holds true fires =
      let has : HasSite unit s i site = site_found unit s i site at in
      kept s site (record { rule = has.rule; ruled = has.ruled; owned = has.owned; due_now = fires }) holds

  number_keeps : (s : RunState) (i : ℕ) → P s → P (step (run_system unit) s i)
  number_keeps s i holds = by (site_at unit s i) refl
    where
      by : (found : Option Site) → site_at unit s i ≡ found
          → P (cond (due (option_map_or (site_test unit (seen_in unit s)) found false) (option_map_or (λ site. verdict_in (s.cells (site_mark site))) found (Some false))) (option_map_or (site_firing unit s) found (nothing_done s)).state s)
      by None at = holds
      by (Some site) at = visit_keeps s i site at holds (is_due unit s site) refl

  visits_keep : (s : RunState) (n : ℕ) → P s → P (visited (run_system unit) s n)
  unfolding visited
  visits_keep s zero holds = holds
  visits_keep s (suc n) holds = number_keeps (visited (run_system unit) s n) n (visits_keep s n holds)

  pub sweeps_keep : (s : RunState) (k : ℕ) → P s → P (after_sweeps (run_system unit) s k)
  unfolding after_sweeps
  sweeps_keep s zero holds = holds
  sweeps_keep s (suc k) holds =
      visits_keep (after_sweeps (run_system unit) s k) ((run_system unit).count (after_sweeps (run_system unit) s k))
      (sweeps_keep s k holds)

  -- A settling keeps it.
  pub settling_keeps : (s : RunState) (x : Settlement) → run_settling unit s ≡ Some x → P s → P x.state
  unfolding run_settling
  settling_keeps s x is holds = by (turns_within (run_system unit) s unit.turns) is
    where
      by : (turns : Option ℕ) → option_map (settlement_after unit s) turns ≡ Some x → P x.state
      by None none = absurd (cc)
      by (Some turns) some =
          let same : settlement_after unit s turns ≡ x = cc in
          subst (λ (y : Settlement). P y.state) same (sweeps_keep s turns holds)
