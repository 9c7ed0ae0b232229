-- What a report says of the rules of a unit.
use Rattle.std.specs.Prelude.{◌≡◌, ℕ, ◌<◌, ◌≤◌, List, map, Some, Contains}
use Rattle.ld_cascade.specs.Settling.{Firing, PassesBudget, after_sweeps, sweep_firings}
use Rattle.ld_model.specs.declared.unit.Unit.{Unit}
use Rattle.ld_names.specs.Rules.{Site}
use Rattle.ld_state.specs.RunState.{RunState}
use Rattle.ld_firing.specs.RunSystem.{run_system, site_at}
use Rattle.ld_rank.specs.declared.report.Report.{Report}
use Rattle.ld_rank.specs.declared.report.Report.TheVariants.{Ranked, Loop}
use Rattle.ld_rank.specs.Ranking.{IsRanking, IsTight, depth_of, rank_at}
use Rattle.ld_rank.specs.Rules.{IsFirstRuleLoop}

-- The numbers are a ranking in which each rule with a number above 1 is fed by one whose number is one less.
-- From any state a rule with the number k fires in the sweeps 1 to k of a settling alone; and where no number
-- is greater than the unit's turns, no settling from any state passes the budget.
pub record IsRankedBy (unit : Unit) (ranks : List ℕ) : Type 0 where
  pub ranking : IsRanking unit ranks
  pub tight : IsTight unit ranks
  pub in_time :
      (s : RunState) (sweeps : ℕ) (f : Firing (run_system unit)) (site : Site)
      → Contains (sweep_firings (run_system unit) (after_sweeps (run_system unit) s sweeps)) f
      → site_at unit f.before f.site ≡ Some site → sweeps < rank_at ranks site.rule
  pub never_passes :
      depth_of ranks ≤ unit.turns → (s : RunState) → PassesBudget (run_system unit) s unit.turns → ⊥

-- The rules are the first loop, and there is no ranking.
pub record IsLoopedBy (unit : Unit) (rules : List ℕ) : Type 0 where
  pub first : IsFirstRuleLoop unit rules
  pub unranked : (ranks : List ℕ) → IsRanking unit ranks → ⊥

-- The report is that of the unit.
abbrev pub IsReportOf : Unit → Report → Type 0
IsReportOf unit (Ranked ranks) = IsRankedBy unit ranks
IsReportOf unit (Loop rules) = IsLoopedBy unit (map (λ rule. rule.0) rules)
