-- What is done stays done.
use Rattle.std.proofs.Common.{ℕ, List, slice_get, Option, Some, None}
use Rattle.std.specs.Option.{option_map_or}
use Rattle.ld_model.specs.declared.cell.Owner.{Owner}
use Rattle.ld_model.specs.declared.cell.Owner.TheVariants.{Run}
use Rattle.ld_names.specs.declared.rule.Rule.{Rule}
use Rattle.ld_names.specs.declared.rule.RuleKind.{RuleKind}
use Rattle.ld_names.specs.declared.rule.RuleKind.TheVariants.{Person as OfPerson, Run as OfRun}
use Rattle.ld_names.specs.Rules.{kind_of, rules_of}
use Rattle.ld_expr.specs.Done.{marked_owner}
use Rattle.ld_expr.specs.Owners.{mark_owner}
use Rattle.ld_state.specs.RunState.{RunState}
use Rattle.ld_rules.specs.LawWords.{HasOwner}
use Rattle.ld_firing.proofs.LawsDone.{done_stays}
use Rattle.ld_laws.specs.RunLaws.{DoneStays}
use Rattle.ld_laws.proofs.LawsLatching.{step_latches}

-- The owner of the mark that is meant is one of the run's, where the owner that speaks is.
meant_owner : (s : RunState) (rules : List Rule) (number : ℕ) (owner : Owner) → HasOwner s owner → HasOwner s (marked_owner rules number owner)
meant_owner s rules number owner has = by (slice_get rules number)
  where
    by_kind : (kind : RuleKind) → HasOwner s (mark_owner kind owner)
    by_kind OfPerson = has
    by_kind OfRun = tt

    by : (found : Option Rule) → HasOwner s (option_map_or (λ rule. mark_owner (kind_of rule) owner) found Run)
    by None = tt
    by (Some rule) = by_kind (kind_of rule)

pub step_leaves_done : DoneStays
step_leaves_done unit s store moment asked d owner id is has done =
    done_stays unit s d.state owner id
    (λ rule good told. step_latches unit s store moment asked d rule (marked_owner (rules_of unit) rule owner) is good (meant_owner s (rules_of unit) rule owner has) told)
    done
