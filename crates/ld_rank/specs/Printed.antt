-- How a report is printed.
use Rattle.std.specs.Prelude.{◌≡◌, ℕ, ◌+◌, List, [], ◌++◌, flat_map, length, slice_get, Option, Some, None, option_map, nat_lt, if◌then◌else◌, codes, decimal}
use Rattle.std.specs.Option.{unwrap_or}
use Rattle.ld_model.specs.declared.unit.Unit.{Unit}
use Rattle.ld_base.specs.Numbers.{numbers_below}
use Rattle.ld_names.specs.declared.rule.Rule.{Rule}
use Rattle.ld_names.specs.declared.rule.Rule.TheVariants.{CompletesActivity, CompletesStructure, OpensAct, CompletesPart, CompletesAct, CompletesPlay, CompletesUnit, JudgesCondition}
use Rattle.ld_names.specs.Rules.{rules_of}
use Rattle.ld_expr.specs.Lookup.{list_from}
use Rattle.ld_refs.specs.Extents.{act_at, play_at, role_part_at}
use Rattle.ld_rank.specs.declared.report.Report.{Report}
use Rattle.ld_rank.specs.declared.report.Report.TheVariants.{Ranked, Loop}
use Rattle.ld_rank.specs.Ranking.{depth_of, rank_at}
use Rattle.ld_rank.specs.Reports.{IsReportOf}

-- What the rule is of.
abbrev pub kind_word : Rule → List ℕ
kind_word (CompletesActivity _) = codes "activity "
kind_word (CompletesStructure _) = codes "structure "
kind_word (OpensAct _ _) = codes "opening "
kind_word (CompletesPart _ _ _) = codes "part "
kind_word (CompletesAct _ _) = codes "act "
kind_word (CompletesPlay _) = codes "play "
kind_word CompletesUnit = codes "unit "
kind_word (JudgesCondition _) = codes "condition "

-- The identifier of what the rule is of; a condition has none.
abbrev pub rule_id : Unit → Rule → Option (List ℕ)
rule_id unit (CompletesActivity a) = option_map (λ one. one.identifier) (slice_get unit.activities a)
rule_id unit (CompletesStructure s) = option_map (λ one. one.identifier) (slice_get unit.structures s)
rule_id unit (OpensAct p a) = option_map (λ act. act.identifier) (act_at unit p a)
rule_id unit (CompletesPart p a r) = option_map (λ part. part.identifier) (role_part_at unit p a r)
rule_id unit (CompletesAct p a) = option_map (λ act. act.identifier) (act_at unit p a)
rule_id unit (CompletesPlay p) = option_map (λ play. play.identifier) (play_at unit p)
rule_id unit CompletesUnit = Some unit.identifier
rule_id unit (JudgesCondition _) = None

-- The identifier of what the rule is of, or a condition's number from 1 on.
abbrev pub thing_word : Unit → Rule → List ℕ
thing_word unit (JudgesCondition c) = decimal (c + 1)
thing_word unit rule = unwrap_or (rule_id unit rule) []

-- The name of the rule of this number.
abbrev pub rule_name : Unit → ℕ → List ℕ
rule_name unit number = list_from (λ rule. kind_word rule ++ thing_word unit rule) (slice_get (rules_of unit) number)

-- Whether no number is above the turns.
abbrev pub answer_word : ℕ → ℕ → List ℕ
answer_word depth turns = if nat_lt turns depth then codes " open\n" else codes " never-30\n"

-- The line of the rule with its rank.
abbrev pub rank_line : Unit → List ℕ → ℕ → List ℕ
rank_line unit ranks number = decimal (rank_at ranks number) ++ (codes " " ++ (rule_name unit number ++ codes "\n"))

-- The first line of a ranking.
abbrev pub ranking_head : Unit → List ℕ → List ℕ
ranking_head unit ranks =
    codes "ranked " ++ (unit.identifier ++ (codes " rules=" ++ (decimal (length ranks)
    ++ (codes " depth=" ++ (decimal (depth_of ranks) ++ (codes " turns=" ++ (decimal unit.turns
    ++ answer_word (depth_of ranks) unit.turns)))))))

-- The first line of a loop of this many rules.
abbrev pub loop_head : Unit → ℕ → List ℕ
loop_head unit many =
    codes "loop " ++ (unit.identifier ++ (codes " length=" ++ (decimal many ++ codes "\n")))

-- The lines of the report.
abbrev pub printed_report : Unit → Report → List ℕ
printed_report unit (Ranked ranks) =
    ranking_head unit ranks ++ flat_map (rank_line unit ranks) (numbers_below (length ranks))
printed_report unit (Loop rules) =
    loop_head unit (length rules) ++ flat_map (λ rule. rule_name unit rule.0 ++ codes "\n") rules

-- The text is what is printed of the unit's report.
pub record IsReportText (unit : Unit) (text : List ℕ) : Type 0 where
  pub report : Report
  pub is : IsReportOf unit report
  pub printed : text ≡ printed_report unit report
