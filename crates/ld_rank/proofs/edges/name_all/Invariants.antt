use Rattle.std.proofs.Common.{◌≡◌, ◌||◌, ◌<◌, ℕ, drop, length, nat_eq}
use Rattle.std.specs.List.{list_any}
use Rattle.ld_rank.specs.Rules.{is_named}
use Rattle.ld_rank.proofs.edges.name_all.Given as goal

abbrev pub invariant-loop-rule : goal.invariant-loop-rule
invariant-loop-rule l = record {
  each : length l.fed ≡ length l.fn.fed;
  value : (b : ℕ) → b < length l.fn.fed → (is_named l.fed b || list_any (λ rule. nat_eq rule b) (drop l.rule-index l.rules)) ≡ (is_named l.fn.fed b || list_any (λ rule. nat_eq rule b) l.rules);
}
