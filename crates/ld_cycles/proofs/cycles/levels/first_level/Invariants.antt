use Rattle.std.proofs.Common.{◌≡◌, ℕ, ◌<◌, false, map, nat_le, slice_get}
use Rattle.std.specs.List.{list_any}
use Rattle.std.specs.Option.{unwrap_or}
use Rattle.ld_cycles.specs.Graphs.{next_of}
use Rattle.ld_cycles.proofs.cycles.levels.first_level.Given as goal

abbrev pub invariant-loop-node : goal.invariant-loop-node
invariant-loop-node l = (node : ℕ) → node < l.node → list_any (λ target. nat_le (unwrap_or (slice_get l.labels node) 0) (unwrap_or (slice_get l.labels target) 0)) (next_of (map (λ next. next.items) l.edges) node) ≡ false
