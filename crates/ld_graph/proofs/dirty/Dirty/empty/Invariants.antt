use Rattle.std.proofs.Common.{◌≡◌, ℕ, ◌-◌, ◌<◌, false, length}
use Rattle.ld_graph.specs.Table.{has}
use Rattle.ld_graph.proofs.dirty.Dirty.empty.Given as goal

abbrev pub invariant-sites : goal.invariant-sites
invariant-sites l = (length l.self ≡ length l.fn.self) × ((k : ℕ) → k < l.from → has l.self k ≡ false)

abbrev pub decreases-sites : goal.decreases-sites
decreases-sites l = length l.self - l.from
