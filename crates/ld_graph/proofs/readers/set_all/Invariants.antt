use Rattle.std.proofs.Common.{◌≡◌, ℕ, ◌⊎◌, ◌++◌, true, length, Contains}
use Rattle.ld_graph.specs.Table.{has}
use Rattle.ld_graph.proofs.readers.set_all.Given as goal

abbrev pub invariant-loop-site : goal.invariant-loop-site
invariant-loop-site l =
    (length l.dirty ≡ length l.fn.dirty)
    × (l.fn.sites ≡ l.yielded ++ l.site-iterator)
    × ((i : ℕ) → has l.fn.dirty i ≡ true → has l.dirty i ≡ true)
    × ((i : ℕ) → Contains l.yielded i → has l.dirty i ≡ true)
    × ((i : ℕ) → has l.dirty i ≡ true → (has l.fn.dirty i ≡ true) ⊎ Contains l.yielded i)
