use Rattle.std.proofs.Common.{◌≡◌, ℕ, ◌<◌, ◌≤◌, true, false, [], get_or}
use Rattle.ld_graph.specs.Table.{has}
use Rattle.ld_cascade_tests.proofs.tests.link_lamps.Given as goal

abbrev pub invariant-loop-site : goal.invariant-loop-site
invariant-loop-site l =
    ((i : ℕ) → get_or l.links.edges.rows i [] ≡ [])
    × ((i : ℕ) → i < l.site → has l.links.dirty i ≡ true)
    × ((i : ℕ) → l.site ≤ i → has l.links.dirty i ≡ false)
    × ((i : ℕ) → i < l.site → has l.links.loose i ≡ true)
    × ((i : ℕ) → l.site ≤ i → has l.links.loose i ≡ false)
    × (l.count ≤ l.links.sites)
    × (l.count ≤ l.links.edges.slots)
    × (l.site ≤ l.count)
