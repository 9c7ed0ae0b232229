use Rattle.std.proofs.Common.{◌≡◌, ◌||◌, map, take, false, nat_eq, slice_get}
use Rattle.std.specs.List.{list_any}
use Rattle.std.specs.Option.{unwrap_or}
use Rattle.ld_cycles.proofs.cycles.by_search.one_step_more.Given as goal

abbrev pub invariant-loop-next : goal.invariant-loop-next
invariant-loop-next l = l.more.items ≡ map (λ next. list_any (λ c. nat_eq c l.end || unwrap_or (slice_get l.leading c) false) next.items) (take l.next-index l.edges)
