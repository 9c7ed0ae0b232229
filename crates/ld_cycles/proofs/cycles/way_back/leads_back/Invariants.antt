use Rattle.std.proofs.Common.{◌≡◌, true, map}
use Rattle.std.specs.List.{list_all}
use Rattle.ld_cycles.proofs.CycleLaws.{is_near}
use Rattle.ld_cycles.proofs.cycles.way_back.leads_back.Given as goal

abbrev pub invariant-loop-at : goal.invariant-loop-at
invariant-loop-at l = list_all (λ node. is_near (map (λ next. next.items) l.edges) l.at l.start node) l.reached.items ≡ true
