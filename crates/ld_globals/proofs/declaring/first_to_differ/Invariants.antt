use Rattle.std.proofs.Common.{◌-◌, ◌≤◌, [], map, take, length}
use Rattle.std.specs.List.{AllByRecursion}
use Rattle.ld_globals.specs.Kept.{uri_and_declaration, store_of}
use Rattle.ld_globals.specs.Store.{Agrees}
use Rattle.ld_globals.proofs.declaring.first_to_differ.Given as goal

abbrev pub invariant-loop-place : goal.invariant-loop-place
invariant-loop-place l = (l.place ≤ length l.pairs) × AllByRecursion (Agrees (store_of l.declared.entries [] [] 0 0)) (take l.place (map uri_and_declaration l.pairs))

abbrev pub decreases-loop-place : goal.decreases-loop-place
decreases-loop-place l = length l.pairs - l.place
