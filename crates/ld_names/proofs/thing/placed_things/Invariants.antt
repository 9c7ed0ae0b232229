use Rattle.std.proofs.Common.{◌≡◌, ◌++◌, map, drop}
use Rattle.ld_names.specs.ThingView.{entry_of}
use Rattle.ld_names.proofs.thing.placed_things.Given as goal

abbrev pub invariant-loop-thing : goal.invariant-loop-thing
invariant-loop-thing l =
    let rest = map entry_of (drop l.thing-index l.things) in
    let all = map entry_of l.things in
    (map (λ thing. thing.place) l.placed.items ++ map (λ entry. entry.place) rest ≡ map (λ entry. entry.place) all)
    × (map (λ thing. thing.visible) l.placed.items ++ map (λ entry. entry.visible) rest ≡ map (λ entry. entry.visible) all)
