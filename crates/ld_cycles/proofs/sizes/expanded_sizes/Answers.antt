use Rattle.std.proofs.Common.{◌≡◌, ◌+◌, ◌≤◌, length, map, refl, sym, ◌∙◌, arith}
use Rattle.std.proofs.lemmas.List.{length-map}
use Rattle.std.proofs.lemmas.Slice.Eq.{bytes_eq-Decides}
use Rattle.ld_cycles.proofs.Rounds.{capped, none_before, still_at}
use Rattle.ld_cycles.proofs.sizes.expanded_sizes.Goals as goal

pub loop-init : goal.loop-init
loop-init c =
    let graph = map (λ next. next.items) c.args.edges.now in
    let count = length-map c.args.edges.now (λ next. next.items) in
    rw (none_before c.args.own.now graph, count) (c.in_ok-sizes.ensures.items_if_clones_equal (λ y is. is))

pub loop-preserved : goal.loop-preserved
loop-preserved c =
    c.in_ok-next.ensures (map (λ next. next.items) c.args.edges.now) c.loop.counter refl (c.deref.ensures.value ∙ c.loop.invariant)

pub returns-then-eq : goal.returns-then-eq
returns-then-eq c =
    let graph = map (λ next. next.items) c.args.edges.now in
    let count = length-map c.args.edges.now (λ next. next.items) in
    let next = c.in_ok-next.ensures graph c.loop.counter refl (c.deref.ensures.value ∙ c.loop.invariant) in
    let same = (bytes_eq-Decides c.as_slice.result.now c.as_slice-in-loop.result.now).0 (sym c.if-eq.ensures) in
    let still : capped c.args.own.now graph (c.loop.counter + 1) ≡ capped c.args.own.now graph c.loop.counter =
    sym next ∙ sym c.as_slice.ensures.value ∙ same ∙ c.as_slice-in-loop.ensures.value ∙ c.loop.invariant in
    let within : c.loop.counter ≤ length graph = omega (arith, count, c.loop.auto.counter-end) in
    c.loop.invariant ∙ still_at c.args.own.now graph c.loop.counter (length graph) (omega (arith, count, c.requires)) still within
