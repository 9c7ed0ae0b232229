use Rattle.std.proofs.Common.{◌≡◌, ◌<◌, ℕ, List, false, length, map, ap, arith, add-one}
use Rattle.std.proofs.lemmas.List.{length-map}
use Rattle.ld_cycles.specs.Graphs.{IsNext, number_or_zero_at}
use Rattle.ld_layers.specs.Layers.{layer_within}
use Rattle.ld_layers.proofs.Raised.{reached_next, reaching_layers, still_layers}
use Rattle.ld_layers.proofs.layers.raise_to_layers.Goals as goal

pub returns-then-not-raise_all : goal.returns-then-not-raise_all
returns-then-not-raise_all c =
    let g = map (λ next. next.items) c.args.edges.now in
    let count = length-map c.args.edges.now (λ next. next.items) in
    let new = c.raise_all.new.numbers in
    let none : c.raise_all.result ≡ false = cc in
    let still = c.raise_all.ensures.still none in
    let rise : (a b : ℕ) → b < length g → IsNext g a b → number_or_zero_at new a < number_or_zero_at new b =
    λ a b within next.
    omega (arith, ap (λ (numbers : List ℕ). number_or_zero_at numbers a) still, c.raise_all.ensures.rise a b (omega (arith, within, count)) next) in
    still_layers g new c.requires.acyclic c.raise_all.ensures.low rise

pub loop-preserved : goal.loop-preserved
loop-preserved c =
    let g = map (λ next. next.items) c.args.edges.now in
    let count = length-map c.args.edges.now (λ next. next.items) in
    let low = c.raise_all.ensures.low in
    record {
      low = low;
      reach = λ b within.
          let next = reached_next g c.loop.counter c.loop.numbers c.raise_all.new.numbers
          (λ a below. c.loop.invariant.reach a (omega (arith, below, count)))
          (λ a b below step. c.raise_all.ensures.rise a b (omega (arith, below, count)) step) low.from_one b (omega (arith, within, count)) in
          omega (arith, next, ap (λ k. layer_within g k b) (add-one c.loop.counter));
    }

pub returns : goal.returns
returns c =
    let g = map (λ next. next.items) c.args.edges.now in
    let count = length-map c.args.edges.now (λ next. next.items) in
    let all : c.loop.counter ≡ length g = omega (arith, count, c.loop-test.false, c.loop.auto.counter-end) in
    reaching_layers g c.loop.numbers c.requires.acyclic c.loop.invariant.low
    (λ b within. omega (arith, c.loop.invariant.reach b (omega (arith, within, count)), ap (λ k. layer_within g k b) all))
