use Rattle.std.proofs.Common.{map, length, arith, ◌<◌, ◌≡◌, ℕ, sym, ◌∙◌, false}
use Rattle.std.proofs.lemmas.List.{length-map}
use Rattle.ld_cycles.specs.Graphs.{is_on_cycle}
use Rattle.ld_cycles.proofs.CycleLaws.{first_number, no_number}
use Rattle.ld_cycles.proofs.cycles.by_search.first_on_cycle_by_search.Goals as goal

pub returns-then-branch : goal.returns-then-branch
returns-then-branch c =
    let g = map (λ next. next.items) c.args.edges.now in
    let nodes = length-map c.args.edges.now (λ next. next.items) in
    let within : c.loop-node.node < length g = omega (arith, nodes, c.loop-node-test.true) in
    sym (first_number (is_on_cycle g) (length g) c.loop-node.node within (sym c.in_ok-is_on_cycle.ensures ∙ c.if-branch.true) c.loop-node.invariant)

pub returns : goal.returns
returns c =
    let g = map (λ next. next.items) c.args.edges.now in
    let nodes = length-map c.args.edges.now (λ next. next.items) in
    let none : (k : ℕ) → k < length g → is_on_cycle g k ≡ false = λ k within. c.loop-node.invariant k (omega (arith, nodes, c.loop-node-test.false)) in
    sym (no_number (is_on_cycle g) (length g) none)
