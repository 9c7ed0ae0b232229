use Rattle.std.proofs.Common.{arith, ℕ, false, replicate, ◌∙◌, ap}
use Rattle.ld_graph.proofs.Marking.{none_had, empty_table, no_bits}
use Rattle.ld_graph.proofs.dirty.Dirty.new.Goals as goal

pub invariant_of-dirty : goal.invariant_of-dirty
invariant_of-dirty c = rw (c.new.ensures, c.new-2.ensures) (empty_table, λ _ n. no_bits n)

pub returns-clause-fresh : goal.returns-clause-fresh
returns-clause-fresh c =
    none_had c.grow.new.self (λ n. c.in_ok-grow.ensures.same n)
    ∙ ap (λ (x : ℕ). replicate x false) (let e = c.in_ok-grow.ensures.ok in omega arith)
