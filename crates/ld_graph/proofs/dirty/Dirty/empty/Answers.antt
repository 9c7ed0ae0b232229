use Rattle.std.proofs.Common.{rules, ℕ, inl, inr, false, replicate, ◌∙◌, ap}
use Rattle.std.proofs.lemmas.Bool.{cases_lt}
use Rattle.ld_graph.proofs.Marking.{none_had}
use Rattle.ld_graph.proofs.dirty.Dirty.empty.Goals as goal

pub overflow_add-from : goal.overflow_add-from
overflow_add-from c = let f = c.next_from.ensures.fits in let g = c.in-Some.ensures.found in search rules

pub returns : goal.returns
returns c =
    none_had c.sites.self (λ n. elim (cases_lt n c.sites.from) [
      | inl lt ↦ c.sites.invariant.1 n lt
      | inr le ↦ c.in_default.ensures.none n le
    ])
    ∙ ap (λ (x : ℕ). replicate x false) c.sites.invariant.0
