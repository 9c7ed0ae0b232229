use Rattle.std.proofs.Common.{inl, inr, ℕ, ◌<◌, length, get_or, subst}
use Rattle.std.proofs.lemmas.List.{get_or_default}
use Rattle.std.proofs.lemmas.List.Elements.{Contains-get_or}
use Rattle.ld_graph.proofs.graph.Graph.set_readers.Goals as goal

pub returns-clause-readers : goal.returns-clause-readers
returns-clause-readers c i linked = c.set_all.ensures.all i ((c.readers.ensures.sites i).1 linked)

pub returns-clause-only : goal.returns-clause-only
returns-clause-only c i is = elim (c.set_all.ensures.only i is) [
  | inl was ↦ inl was
  | inr met ↦ inr ((c.readers.ensures.sites i).0 met)
]

pub set_all-requires : goal.set_all-requires
set_all-requires c k d within =
    let sites = c.readers.result in
    subst (λ (n : ℕ). n < length c.args.dirty.now) (get_or_default sites k 0 d within)
    (c.requires.range (get_or sites k 0) ((c.readers.ensures.sites (get_or sites k 0)).0 (Contains-get_or sites k 0 within)))
