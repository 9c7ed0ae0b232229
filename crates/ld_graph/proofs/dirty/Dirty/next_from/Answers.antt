use Rattle.std.proofs.Common.{rules, arith, ℕ, inl, inr, length, refl, ◌∙◌}
use Rattle.std.proofs.lemmas.Bool.{cases_lt}
use Rattle.ld_graph.specs.Words.{lowest}
use Rattle.ld_graph.proofs.Marking.{table_has, table_length, apart}
use Rattle.ld_graph.proofs.dirty.Dirty.next_from.Goals as goal

pub returns-in_default-clause-none : goal.returns-in_default-clause-none
returns-in_default-clause-none c k le = table_has c.self.invariant.0 c.args.self.now c.self.view_is k ∙ c.in_default.ensures.none k le

pub returns-in_default-clause-fits : goal.returns-in_default-clause-fits
returns-in_default-clause-fits c =
    let l = table_length c.self.inside.levels c.self.inside.range c.args.self.now c.self.view_is in
    let f = c.self.invariant.0.fits in
    omega arith

pub returns-clause-fits : goal.returns-clause-fits
returns-clause-fits c =
    let l = table_length c.self.inside.levels c.self.inside.range c.args.self.now c.self.view_is in
    let f = c.self.invariant.0.fits in
    omega arith

pub returns-clause-found : goal.returns-clause-found
returns-clause-found c =
    let l = table_length c.self.inside.levels c.self.inside.range c.args.self.now c.self.view_is in
    let n : ℕ = c.in-Some.next in
    let found = c.in-Some.ensures.found in (
      found.0,
      elim (cases_lt n (length c.args.self.now)) [
        | inl lt ↦ lt
        | inr le ↦ absurd (apart (lowest c.self.inside.levels) n n found.1 (c.self.invariant.0.none_beyond n (omega arith)) refl)
      ],
      table_has c.self.invariant.0 c.args.self.now c.self.view_is n ∙ found.1,
    )

pub returns-clause-least : goal.returns-clause-least
returns-clause-least c k le lt = table_has c.self.invariant.0 c.args.self.now c.self.view_is k ∙ c.in-Some.ensures.least k le lt

pub returns-then-not-self-clause-none : goal.returns-then-not-self-clause-none
returns-then-not-self-clause-none c k le =
    table_has c.self.invariant.0 c.args.self.now c.self.view_is k ∙ c.self.invariant.1 (search rules) k

pub returns-then-not-self-clause-fits : goal.returns-then-not-self-clause-fits
returns-then-not-self-clause-fits c =
    let l = table_length c.self.inside.levels c.self.inside.range c.args.self.now c.self.view_is in
    let f = c.self.invariant.0.fits in
    omega arith
