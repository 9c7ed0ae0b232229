use Rattle.std.proofs.Common.{arith, List, Bool, true, set, ◌∙◌, ap}
use Rattle.ld_graph.specs.Words.{lowest}
use Rattle.ld_graph.proofs.Marking.{bits_set, table_length, table_changed, word_within}
use Rattle.ld_graph.proofs.dirty.Dirty.set.Goals as goal

pub set_at-requires-clause-within : goal.set_at-requires-clause-within
set_at-requires-clause-within c =
    let l = table_length c.self.inside.levels c.self.inside.range c.args.self.now c.self.view_is in
    word_within c.self.invariant.0 c.args.site (omega arith)

pub invariant_of-self : goal.invariant_of-self
invariant_of-self c =
    let l = table_length c.self.inside.levels c.self.inside.range c.args.self.now c.self.view_is in (
      table_changed c.self.invariant.0 c.args.site (omega arith) c.set_at.ensures.levels c.set_at.ensures.count c.set_at.ensures.len c.set_at.ensures.others,
      λ no. absurd (cc no),
    )

pub returns : goal.returns
returns c =
    bits_set (lowest c.self.inside.levels) (lowest c.set_at.new.levels) c.self.inside.range c.args.site true c.set_at.ensures.own
    c.set_at.ensures.others
    ∙ ap (λ (x : List Bool). set x c.args.site true) c.self.view_is
