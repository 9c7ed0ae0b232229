use Rattle.std.proofs.Common.{arith, List, Bool, false, set, ◌∙◌, ap}
use Rattle.ld_graph.specs.Words.{lowest}
use Rattle.ld_graph.proofs.Marking.{bits_set, table_length, table_changed, word_within}
use Rattle.ld_graph.proofs.dirty.Dirty.clear.Goals as goal

pub clear_at-requires-clause-within : goal.clear_at-requires-clause-within
clear_at-requires-clause-within c =
    let l = table_length c.self.inside.levels c.self.inside.range c.args.self.now c.self.view_is in
    word_within c.self.invariant.0 c.args.site (omega arith)

pub invariant_of-self : goal.invariant_of-self
invariant_of-self c =
    let l = table_length c.self.inside.levels c.self.inside.range c.args.self.now c.self.view_is in (
      table_changed c.self.invariant.0 c.args.site (omega arith) c.clear_at.ensures.levels c.clear_at.ensures.count c.clear_at.ensures.len c.clear_at.ensures.others,
      λ _. c.clear_at.ensures.none c.if-clear_at.true,
    )

pub returns-then-clear_at : goal.returns-then-clear_at
returns-then-clear_at c =
    bits_set (lowest c.self.inside.levels) (lowest c.clear_at.new.levels) c.self.inside.range c.args.site false c.clear_at.ensures.own
    c.clear_at.ensures.others
    ∙ ap (λ (x : List Bool). set x c.args.site false) c.self.view_is

pub returns-else-clear_at : goal.returns-else-clear_at
returns-else-clear_at c =
    bits_set (lowest c.self.inside.levels) (lowest c.clear_at.new.levels) c.self.inside.range c.args.site false c.clear_at.ensures.own
    c.clear_at.ensures.others
    ∙ ap (λ (x : List Bool). set x c.args.site false) c.self.view_is
