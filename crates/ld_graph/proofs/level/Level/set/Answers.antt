use Rattle.std.proofs.Common.{rules, ℕ, ◌/◌, List, ◌∙◌, ap, sym}
use Rattle.std.proofs.lemmas.List.{get_or_read}
use Rattle.ld_graph.specs.Words.{bit}
use Rattle.ld_graph.proofs.Bits.{set_own, set_others}
use Rattle.ld_graph.proofs.level.Level.set.Goals as goal

pub returns-clause-own : goal.returns-clause-own
returns-clause-own c = set_own c.self.inside.words.items c.args.at c.index_mut.result.now (search rules)

pub returns-clause-others : goal.returns-clause-others
returns-clause-others c n ne =
    set_others c.self.inside.words.items c.args.at c.index_mut.result.now (search rules)
    (sym (get_or_read c.self.inside.words.items (c.args.at / 64) c.index_mut.result.now (search rules) (search rules) 0)) n ne
    ∙ ap (λ (x : List ℕ). bit x n) c.self.view_is
