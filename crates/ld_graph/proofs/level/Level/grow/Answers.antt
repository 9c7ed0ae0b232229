use Rattle.std.proofs.Common.{rules, ◌≡◌, ℕ, ◌-◌, ◌++◌, List, replicate, take, ◌∙◌, ap, vec_len}
use Rattle.std.proofs.lemmas.List.{take_all}
use Rattle.ld_graph.specs.Words.{bit}
use Rattle.ld_graph.proofs.Bits.{bit_append}
use Rattle.ld_graph.proofs.level.Level.grow.Goals as goal

pub returns-in_ok-resize-clause-same : goal.returns-in_ok-resize-clause-same
returns-in_ok-resize-clause-same c n =
    let whole : take c.args.words c.self.inside.words.items ≡ c.self.inside.words.items =
    take_all c.args.words c.self.inside.words.items (search rules) in
    ap (λ (x : List ℕ). bit x n) c.in_ok-resize.ensures.items
    ∙ (ap (λ (x : List ℕ). bit (x ++ replicate (c.args.words - vec_len c.self.inside.words) 0) n) (whole ∙ c.self.view_is)
    ∙ bit_append c.args.self.now (c.args.words - vec_len c.self.inside.words) n)
