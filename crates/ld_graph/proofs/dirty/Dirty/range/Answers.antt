use Rattle.std.proofs.Common.{List, Bool, length, sym, ◌∙◌, ap}
use Rattle.ld_graph.specs.Words.{lowest}
use Rattle.ld_graph.proofs.Marking.{length_bits}
use Rattle.ld_graph.proofs.dirty.Dirty.range.Goals as goal

pub returns : goal.returns
returns c =
    sym (length_bits (lowest c.self.inside.levels) c.self.inside.range) ∙ ap (λ (x : List Bool). length x) c.self.view_is
