use Rattle.std.proofs.Common.{◌∷◌, [], ◌++◌, ap, ◌∙◌}
use Rattle.std.specs.BTreeMap.{get}
use Rattle.ld_rank.specs.Lookers.{cell_cmp}
use Rattle.ld_rank.proofs.Noted.{noted_more}
use Rattle.ld_rank.proofs.lookers.Lookers.add.Goals as goal

pub returns : goal.returns
returns c = λ q.
    noted_more (λ rules. rules.items) q c.args.cell c.args.rule (get cell_cmp c.args.self.now.by_cell) (get cell_cmp c.taken-rules.new.self.by_cell) (get cell_cmp c.insert.new.self) c.push.new.self
    (c.in_ok-push.ensures.items ∙ ap (λ rules. rules ++ c.args.rule ∷ []) c.taken-rules.ensures.items)
    (c.taken-rules.ensures.rest q)
    (c.in_ok-insert.ensures.updates.0 q)
