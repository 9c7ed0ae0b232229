use Rattle.std.proofs.Common.{◌&&◌, ◌||◌, nat_eq, sym, ap, ◌∙◌}
use Rattle.std.specs.List.{list_any}
use Rattle.ld_model.specs.Cells.{same_cell}
use Rattle.ld_expr.specs.Lookup.{is_some_and}
use Rattle.ld_rank.specs.Alone.{looks_alone}
use Rattle.ld_rank.specs.Lookers.{is_at}
use Rattle.ld_rank.proofs.Noted.{sought_among}
use Rattle.ld_rank.proofs.lookers.Lookers.add_looks.Goals as goal

pub returns : goal.returns
returns c = λ q b fed.
    let unit = c.args.unit.now in
    let found = ap (list_any (same_cell q)) (c.deref.ensures.value ∙ c.in_ok-cells.ensures) ∙ sought_among q (looks_alone unit c.args.rule) fed in
    let looks = ap (is_some_and (λ rule. list_any (same_cell q) (looks_alone unit rule))) c.requires in
    c.in_ok-add_all.ensures q b
    ∙ ap (λ looked. is_at c.args.self.now q b || (nat_eq c.args.number b && looked)) (found ∙ sym looks)
