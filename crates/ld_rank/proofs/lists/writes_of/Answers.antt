use Rattle.std.proofs.Common.{List, ◌++◌, filter, ap, ◌∙◌}
use Rattle.ld_model.specs.declared.cell.CellName.{CellName}
use Rattle.ld_rank.specs.Alone.{is_fed, writes_alone}
use Rattle.ld_rank.proofs.Told.{all_listed}
use Rattle.ld_rank.proofs.lists.writes_of.Goals as goal

pub returns : goal.returns
returns c =
    let writes = writes_alone c.args.unit.now c.args.rule in
    all_listed c.new.result.items _ writes c.in_ok-put_writes.ensures
    ∙ ap (λ (listed : List CellName). listed ++ filter is_fed writes) c.new.ensures.items
