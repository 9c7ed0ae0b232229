use Rattle.std.proofs.Common.{refl, sym}
use Rattle.ld_rank.specs.Alone.{looks_alone}
use Rattle.ld_rank.proofs.Told.{found_where_stopped, missing_where_told}
use Rattle.ld_rank.proofs.finding.looks_at.Goals as goal

pub returns-in-Ok : goal.returns-in-Ok
returns-in-Ok c =
    sym (missing_where_told c.args.cell _ (looks_alone c.args.unit.now c.args.rule) c.requires c.in-Ok.ensures)

pub returns-in-Err : goal.returns-in-Err
returns-in-Err c =
    sym (found_where_stopped c.args.cell (looks_alone c.args.unit.now c.args.rule) (c.in-Err.ensures refl))
