use Rattle.std.proofs.Common.{refl, sym, ◌∙◌}
use Rattle.ld_rank.specs.Alone.{writes_alone}
use Rattle.ld_rank.specs.Telling.{RuleAlone}
use Rattle.ld_rank.proofs.Told.{read_where_stopped, unread_where_told}
use Rattle.ld_rank.proofs.Writing.{told_suffice}
use Rattle.ld_rank.proofs.finding.looks_at_writes.Goals as goal

pub returns-in-Ok : goal.returns-in-Ok
returns-in-Ok c =
    let alone : RuleAlone = record { unit = c.args.unit.now; rule = c.args.second } in
    sym (unread_where_told alone _ (writes_alone c.args.unit.now c.args.first) c.in-Ok.ensures)
    ∙ told_suffice c.args.unit.now c.args.second c.args.first

pub returns-in-Err : goal.returns-in-Err
returns-in-Err c =
    let alone : RuleAlone = record { unit = c.args.unit.now; rule = c.args.second } in
    sym (read_where_stopped alone (writes_alone c.args.unit.now c.args.first) (c.in-Err.ensures refl))
