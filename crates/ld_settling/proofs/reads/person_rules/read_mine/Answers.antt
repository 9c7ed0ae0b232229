use Rattle.std.proofs.Common.{OnErr, OnOk, map, subst}
use Rattle.ld_expr.specs.Seen.{member_cell}
use Rattle.ld_rules.proofs.Judging.{row_is, row_there}
use Rattle.ld_state.specs.StateView.{run_of}
use Rattle.ld_settling.specs.Gathering.{FallsShort, Gathers}
use Rattle.ld_settling.proofs.reads.person_rules.read_mine.Goals as goal

pub roles-requires : goal.roles-requires
roles-requires c =
    row_there c.args.reader.now.unit.now c.reach.result.now c.args.number c.args.activity.now c.reach.ensures c.requires

pub returns-clause-gathers : goal.returns-clause-gathers
returns-clause-gathers c =
    let unit = c.args.reader.now.unit.now in
    subst
    (λ row. OnOk c.read_roles.result (Gathers unit (run_of c.args.reader.now.state.now)
    (map (λ r. member_cell r c.args.person.0) row) c.args.list.now c.read_roles.new.list))
    (row_is unit c.reach.result.now c.args.number c.args.activity.now c.roles.result.now c.reach.ensures c.requires c.roles.ensures)
    c.read_roles.ensures.gathers

pub returns-clause-short : goal.returns-clause-short
returns-clause-short c =
    let unit = c.args.reader.now.unit.now in
    subst
    (λ row. OnErr c.read_roles.result (FallsShort unit (run_of c.args.reader.now.state.now)
    (map (λ r. member_cell r c.args.person.0) row) c.args.list.now))
    (row_is unit c.reach.result.now c.args.number c.args.activity.now c.roles.result.now c.reach.ensures c.requires c.roles.ensures)
    c.read_roles.ensures.short
