use Rattle.std.proofs.Common.{Some}
use Rattle.ld_expr.specs.Owners.{mark_owner, of_person}
use Rattle.ld_rank.proofs.Writing.{things_told}
use Rattle.ld_rank.proofs.writes.put_action.Goals as goal

pub returns-in-Show : goal.returns-in-Show
returns-in-Show g c =
    rw c.in-Show.is (things_told g.S.CellSink.after (Some (g.S.CellSink.told c.args.cells.now)) c.args.unit.now (mark_owner c.args.kind (of_person 0)) c.in-Show.field-0)

pub returns-in-Hide : goal.returns-in-Hide
returns-in-Hide g c =
    rw c.in-Hide.is (things_told g.S.CellSink.after (Some (g.S.CellSink.told c.args.cells.now)) c.args.unit.now (mark_owner c.args.kind (of_person 0)) c.in-Hide.field-0)
