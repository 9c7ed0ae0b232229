use Rattle.std.proofs.Common.{arith, refl}
use Rattle.ld_settling.proofs.Reading.{so_err}
use Rattle.ld_settling.proofs.SlotSets.{added_length}
use Rattle.ld_settling.proofs.reads.reader.make_room.Goals as goal

pub returns-clause-short : goal.returns-clause-short
returns-clause-short c =
    let longer = added_length c.args.list.now.items c.args.slot (c.if-contains.ensures.no refl) in
    so_err c.grow.result (omega (arith, longer, c.if-len-room.false, c.len.ensures.value, c.room.ensures))
