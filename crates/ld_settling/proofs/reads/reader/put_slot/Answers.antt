use Rattle.ld_settling.proofs.SlotSets.{put_is}
use Rattle.ld_settling.proofs.reads.reader.put_slot.Goals as goal

pub returns-clause-put : goal.returns-clause-put
returns-clause-put c =
    put_is c.args.list.now.items c.put.new.self.items c.args.slot
    (rw (← c.make_room.ensures.items) c.put.ensures.kept)
    (rw (← c.make_room.ensures.items) c.put.ensures.added)
