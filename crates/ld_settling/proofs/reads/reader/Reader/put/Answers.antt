use Rattle.ld_settling.proofs.Reading.{gathers_none, gathers_one, on_err, on_ok, short_one}
use Rattle.ld_settling.proofs.reads.reader.Reader.put.Goals as goal

pub returns-in_default-clause-gathers : goal.returns-in_default-clause-gathers
returns-in_default-clause-gathers c =
    let reader = c.args.self.now in
    gathers_none reader.unit.now reader.state.now reader.own c.args.cell c.in_default.ensures c.args.list.now

pub returns-clause-gathers : goal.returns-clause-gathers
returns-clause-gathers c =
    let reader = c.args.self.now in
    on_ok c.put_slot.result
    (λ put. gathers_one reader.unit.now reader.state.now reader.own c.args.cell c.in-Some.slot c.in-Some.ensures put c.put_slot.ensures.room)
    c.put_slot.ensures.put

pub returns-clause-short : goal.returns-clause-short
returns-clause-short c =
    let reader = c.args.self.now in
    on_err c.put_slot.result
    (short_one reader.unit.now reader.state.now reader.own c.args.cell c.in-Some.slot c.in-Some.ensures c.args.list.now)
    c.put_slot.ensures.short
