use Rattle.std.proofs.Common.{option_map}
use Rattle.ld_value.specs.Datum.{datum_of}
use Rattle.ld_firing.proofs.Progressing.{wrote_if}
use Rattle.ld_firing.proofs.SlotsThere.{cell_there}
use Rattle.ld_firing.proofs.actor.Actor.write.Goals as goal

pub set-requires-clause-cell : goal.set-requires-clause-cell
set-requires-clause-cell c =
    cell_there c.args.self.now.unit.now c.args.state.now c.requires.own c.args.cell c.requires.there

pub returns-clause-does : goal.returns-clause-does
returns-clause-does c fired =
    wrote_if c.set.result c.args.self.now.unit.now c.args.state.now c.set.new.self c.args.changed.now.items
    c.set.new.changed.items c.args.cell (option_map datum_of c.args.value) fired c.requires.own
    c.set.ensures.run c.set.ensures.same c.set.ensures.changed
