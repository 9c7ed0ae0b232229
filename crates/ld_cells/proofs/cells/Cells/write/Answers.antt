use Rattle.std.proofs.Common.{◌<◌, length, refl}
use Rattle.std.proofs.lemmas.List.{length-map}
use Rattle.ld_cells.proofs.Backwards.{put_same}
use Rattle.ld_cells.proofs.cells.Cells.write.Goals as goal

pub returns-then-same_cell-clause-cells : goal.returns-then-same_cell-clause-cells
returns-then-same_cell-clause-cells c =
    let below : c.args.slot < length c.self.inside.values.items = rw (← c.self.view_is, length-map) at c.requires in
    rw (← c.self.view_is) (put_same c.self.inside.values.items c.args.slot c.index.result.now c.args.value below c.index.ensures (c.if-same_cell.ensures.0 refl))
