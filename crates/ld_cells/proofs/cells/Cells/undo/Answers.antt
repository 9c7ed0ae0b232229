use Rattle.std.proofs.lemmas.List.{take-map}
use Rattle.ld_cells.proofs.cells.Cells.undo.Goals as goal

pub returns-clause-cells : goal.returns-clause-cells
returns-clause-cells c = rw (← c.self.view_is, ← c.take.ensures.value, c.in-Some.is, c.take_back.ensures.cells, c.truncate.ensures.items, take-map)
