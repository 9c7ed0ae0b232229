use Rattle.std.proofs.Common.{◌++◌, ◌∷◌, [], ◌∙◌, vec_len}
use Rattle.ld_cells.specs.Recorded.{AreBelow}
use Rattle.ld_cells.specs.Stored.{cells_of}
use Rattle.ld_cells.proofs.Backwards.{before-push, AreBelow-front}
use Rattle.ld_cells.proofs.recorded.take_back.Goals as goal

pub loop-change-preserved : goal.loop-change-preserved
loop-change-preserved c =
    let all : AreBelow (vec_len c.loop-change.values) (c.pop.new.self.items ++ c.in-Some.change ∷ []) =
    rw c.in-Some.ensures.items at c.loop-change.invariant.slots in
    record {
      slots = rw c.put.ensures.length (AreBelow-front _ c.pop.new.self.items c.in-Some.change all);
      cells = rw (c.put.ensures.cells, ← before-push c.pop.new.self.items c.in-Some.change (cells_of c.loop-change.values.items), ← c.in-Some.ensures.items) c.loop-change.invariant.cells;
      length = c.put.ensures.length ∙ c.loop-change.invariant.length;
      room = c.put.ensures.room ∙ c.loop-change.invariant.room;
      capacity = c.pop.ensures.capacity ∙ c.loop-change.invariant.capacity;
    }
