use Rattle.std.proofs.Common.{◌≡◌, ◌≤◌, ◌+◌, filter, is_some, length, option_copied, take}
use Rattle.ld_cells.specs.Stored.{cells_of}
use Rattle.ld_state.specs.Beginnings.{stored_for}
use Rattle.ld_sharing.specs.StoreView.{is_shared, values_of}
use Rattle.ld_sharing.proofs.StoredParts.{FitsBefore}
use Rattle.ld_sharing.proofs.stored.stored_values.Given as goal

abbrev pub invariant-loop-index : goal.invariant-loop-index
invariant-loop-index g l =
    (cells_of l.stored.items ≡ take l.index (stored_for (values_of l.globals) (option_copied l.person) l.unit.properties))
    × FitsBefore l.unit (values_of l.globals) (option_copied l.person) l.index
    × (l.steps ≤ l.fn.steps
    + length (filter (is_shared (is_some (option_copied l.person))) (take l.index l.unit.properties)))
