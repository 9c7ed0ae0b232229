use Rattle.std.proofs.Common.{◌≡◌, ◌≤◌, fold, length}
use Rattle.std.specs.List.{AllByRecursion}
use Rattle.std.specs.Vec.Iter.{into_iter_items}
use Rattle.ld_globals.specs.Store.{KeepsWrites}
use Rattle.ld_sharing.specs.StoreView.{values_of}
use Rattle.ld_sharing.specs.Writes.{IsWritableTo, written_by}
use Rattle.ld_sharing.proofs.giving.give_back.Given as goal

abbrev pub invariant-loop-write : goal.invariant-loop-write
invariant-loop-write l = record {
  iterated : (goal.iterator-loop-write).can_next l.write-iterator × (goal.iterator-loop-write).is_finite l.write-iterator;
  room : length (into_iter_items l.write-iterator) ≤ l.globals.spare;
  writable : AllByRecursion (IsWritableTo l.globals) (into_iter_items l.write-iterator);
  given :
      fold written_by (values_of l.globals) (into_iter_items l.write-iterator)
      ≡ fold written_by (values_of l.fn.globals) (into_iter_items l.initial.write-iterator);
  declared : l.globals.declared ≡ l.fn.globals.declared;
  kept : KeepsWrites l.fn.globals l.globals;
}
