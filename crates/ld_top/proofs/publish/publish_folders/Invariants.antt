use Rattle.std.proofs.Common.{◌≡◌, ◌+◌, ◌≤◌, List, Result, drop}
use Rattle.ld_model.specs.declared.unit.Unit.{Unit}
use Rattle.ld_world.specs.Published.{RefusedFolder}
use Rattle.ld_world.specs.World.{first_world}
use Rattle.ld_world.specs.WorldView.{world_of}
use Rattle.ld_top.specs.InFolder.{WhereTold}
use Rattle.ld_top.specs.Replay.{Publishes}
use Rattle.ld_words.specs.Words.{words_of}
use Rattle.ld_top.proofs.Publishing.{PublishesFrom}
use Rattle.ld_top.proofs.publish.publish_folders.Given as goal

-- What the folders that are left publish behind the units of the world, all folders publish.
abbrev pub invariant-loop-index : goal.invariant-loop-index
invariant-loop-index g l = record {
  first : world_of l.world ≡ first_world l.world.units;
  published : WhereTold (g.H.Shelf.files l.fn.shelf) (λ files. (result : Result (List Unit) RefusedFolder) → PublishesFrom (l.index + 1) l.world.units files (words_of (drop l.index l.folders)) result → Publishes files (words_of l.folders) result);
  counts : g.H.Shelf.faults l.fn.shelf ≤ g.H.Shelf.faults l.shelf;
  same : g.H.Shelf.files l.shelf ≡ g.H.Shelf.files l.fn.shelf;
}
