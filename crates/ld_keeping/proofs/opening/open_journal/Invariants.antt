use Rattle.std.proofs.Common.{◌≡◌, ◌≤◌, ◌+◌, ◌-◌, ◌^◌, IfSome}
use Rattle.ld_base.specs.Roomy.{room_of}
use Rattle.ld_keep.specs.Disk.{IsSettled}
use Rattle.ld_keep.specs.Kept.{lines_from}
use Rattle.ld_keep.specs.Opening.{IsAtGate}
use Rattle.ld_world.specs.WorldView.{world_of}
use Rattle.ld_keeping.specs.InJournal.{after_journal, after_lines}
use Rattle.ld_keeping.specs.Journaling.{LosesNone}
use Rattle.ld_keeping.proofs.Working.{HasWorked}
use Rattle.ld_keeping.proofs.opening.open_journal.Given as goal

abbrev pub invariant-lines : goal.invariant-lines
invariant-lines g l = record {
  at_gate : IfSome (g.D.Disk.model.bytes l.disk) (IsAtGate l.opening);
  settled : IsSettled g.D.Disk.model l.disk;
  bytes : g.D.Disk.model.bytes l.disk ≡ g.D.Disk.model.bytes l.fn.disk;
  tells : g.D.Disk.model.tells_images l.disk ≡ g.D.Disk.model.tells_images l.fn.disk;
  any_moment : IsSettled g.D.Disk.model l.fn.disk → LosesNone g.D.Disk.model l.fn.disk l.disk;
  world : IfSome (g.D.Disk.model.bytes l.fn.disk) (λ file. after_journal (world_of l.fn.world) file ≡ after_lines l.number (world_of l.world) (lines_from l.opening.place file));
  worked : IfSome (g.D.Disk.model.bytes l.fn.disk) (HasWorked l.fn.world l.world l.fn.steps l.steps l.opening.place);
  number : l.number ≤ l.opening.place + 1;
  place : l.opening.place ≤ 2 ^ 40;
  limit : l.opening.limit ≤ 2 ^ 40;
  room : 128 ≤ room_of l.out;
  counts : g.D.Disk.faults l.fn.disk ≤ g.D.Disk.faults l.disk;
}

abbrev pub decreases-lines : goal.decreases-lines
decreases-lines g l = l.opening.limit - l.opening.place
