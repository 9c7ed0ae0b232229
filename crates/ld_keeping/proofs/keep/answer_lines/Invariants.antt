use Rattle.std.proofs.Common.{◌≡◌, ◌≤◌, ◌<◌, ◌+◌, ◌-◌, ◌^◌, [], length, IfSome}
use Rattle.ld_base.specs.Roomy.{room_of}
use Rattle.ld_keep.specs.Disk.{IsSettled}
use Rattle.ld_keep.specs.Journal.{IsAtRest}
use Rattle.ld_world.specs.WorldView.{world_of}
use Rattle.ld_world.proofs.Counting.{IsCounted}
use Rattle.ld_keeping.specs.Journaling.{HasKept, size_of_records}
use Rattle.ld_keeping.proofs.Turning.{IsUnderWay}
use Rattle.ld_keeping.proofs.keep.answer_lines.Given as goal

abbrev pub invariant-turns : goal.invariant-turns
invariant-turns g l = record {
  under_way : IsUnderWay (λ done. HasKept g.D.Disk.model l.fn.disk l.disk done × (l.journal ≡ l.fn.journal + size_of_records done)) (world_of l.fn.world) (g.S.Source.left l.fn.source) (g.K.Sink.written l.fn.sink) l.lines (g.S.Source.left l.source) (world_of l.world) (g.K.Sink.written l.sink);
  counted : IsCounted l.fn.world (g.S.Source.left l.fn.source) (g.K.Sink.written l.fn.sink) l.lines (g.S.Source.left l.source) l.world (g.K.Sink.written l.sink) [] l.fn.steps l.steps;
  at_rest : IfSome (g.D.Disk.model.bytes l.disk) (IsAtRest l.journal);
  settled : IsSettled g.D.Disk.model l.disk;
  below : l.journal < 2 ^ 40;
  tells : g.D.Disk.model.tells_images l.disk ≡ g.D.Disk.model.tells_images l.fn.disk;
  room : 128 ≤ room_of l.out;
  limit : l.lines.taken ≤ 2 ^ 40;
  source_counts : g.S.Source.faults l.fn.source ≤ g.S.Source.faults l.source;
  sink_counts : g.K.Sink.faults l.fn.sink ≤ g.K.Sink.faults l.sink;
  disk_counts : g.D.Disk.faults l.fn.disk ≤ g.D.Disk.faults l.disk;
}

abbrev pub decreases-turns : goal.decreases-turns
decreases-turns g l = (2 ^ 40 - l.lines.taken) + length l.lines.held
