use Rattle.std.proofs.Common.{◌≡◌, ◌≤◌, ◌+◌, ◌-◌, ◌^◌, [], length}
use Rattle.ld_base.specs.Roomy.{room_of}
use Rattle.ld_lines.specs.Lines.{ended_lines_of}
use Rattle.ld_world.specs.WorldView.{world_of}
use Rattle.ld_world.proofs.Counting.{IsCounted}
use Rattle.ld_top.specs.declared.sending.TheConstants.{WAITING_ROOM}
use Rattle.ld_top.proofs.Replaying.{IsUnderWay}
use Rattle.ld_top.proofs.replay.answer_lines.Given as goal

abbrev pub invariant-turns : goal.invariant-turns
invariant-turns g l = record {
  under_way : IsUnderWay (world_of l.fn.world) (g.S.Source.left l.fn.source) (g.K.Sink.written l.fn.sink) l.lines (g.S.Source.left l.source) (world_of l.world) (g.K.Sink.written l.sink) l.waiting.bytes;
  counted : IsCounted l.fn.world (g.S.Source.left l.fn.source) (g.K.Sink.written l.fn.sink) l.lines (g.S.Source.left l.source) l.world (g.K.Sink.written l.sink) l.waiting.bytes l.fn.steps l.steps;
  waits : ended_lines_of l.lines.held ≡ [] → l.waiting.bytes ≡ [];
  few : length l.waiting.bytes ≤ WAITING_ROOM;
  room : 128 ≤ room_of l.out;
  limit : l.lines.taken ≤ 2 ^ 40;
  source_counts : g.S.Source.faults l.fn.source ≤ g.S.Source.faults l.source;
  sink_counts : g.K.Sink.faults l.fn.sink ≤ g.K.Sink.faults l.sink;
}

abbrev pub decreases-turns : goal.decreases-turns
decreases-turns g l = (2 ^ 40 - l.lines.taken) + length l.lines.held
