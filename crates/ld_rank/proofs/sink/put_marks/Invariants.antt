use Rattle.std.proofs.Common.{◌≡◌, drop}
use Rattle.ld_rules.specs.SiteLooks.{all_done_looks}
use Rattle.ld_rank.specs.Alone.{seen_alone}
use Rattle.ld_rank.specs.Telling.{told_after}
use Rattle.ld_rank.proofs.sink.put_marks.Given as goal

abbrev pub invariant-loop-id : goal.invariant-loop-id
invariant-loop-id g l =
    told_after g.S.CellSink.after (g.S.CellSink.told l.cells) (all_done_looks l.unit (seen_alone l.unit) l.owner (drop l.id-index l.ids)) ≡ told_after g.S.CellSink.after (g.S.CellSink.told l.fn.cells) (all_done_looks l.unit (seen_alone l.unit) l.owner l.ids)
