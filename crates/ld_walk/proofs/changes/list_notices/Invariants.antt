use Rattle.std.proofs.Common.{◌≡◌, drop}
use Rattle.ld_model.specs.Counting.{each_numbered, each_numbered_from}
use Rattle.ld_walk.specs.CommonParts.{nth_notice_parts}
use Rattle.ld_walk.specs.Walks.{added}
use Rattle.ld_walk.proofs.changes.list_notices.Given as goal

abbrev pub invariant-loop-i : goal.invariant-loop-i
invariant-loop-i l = added l.walk (each_numbered_from (nth_notice_parts l.fn.walk.at) l.i (drop l.i l.notices)) ≡ added l.fn.walk (each_numbered (nth_notice_parts l.fn.walk.at) l.notices)
