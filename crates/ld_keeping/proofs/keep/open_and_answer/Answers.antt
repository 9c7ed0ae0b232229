use Rattle.std.proofs.Common.{◌≡◌, ℕ, ◌+◌, ◌<◌, ◌^◌, List, [], ◌∷◌, ◌++◌, IfSome, inl}
use Rattle.ld_keep.specs.Disk.{IsSettled}
use Rattle.ld_keep.specs.Kept.{last_gate}
use Rattle.ld_world.specs.WorldView.{world_of}
use Rattle.ld_keeping.specs.Journaling.{HasKept, HasKeptBut, size_of_records}
use Rattle.ld_keeping.proofs.Mapping.{all_since, taken_since, cut_since, before_since, kept_since, but_since, full_since}
use Rattle.ld_keeping.proofs.keep.open_and_answer.Goals as goal

pub returns-clause-done : goal.returns-clause-done
returns-clause-done g c =
    let M = g.D.Disk.model in
    let d0 = c.args.disk.now in
    let d1 = c.open_journal.new.disk in
    let d2 = c.answer_lines.new.disk in
    λ is. (world_of c.open_journal.new.world, c.in-Ok.ensures.world, all_since (HasKept M d1 d2) (λ done. IsSettled M d0 → HasKept M d0 d2 done) (kept_since M g.met.D.Disk.lawful d0 d1 d2 c.in-Ok.journal c.in-Ok.ensures.kept c.in-Ok.ensures.gate c.in-Ok.ensures.at_rest c.open_journal.ensures.tells) (world_of c.open_journal.new.world) (g.S.Source.left c.args.source.now) (g.K.Sink.written c.args.sink.now) (g.S.Source.left c.answer_lines.new.source) (g.K.Sink.written c.answer_lines.new.sink) (c.answer_lines.ensures.done is))

pub returns-clause-read : goal.returns-clause-read
returns-clause-read g c =
    let M = g.D.Disk.model in
    let d0 = c.args.disk.now in
    let d1 = c.open_journal.new.disk in
    let d2 = c.answer_lines.new.disk in
    λ is. (world_of c.open_journal.new.world, c.in-Ok.ensures.world, taken_since (HasKept M d1 d2) (λ done. IsSettled M d0 → HasKept M d0 d2 done) (kept_since M g.met.D.Disk.lawful d0 d1 d2 c.in-Ok.journal c.in-Ok.ensures.kept c.in-Ok.ensures.gate c.in-Ok.ensures.at_rest c.open_journal.ensures.tells) (world_of c.open_journal.new.world) (g.S.Source.left c.args.source.now) (g.K.Sink.written c.args.sink.now) (g.S.Source.left c.answer_lines.new.source) (g.K.Sink.written c.answer_lines.new.sink) (λ n. n < 2 ^ 40) (c.answer_lines.ensures.read is))

pub returns-clause-long : goal.returns-clause-long
returns-clause-long g c =
    let M = g.D.Disk.model in
    let d0 = c.args.disk.now in
    let d1 = c.open_journal.new.disk in
    let d2 = c.answer_lines.new.disk in
    λ is. (world_of c.open_journal.new.world, c.in-Ok.ensures.world, taken_since (HasKept M d1 d2) (λ done. IsSettled M d0 → HasKept M d0 d2 done) (kept_since M g.met.D.Disk.lawful d0 d1 d2 c.in-Ok.journal c.in-Ok.ensures.kept c.in-Ok.ensures.gate c.in-Ok.ensures.at_rest c.open_journal.ensures.tells) (world_of c.open_journal.new.world) (g.S.Source.left c.args.source.now) (g.K.Sink.written c.args.sink.now) (g.S.Source.left c.answer_lines.new.source) (g.K.Sink.written c.answer_lines.new.sink) (λ n. n ≡ 2 ^ 40) (c.answer_lines.ensures.long is))

pub returns-clause-cut : goal.returns-clause-cut
returns-clause-cut g c =
    let M = g.D.Disk.model in
    let d0 = c.args.disk.now in
    let d1 = c.open_journal.new.disk in
    let d2 = c.answer_lines.new.disk in
    λ is. inl (world_of c.open_journal.new.world, c.in-Ok.ensures.world, cut_since (HasKept M d1 d2) (λ done. IsSettled M d0 → HasKept M d0 d2 done) (kept_since M g.met.D.Disk.lawful d0 d1 d2 c.in-Ok.journal c.in-Ok.ensures.kept c.in-Ok.ensures.gate c.in-Ok.ensures.at_rest c.open_journal.ensures.tells) (world_of c.open_journal.new.world) (g.S.Source.left c.args.source.now) (g.K.Sink.written c.args.sink.now) (g.S.Source.left c.answer_lines.new.source) (g.K.Sink.written c.answer_lines.new.sink) (c.answer_lines.ensures.cut is))

pub returns-clause-lost : goal.returns-clause-lost
returns-clause-lost g c =
    let M = g.D.Disk.model in
    let d0 = c.args.disk.now in
    let d1 = c.open_journal.new.disk in
    let d2 = c.answer_lines.new.disk in
    λ is. inl (world_of c.open_journal.new.world, c.in-Ok.ensures.world, before_since (HasKeptBut M d1 d2) (λ done last. IsSettled M d0 → HasKeptBut M d0 d2 done last) (but_since M g.met.D.Disk.lawful d0 d1 d2 c.in-Ok.journal c.in-Ok.ensures.kept c.in-Ok.ensures.gate c.in-Ok.ensures.at_rest c.open_journal.ensures.tells) (world_of c.open_journal.new.world) (g.S.Source.left c.args.source.now) (g.K.Sink.written c.args.sink.now) (g.S.Source.left c.answer_lines.new.source) (g.K.Sink.written c.answer_lines.new.sink) (c.answer_lines.ensures.lost is))

pub returns-clause-full : goal.returns-clause-full
returns-clause-full g c =
    let M = g.D.Disk.model in
    let d0 = c.args.disk.now in
    let d1 = c.open_journal.new.disk in
    let d2 = c.answer_lines.new.disk in
    λ is. (world_of c.open_journal.new.world, c.in-Ok.ensures.world, before_since (λ done last. HasKept M d1 d2 done × (2 ^ 40 < c.in-Ok.journal + size_of_records (done ++ last ∷ []) + 1)) (λ done last. (IsSettled M d0 → HasKept M d0 d2 done) × IfSome (M.bytes d0) (λ file. 2 ^ 40 < last_gate file + size_of_records (done ++ last ∷ []) + 1)) (full_since M g.met.D.Disk.lawful d0 d1 d2 c.in-Ok.journal c.in-Ok.ensures.kept c.in-Ok.ensures.gate c.in-Ok.ensures.at_rest c.open_journal.ensures.tells) (world_of c.open_journal.new.world) (g.S.Source.left c.args.source.now) (g.K.Sink.written c.args.sink.now) (g.S.Source.left c.answer_lines.new.source) (g.K.Sink.written c.answer_lines.new.sink) (c.answer_lines.ensures.full is))

pub returns-clause-work : goal.returns-clause-work
returns-clause-work g c = λ is. (c.open_journal.new.world, c.open_journal.new.steps, c.in-Ok.ensures.work, c.answer_lines.ensures.work is)
