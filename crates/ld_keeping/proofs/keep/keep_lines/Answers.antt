use Rattle.ld_keep.specs.Disk.{IsSettled}
use Rattle.ld_keeping.specs.Journaling.{HasKept}
use Rattle.ld_keeping.proofs.Complete.{complete, not_too_long, not_differing, not_full}
use Rattle.ld_world.specs.WorldView.{world_of}
use Rattle.ld_keeping.proofs.keep.keep_lines.Goals as goal

pub returns-clause-complete : goal.returns-clause-complete
returns-clause-complete g c =
    let M = g.D.Disk.model in
    let first = world_of c.args.world in
    let before = g.S.Source.left c.args.source.now in
    let left = g.S.Source.left c.open_and_answer-ending.new.source in
    let old = g.K.Sink.written c.args.sink.now in
    let written = g.K.Sink.written c.open_and_answer-ending.new.sink in
    let file_now = M.bytes c.args.disk.now in
    let ends = c.open_and_answer-ending.ensures in
    λ bytes file after is few is_file leads room unread unwritten undisked.
    complete c.open_and_answer-ending.result
    (λ read. unread (ends.read_cause read))
    (λ write. unwritten (ends.write_cause write))
    (λ long. not_too_long (λ done. IsSettled M c.args.disk.now → HasKept M c.args.disk.now c.open_and_answer-ending.new.disk done) file_now first before old left written bytes is few (ends.long long))
    (λ disk. undisked (ends.disk_cause disk))
    (λ differs. not_differing file_now file first after is_file leads (ends.differs differs))
    (λ full. not_full (λ done. IsSettled M c.args.disk.now → HasKept M c.args.disk.now c.open_and_answer-ending.new.disk done) before old left written file_now bytes file first after is is_file leads room (ends.full full))
