use Rattle.std.proofs.Common.{Err, ap}
use Rattle.ld_json.specs.Fault.{told_by}
use Rattle.ld_top.specs.InFolder.{WhereTold}
use Rattle.ld_top.specs.Replay.{Publishes}
use Rattle.ld_words.specs.Words.{words_of}
use Rattle.ld_top.specs.Endings.{number_of}
use Rattle.ld_top.proofs.Completing.{none_taken, published_not_refused, refusal_ends, refused_not_well, replay_at_limit, replay_ends_well, seven_refused, seven_well}
use Rattle.ld_top.proofs.Refusing.{refused_for, cut_for}
use Rattle.ld_top.proofs.replay_folders.replay_folders.Goals as goal

pub returns-in-Err-Refused-clause-refused : goal.returns-in-Err-Refused-clause-refused
returns-in-Err-Refused-clause-refused g c =
    let names = words_of c.args.folders.now in
    let told : WhereTold (g.H.Shelf.files c.args.shelf.now) (λ files. Publishes files names (Err (record { folder = c.in-Err-Refused.number; fault = told_by c.in-Err-Refused.fault }))) =
    λ files is. rw c.in-Err-Refused.field-0-is at (c.in-Err-Refused.ensures.refused files is) in
    λ refused. refused_for names _ _ _ (record { folder = c.in-Err-Refused.number; fault = told_by c.in-Err-Refused.fault }) told (c.refuse.ensures.written refused)

pub returns-in-Err-Refused-clause-cut : goal.returns-in-Err-Refused-clause-cut
returns-in-Err-Refused-clause-cut g c =
    let names = words_of c.args.folders.now in
    let told : WhereTold (g.H.Shelf.files c.args.shelf.now) (λ files. Publishes files names (Err (record { folder = c.in-Err-Refused.number; fault = told_by c.in-Err-Refused.fault }))) =
    λ files is. rw c.in-Err-Refused.field-0-is at (c.in-Err-Refused.ensures.refused files is) in
    λ cut. cut_for names _ _ _ _ (record { folder = c.in-Err-Refused.number; fault = told_by c.in-Err-Refused.fault }) told (c.refuse.ensures.cut cut)

-- ---- which status comes

-- The shelf failed.
pub returns-in-Err-ShelfFault-clause-complete : goal.returns-in-Err-ShelfFault-clause-complete
returns-in-Err-ShelfFault-clause-complete g c = λ shelf source sink. absurd (shelf (c.in-Err-ShelfFault.ensures.fault (ap Err c.in-Err-ShelfFault.field-0-is)))

pub returns-in-Err-ShelfFault-clause-refuses : goal.returns-in-Err-ShelfFault-clause-refuses
returns-in-Err-ShelfFault-clause-refuses g c = λ shelf sink. absurd (shelf (c.in-Err-ShelfFault.ensures.fault (ap Err c.in-Err-ShelfFault.field-0-is)))

pub returns-in-Err-ShelfFault-clause-at_limit : goal.returns-in-Err-ShelfFault-clause-at_limit
returns-in-Err-ShelfFault-clause-at_limit g c = λ sink. none_taken _ _

-- Memory ran out.
pub returns-in-Err-NoMemory-clause-complete : goal.returns-in-Err-NoMemory-clause-complete
returns-in-Err-NoMemory-clause-complete g c = λ shelf source sink. seven_well _ _ _

pub returns-in-Err-NoMemory-clause-refuses : goal.returns-in-Err-NoMemory-clause-refuses
returns-in-Err-NoMemory-clause-refuses g c = λ shelf sink. seven_refused (words_of c.args.folders.now) (g.H.Shelf.files c.args.shelf.now)

pub returns-in-Err-NoMemory-clause-at_limit : goal.returns-in-Err-NoMemory-clause-at_limit
returns-in-Err-NoMemory-clause-at_limit g c = λ sink. none_taken _ _

-- A folder is refused.
pub returns-in-Err-Refused-clause-complete : goal.returns-in-Err-Refused-clause-complete
returns-in-Err-Refused-clause-complete g c =
    let names = words_of c.args.folders.now in
    let told : WhereTold (g.H.Shelf.files c.args.shelf.now) (λ files. Publishes files names (Err (record { folder = c.in-Err-Refused.number; fault = told_by c.in-Err-Refused.fault }))) =
    λ files is. rw c.in-Err-Refused.field-0-is at (c.in-Err-Refused.ensures.refused files is) in
    λ shelf source sink. refused_not_well names _ _ (record { folder = c.in-Err-Refused.number; fault = told_by c.in-Err-Refused.fault }) _ told

pub returns-in-Err-Refused-clause-refuses : goal.returns-in-Err-Refused-clause-refuses
returns-in-Err-Refused-clause-refuses g c = λ shelf sink. record {
  ends = λ told refused here badly. refusal_ends c.refuse.result _ _ c.refuse.ensures.endings c.refuse.ensures.cause sink;
}

pub returns-in-Err-Refused-clause-at_limit : goal.returns-in-Err-Refused-clause-at_limit
returns-in-Err-Refused-clause-at_limit g c = λ sink. none_taken _ _

-- The lines were answered.
pub returns-clause-complete : goal.returns-clause-complete
returns-clause-complete g c = λ shelf source sink.
    replay_ends_well _ _ _ _ _ _ _ _ _ _ _ c.replay.result (record {
      can = c.replay.ensures.endings;
      done = c.replay.ensures.done;
      read = c.replay.ensures.read;
      long = c.replay.ensures.long;
      none = λ is. ap g.S.Source.left (c.replay.ensures.no_memory is).0;
      read_cause = c.replay.ensures.read_cause;
      write_cause = c.replay.ensures.write_cause;
    }) source sink

pub returns-clause-refuses : goal.returns-clause-refuses
returns-clause-refuses g c = λ shelf sink.
    published_not_refused (words_of c.args.folders.now) _ _ (number_of c.replay.result) c.in-Ok.ensures.published

pub returns-clause-at_limit : goal.returns-clause-at_limit
returns-clause-at_limit g c = λ sink.
    replay_at_limit _ _ _ _ _ _ _ _ _ c.replay.result (record {
      can = c.replay.ensures.endings;
      done = c.replay.ensures.done;
      read = c.replay.ensures.read;
      long = c.replay.ensures.long;
      none = λ is. ap g.S.Source.left (c.replay.ensures.no_memory is).0;
      read_cause = c.replay.ensures.read_cause;
      write_cause = c.replay.ensures.write_cause;
    }) sink

pub returns-clause-work : goal.returns-clause-work
returns-clause-work g c = λ is. (c.in-Ok.world.units, c.in-Ok.ensures.published, (c.in-Ok.world, c.in-Ok.ensures.first, c.replay.ensures.work is))
