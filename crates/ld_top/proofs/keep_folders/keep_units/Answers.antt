use Rattle.std.proofs.Common.{ap, sym, subst, inl, inr, ⊎_elim}
use Rattle.ld_keeping.specs.declared.ending.KeepEnding.TheVariants.{Done as AllDone, ReadFault as Unread, WriteFault as Unwritten, InputTooLong as TooLong, DiskFault as Unkept, JournalDiffers as Differs, JournalFull as Full}
use Rattle.ld_top.specs.Endings.{IsJournalEnding}
use Rattle.ld_top.proofs.JournalEnds.{before_lines, came_from, ends_complete, ends_over_journal, without_memory}
use Rattle.ld_top.proofs.keep_folders.keep_units.Goals as goal

pub returns-clause-endings : goal.returns-clause-endings
returns-clause-endings g c = subst IsJournalEnding (sym c.ending_of.ensures) (ends_over_journal c.keep_lines-ending.result)

pub returns-clause-done : goal.returns-clause-done
returns-clause-done g c = λ is. rw c.requires at (c.keep_lines-ending.ensures.done (came_from c.keep_lines-ending.result AllDone c.ending_of.result c.ending_of.ensures is))

pub returns-clause-read : goal.returns-clause-read
returns-clause-read g c = λ is. rw c.requires at (c.keep_lines-ending.ensures.read (came_from c.keep_lines-ending.result Unread c.ending_of.result c.ending_of.ensures is))

pub returns-clause-too_long : goal.returns-clause-too_long
returns-clause-too_long g c = λ is. rw c.requires at (c.keep_lines-ending.ensures.long (came_from c.keep_lines-ending.result TooLong c.ending_of.result c.ending_of.ensures is))

pub returns-clause-full : goal.returns-clause-full
returns-clause-full g c = λ is. rw c.requires at (c.keep_lines-ending.ensures.full (came_from c.keep_lines-ending.result Full c.ending_of.result c.ending_of.ensures is))

pub returns-clause-cut : goal.returns-clause-cut
returns-clause-cut g c = λ is.
    ⊎_elim (λ kept. inl (rw c.requires at kept))
    (λ differs. inr (differs.0, rw c.requires at differs.1, (differs.2.0, ap g.S.Source.left differs.2.1, differs.2.2)))
    (c.keep_lines-ending.ensures.cut (came_from c.keep_lines-ending.result Unwritten c.ending_of.result c.ending_of.ensures is))

pub returns-clause-lost : goal.returns-clause-lost
returns-clause-lost g c = λ is.
    ⊎_elim (λ kept. inl (rw c.requires at kept))
    (λ none. inr (ap g.S.Source.left none.0, ap g.K.Sink.written none.1, none.2))
    (c.keep_lines-ending.ensures.lost (came_from c.keep_lines-ending.result Unkept c.ending_of.result c.ending_of.ensures is))

pub returns-clause-differs : goal.returns-clause-differs
returns-clause-differs g c = λ is.
    let differs = c.keep_lines-ending.ensures.differs (came_from c.keep_lines-ending.result Differs c.ending_of.result c.ending_of.ensures is) in
    (differs.0, rw c.requires at differs.1, (differs.2.0, ap g.S.Source.left differs.2.1, differs.2.2))

pub returns-clause-not_written : goal.returns-clause-not_written
returns-clause-not_written g c = λ nothing.
    without_memory c.keep_lines-ending.result _ (λ is. (c.keep_lines-ending.ensures.no_memory is).1) (rw c.ending_of.ensures at nothing)

pub returns-clause-not_taken : goal.returns-clause-not_taken
returns-clause-not_taken g c = λ nothing.
    before_lines c.keep_lines-ending.result _ (λ is. (c.keep_lines-ending.ensures.no_memory is).0) (λ is. (c.keep_lines-ending.ensures.differs is).2.1) (rw c.ending_of.ensures at nothing)

pub returns-clause-not_kept : goal.returns-clause-not_kept
returns-clause-not_kept g c = λ nothing.
    before_lines c.keep_lines-ending.result _ (λ is. (c.keep_lines-ending.ensures.no_memory is).2) (λ is. (c.keep_lines-ending.ensures.differs is).2.2) (rw c.ending_of.ensures at nothing)

pub returns-clause-complete : goal.returns-clause-complete
returns-clause-complete g c = λ good unread unwritten unkept.
    ends_complete c.keep_lines-ending.result c.ending_of.result c.ending_of.ensures
    (c.keep_lines-ending.ensures.complete good.bytes good.held good.after good.input good.few good.file (rw (sym c.requires) at good.done) good.room unread unwritten unkept)

pub returns-clause-read_fault : goal.returns-clause-read_fault
returns-clause-read_fault g c = λ is. c.keep_lines-ending.ensures.read_cause (came_from c.keep_lines-ending.result Unread c.ending_of.result c.ending_of.ensures is)

pub returns-clause-write_fault : goal.returns-clause-write_fault
returns-clause-write_fault g c = λ is. c.keep_lines-ending.ensures.write_cause (came_from c.keep_lines-ending.result Unwritten c.ending_of.result c.ending_of.ensures is)

pub returns-clause-disk_fault : goal.returns-clause-disk_fault
returns-clause-disk_fault g c = λ is. c.keep_lines-ending.ensures.disk_cause (came_from c.keep_lines-ending.result Unkept c.ending_of.result c.ending_of.ensures is)

pub returns-clause-work : goal.returns-clause-work
returns-clause-work g c = λ is. c.keep_lines-ending.ensures.work (came_from c.keep_lines-ending.result AllDone c.ending_of.result c.ending_of.ensures is)
