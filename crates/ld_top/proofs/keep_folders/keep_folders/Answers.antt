use Rattle.std.proofs.Common.{Err, ap, refl, inl, inr}
use Rattle.ld_json.specs.Fault.{told_by}
use Rattle.ld_keeping.proofs.Journals.{loses_none_yet}
use Rattle.ld_words.specs.Words.{words_of}
use Rattle.ld_top.specs.Endings.{number_of}
use Rattle.ld_top.specs.InFolder.{WhereTold}
use Rattle.ld_top.specs.Replay.{Publishes}
use Rattle.ld_top.proofs.Completing.{not_both, published_not_refused, refusal_ends, seven_refused}
use Rattle.ld_top.proofs.JournalEnds.{good_from, not_unopened}
use Rattle.ld_top.proofs.Refusing.{refused_for}
use Rattle.ld_top.proofs.keep_folders.keep_folders.Goals as goal

-- ---- the shelf failed

pub returns-in-Err-ShelfFault-clause-complete : goal.returns-in-Err-ShelfFault-clause-complete
returns-in-Err-ShelfFault-clause-complete g c = λ given shelf source sink disk. absurd (shelf (c.in-Err-ShelfFault.ensures.fault (ap Err c.in-Err-ShelfFault.field-0-is)))

pub returns-in-Err-ShelfFault-clause-refuses : goal.returns-in-Err-ShelfFault-clause-refuses
returns-in-Err-ShelfFault-clause-refuses g c = λ shelf sink. absurd (shelf (c.in-Err-ShelfFault.ensures.fault (ap Err c.in-Err-ShelfFault.field-0-is)))

pub returns-in-Err-ShelfFault-clause-not_kept : goal.returns-in-Err-ShelfFault-clause-not_kept
returns-in-Err-ShelfFault-clause-not_kept g c = λ _. loses_none_yet g.D.Disk.model g.met.D.Disk.lawful c.args.disk.now

-- ---- memory ran out

pub returns-in-Err-NoMemory-clause-complete : goal.returns-in-Err-NoMemory-clause-complete
returns-in-Err-NoMemory-clause-complete g c = λ given shelf source sink disk. refl

pub returns-in-Err-NoMemory-clause-refuses : goal.returns-in-Err-NoMemory-clause-refuses
returns-in-Err-NoMemory-clause-refuses g c = λ shelf sink. seven_refused (words_of c.args.folders.now) (g.H.Shelf.files c.args.shelf.now)

pub returns-in-Err-NoMemory-clause-not_kept : goal.returns-in-Err-NoMemory-clause-not_kept
returns-in-Err-NoMemory-clause-not_kept g c = λ _. loses_none_yet g.D.Disk.model g.met.D.Disk.lawful c.args.disk.now

-- ---- a folder is refused

pub returns-in-Err-Refused-clause-refused : goal.returns-in-Err-Refused-clause-refused
returns-in-Err-Refused-clause-refused g c =
    let names = words_of c.args.folders.now in
    let told : WhereTold (g.H.Shelf.files c.args.shelf.now) (λ files. Publishes files names (Err (record { folder = c.in-Err-Refused.number; fault = told_by c.in-Err-Refused.fault }))) =
    λ files is. rw c.in-Err-Refused.field-0-is at (c.in-Err-Refused.ensures.refused files is) in
    λ refused. refused_for names _ _ _ (record { folder = c.in-Err-Refused.number; fault = told_by c.in-Err-Refused.fault }) told (c.refuse.ensures.written refused)

pub returns-in-Err-Refused-clause-cut : goal.returns-in-Err-Refused-clause-cut
returns-in-Err-Refused-clause-cut g c =
    let names = words_of c.args.folders.now in
    let told : WhereTold (g.H.Shelf.files c.args.shelf.now) (λ files. Publishes files names (Err (record { folder = c.in-Err-Refused.number; fault = told_by c.in-Err-Refused.fault }))) =
    λ files is. rw c.in-Err-Refused.field-0-is at (c.in-Err-Refused.ensures.refused files is) in
    λ cut. inl (((record { folder = c.in-Err-Refused.number; fault = told_by c.in-Err-Refused.fault }), told, (c.refuse.ensures.cut cut, refl)), loses_none_yet g.D.Disk.model g.met.D.Disk.lawful c.args.disk.now)

pub returns-in-Err-Refused-clause-complete : goal.returns-in-Err-Refused-clause-complete
returns-in-Err-Refused-clause-complete g c =
    let names = words_of c.args.folders.now in
    let told : WhereTold (g.H.Shelf.files c.args.shelf.now) (λ files. Publishes files names (Err (record { folder = c.in-Err-Refused.number; fault = told_by c.in-Err-Refused.fault }))) =
    λ files is. rw c.in-Err-Refused.field-0-is at (c.in-Err-Refused.ensures.refused files is) in
    λ given shelf source sink disk. absurd (not_both given.told names given.units (record { folder = c.in-Err-Refused.number; fault = told_by c.in-Err-Refused.fault }) given.published (told given.told given.are_told))

pub returns-in-Err-Refused-clause-refuses : goal.returns-in-Err-Refused-clause-refuses
returns-in-Err-Refused-clause-refuses g c = λ shelf sink. record {
  ends = λ told refused here badly. refusal_ends c.refuse.result _ _ c.refuse.ensures.endings c.refuse.ensures.cause sink;
}

pub returns-in-Err-Refused-clause-not_kept : goal.returns-in-Err-Refused-clause-not_kept
returns-in-Err-Refused-clause-not_kept g c = λ _. loses_none_yet g.D.Disk.model g.met.D.Disk.lawful c.args.disk.now

-- ---- the lines were answered

pub returns-clause-complete : goal.returns-clause-complete
returns-clause-complete g c = λ given shelf source sink disk.
    c.keep_units.ensures.complete (good_from (words_of c.args.folders.now) _ _ _ _ c.in-Ok.ensures.published given) source sink disk

pub returns-clause-refuses : goal.returns-clause-refuses
returns-clause-refuses g c = λ shelf sink.
    published_not_refused (words_of c.args.folders.now) _ _ (number_of c.keep_units.result) c.in-Ok.ensures.published

pub returns-clause-cut : goal.returns-clause-cut
returns-clause-cut g c = λ is. inr (c.in-Ok.world.units, c.in-Ok.ensures.published, c.keep_units.ensures.cut is)

pub returns-clause-lost : goal.returns-clause-lost
returns-clause-lost g c = λ is. (c.in-Ok.world.units, c.in-Ok.ensures.published, c.keep_units.ensures.lost is)

pub returns-clause-not_opened : goal.returns-clause-not_opened
returns-clause-not_opened g c = λ is. absurd (not_unopened c.keep_units.result c.keep_units.ensures.endings is)

pub returns-clause-work : goal.returns-clause-work
returns-clause-work g c = λ is. (c.in-Ok.world.units, c.in-Ok.ensures.published, (c.in-Ok.world, c.in-Ok.ensures.first, c.keep_units.ensures.work is))
