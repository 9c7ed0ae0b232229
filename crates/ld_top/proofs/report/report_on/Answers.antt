use Rattle.std.proofs.Common.{Err, inl}
use Rattle.ld_json.specs.Fault.{told_by}
use Rattle.ld_top.specs.InFolder.{IsReading, WhereTold}
use Rattle.ld_top.proofs.report.report_on.Goals as goal

pub returns-in-Err-Refused-clause-refused : goal.returns-in-Err-Refused-clause-refused
returns-in-Err-Refused-clause-refused g c =
    let told : WhereTold (g.H.Shelf.files c.args.shelf.now) (λ files. IsReading files c.args.folder.now (Err (told_by c.in-Err-Refused.fault))) =
    λ files is. rw c.in-Err-Refused.field-0-is at (c.in-Err-Refused.ensures.first files is) in
    λ refused. (told_by c.in-Err-Refused.fault, told, rw c.in-Err-Refused.field-0-is at (c.refuse.ensures.written refused))

pub returns-in-Err-Refused-clause-cut : goal.returns-in-Err-Refused-clause-cut
returns-in-Err-Refused-clause-cut g c =
    let told : WhereTold (g.H.Shelf.files c.args.shelf.now) (λ files. IsReading files c.args.folder.now (Err (told_by c.in-Err-Refused.fault))) =
    λ files is. rw c.in-Err-Refused.field-0-is at (c.in-Err-Refused.ensures.first files is) in
    λ cut. inl (told_by c.in-Err-Refused.fault, told, rw c.in-Err-Refused.fault-is at (c.refuse.ensures.cut cut))
