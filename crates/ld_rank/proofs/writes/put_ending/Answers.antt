use Rattle.ld_expr.specs.Owners.{mark_owner, of_person}
use Rattle.ld_rank.proofs.Writing.{ending}
use Rattle.ld_rank.proofs.writes.put_ending.Goals as goal

pub returns-in-Some : goal.returns-in-Some
returns-in-Some g c =
    let follows = c.in-Some.follows in
    rw c.in-Some.is
    (rw (ending c.args.unit.now (mark_owner c.args.kind (of_person 0)) follows.change follows.notify)
    (rw c.as_slice.ensures at c.put_changes.ensures))
