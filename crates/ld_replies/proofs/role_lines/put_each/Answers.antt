use Rattle.ld_roles.specs.Kept.{persons_of}
use Rattle.ld_replies.specs.RoleLines.{role_line}
use Rattle.ld_replies.proofs.Listed.{printed_next}
use Rattle.ld_replies.proofs.role_lines.put_each.Goals as goal

pub loop-index-preserved : goal.loop-index-preserved
loop-index-preserved c =
    let put = rw c.in_ok-number.ensures.number at c.in_ok-put_role.ensures in
    printed_next (λ id. id.now) (role_line c.args.roster.now.roles (persons_of c.args.roster.now.rows)) c.args.ids.now c.loop-index.index c.index-ids-index.result _ _ _ c.loop-index-test.true c.index-ids-index.is c.loop-index.invariant put
