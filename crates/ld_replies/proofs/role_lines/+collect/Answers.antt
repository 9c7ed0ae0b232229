use Rattle.ld_rules.proofs.RolesCollected.{collected_next}
use Rattle.ld_replies.proofs.role_lines.+collect.Goals as goal

pub collect_roles-loop-role-preserved : goal.collect_roles-loop-role-preserved
collect_roles-loop-role-preserved t c =
    collected_next c.args.roles.now c.loop-role.role-index c.role-item.result _ _ _ c.loop-role-test.true c.role-item.is c.loop-role.invariant c.in_ok-collect_role.ensures
