use Rattle.std.proofs.Common.{◌≡◌, ◌++◌, drop, map}
use Rattle.ld_model.specs.Counting.{each_numbered_from}
use Rattle.ld_model.specs.RoleRows.{rows_of_one, rows_within}
use Rattle.ld_replies.proofs.role_lines.+collect.Given as goal

abbrev pub invariant-collect_roles-loop-role : goal.invariant-collect_roles-loop-role
invariant-collect_roles-loop-role l =
    map (λ id. id.now) l.ids.items ++ map (λ role. role.identifier) (each_numbered_from rows_of_one l.role-index (drop l.role-index l.roles))
    ≡ map (λ id. id.now) l.fn.ids.items ++ map (λ role. role.identifier) (rows_within l.roles)
