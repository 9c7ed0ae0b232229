use Rattle.std.proofs.Common.{◌≡◌, drop, fold, map}
use Rattle.ld_model.specs.Counting.{each_numbered, each_numbered_from}
use Rattle.ld_roles.specs.Kept.{persons_of}
use Rattle.ld_replies.specs.Printed.{printed_after}
use Rattle.ld_replies.specs.RoleLines.{role_line}
use Rattle.ld_replies.proofs.role_lines.put_each.Given as goal

abbrev pub invariant-loop-index : goal.invariant-loop-index
invariant-loop-index l =
    fold printed_after l.lines (each_numbered_from (role_line l.roster.roles (persons_of l.roster.rows)) l.index (drop l.index (map (λ id. id.now) l.ids)))
    ≡ fold printed_after l.fn.lines (each_numbered (role_line l.fn.roster.roles (persons_of l.fn.roster.rows)) (map (λ id. id.now) l.fn.ids))
