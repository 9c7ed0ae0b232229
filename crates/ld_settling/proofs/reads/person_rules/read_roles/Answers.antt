use Rattle.std.proofs.Common.{◌+◌, ◌∷◌, [], drop, get_or, map}
use Rattle.ld_expr.specs.Seen.{member_cell}
use Rattle.ld_settling.proofs.Gathered.{falls_short, gathers_on}
use Rattle.ld_settling.proofs.Reading.{so_err}
use Rattle.ld_settling.proofs.RolesRead.{from_role}
use Rattle.ld_settling.proofs.reads.person_rules.read_roles.Goals as goal

pub returns-in_err-put-clause-short : goal.returns-in_err-put-clause-short
returns-in_err-put-clause-short c =
    let p = c.args.person.0 in
    let roles = c.args.roles.now in
    let i = c.loop-role.role-index in
    so_err c.from_residual.result
    (falls_short (member_cell (get_or roles i 0) p ∷ []) (map (λ r. member_cell r p) (drop (i + 1) roles)) c.loop-role.invariant
    (from_role p roles i c.loop-role-test.true) c.in_err-put.ensures.short)

pub loop-role-preserved : goal.loop-role-preserved
loop-role-preserved c =
    let p = c.args.person.0 in
    let roles = c.args.roles.now in
    let i = c.loop-role.role-index in
    gathers_on (member_cell (get_or roles i 0) p ∷ []) (map (λ r. member_cell r p) (drop (i + 1) roles)) c.loop-role.invariant
    (from_role p roles i c.loop-role-test.true) c.in_ok-put.ensures.gathers
