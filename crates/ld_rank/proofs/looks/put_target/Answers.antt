use Rattle.std.proofs.Common.{◌≡◌, Some, false, is_some, sym, ap, ◌∙◌}
use Rattle.ld_names.specs.Names.{role_number}
use Rattle.ld_expr.specs.Lookup.{environment_named}
use Rattle.ld_rank.proofs.Asking.{target_looks}
use Rattle.ld_rank.proofs.looks.put_target.Goals as goal

pub returns-in-Some : goal.returns-in-Some
returns-in-Some g c =
    let unit = c.args.unit.now in
    let role : Some c.in-Some.field-0.0 ≡ role_number unit c.args.part.now.role =
    c.in-Some.ensures ∙ ap (λ unit. role_number unit c.args.part.now.role) c.unit-2.ensures.unit in
    let nothing : is_some (environment_named unit c.args.part.now.target) ≡ false =
    ap (λ unit. is_some (environment_named unit c.args.part.now.target)) (sym c.unit.ensures.unit) ∙ sym c.if-is_environment.ensures in
    rw (target_looks unit c.args.part.now c.in-Some.field-0.0 role nothing) c.put_mark.ensures
