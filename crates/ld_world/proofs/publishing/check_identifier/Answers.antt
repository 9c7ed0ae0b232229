use Rattle.std.proofs.Common.{sym, ap, map, is_some}
use Rattle.ld_world.proofs.Published.{none_repeated, says_repeated}
use Rattle.ld_world.proofs.publishing.check_identifier.Goals as goal

pub returns-in-Some-clause-first : goal.returns-in-Some-clause-first
returns-in-Some-clause-first c =
    says_repeated (map (λ other. other.value) c.args.units.now) c.args.unit.now c.repeated_unit.result (ap is_some (sym c.in-Some.ensures)) c.repeated_unit.ensures

pub returns-clause-faultless : goal.returns-clause-faultless
returns-clause-faultless c =
    none_repeated (map (λ other. other.value) c.args.units.now) c.args.unit.now (ap is_some (sym c.in_default.ensures))
