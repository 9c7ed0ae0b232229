use Rattle.std.proofs.lemmas.Result.{err_from_is_err_and}
use Rattle.ld_refs.specs.Extents.{sizes_of}
use Rattle.ld_refs.proofs.SizeSums.{faults_alike}
use Rattle.ld_refs.proofs.checks.extents.check_extents.Goals as goal

pub returns-in_err-check_all-clause-first : goal.returns-in_err-check_all-clause-first
unfolding Rattle.ld_refs.specs.Extents.size_faults
returns-in_err-check_all-clause-first c =
    let p = err_from_is_err_and c.from_residual-in_err-check_all.result c.from_residual-in_err-check_all.ensures.1 in
    let unit = c.args.unit.now in
    let names = c.args.names.now in
    rw (p.1, p.2, ← faults_alike unit (sizes_of unit names) names c.args.listing.now, ← c.in_ok-sizes.ensures) c.in_err-check_all.ensures.first

pub returns-clause-faultless : goal.returns-clause-faultless
unfolding Rattle.ld_refs.specs.Extents.size_faults
returns-clause-faultless c =
    let unit = c.args.unit.now in
    let names = c.args.names.now in
    rw (← faults_alike unit (sizes_of unit names) names c.args.listing.now, ← c.in_ok-sizes.ensures) c.in_ok-check_all.ensures.faultless
