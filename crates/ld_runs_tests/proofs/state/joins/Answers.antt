use Rattle.std.proofs.Common.{◌≡◌, Some, rules, true}
use Rattle.ld_runs_tests.proofs.All.{nothing_stored}
use Rattle.ld_runs_tests.proofs.state.joins.Goals as goal

pub enrol-requires-clause-stored : goal.enrol-requires-clause-stored
enrol-requires-clause-stored c =
    let is : c.has_no_properties.result ≡ true = search rules in
    nothing_stored (Some c.args.name.now) c.beginnings-from.ensures.unit (c.has_no_properties.ensures is)
