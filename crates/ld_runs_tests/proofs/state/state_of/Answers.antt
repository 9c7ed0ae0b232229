use Rattle.std.proofs.Common.{◌≡◌, None, rules, true}
use Rattle.ld_runs_tests.proofs.All.{nothing_stored}
use Rattle.ld_runs_tests.proofs.state.state_of.Goals as goal

pub new-requires-clause-stored : goal.new-requires-clause-stored
new-requires-clause-stored c =
    let is : c.has_no_properties.result ≡ true = search rules in
    nothing_stored None c.beginnings-from.ensures.unit (c.has_no_properties.ensures is)
