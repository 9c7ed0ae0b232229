use Rattle.std.proofs.Common.{arith, ap}
use Rattle.ld_settling.specs.SiteParts.{places_taken}
use Rattle.ld_settling.proofs.SiteNumbers.{in_row, row_below}
use Rattle.ld_settling.proofs.site_numbers.SiteNumbers.of_rule.Goals as goal

pub returns-clause-range : goal.returns-clause-range
returns-clause-range c =
    let (rule, at, is) = c.kind-kind.ensures.rule in
    let row = row_below c.args.self.now.unit.now c.args.rule rule at c.args.persons c.requires.seats in
    omega (arith, row, c.places_taken.ensures.taken, ap (places_taken c.args.persons) is)

pub returns-clause-all : goal.returns-clause-all
returns-clause-all c site there same =
    let (rule, at, is) = c.kind-kind.ensures.rule in
    let row = in_row c.args.self.now.unit.now c.args.rule rule at c.args.persons site there same in
    (omega (arith, row.0), omega (arith, row.0, row.1, c.places_taken.ensures.taken, ap (places_taken c.args.persons) is))
