use Rattle.std.proofs.Common.{arith, ap}
use Rattle.ld_settling.specs.SiteParts.{places_taken}
use Rattle.ld_settling.proofs.SiteNumbers.{in_row, new_in_row, row_below, row_is_new}
use Rattle.ld_settling.proofs.site_numbers.SiteNumbers.newcomers.Goals as goal

pub returns-clause-range : goal.returns-clause-range
returns-clause-range c =
    let (rule, at, is) = c.kind-kind.ensures.rule in
    let row = row_below c.args.self.now.unit.now c.args.rule rule at c.args.below c.requires.seats in
    omega (arith, row, c.places_taken-2.ensures.taken, ap (places_taken c.args.below) is)

pub returns-clause-all : goal.returns-clause-all
returns-clause-all c site new same =
    let (rule, at, is) = c.kind-kind.ensures.rule in
    let unit = c.args.self.now.unit.now in
    let row = in_row unit c.args.rule rule at c.args.below site new.there same in
    let past = new_in_row unit c.args.rule rule at c.args.from c.args.below site new same in (
      omega (arith, row.0, past, c.places_taken.ensures.taken, ap (places_taken c.args.from) is),
      omega (arith, row.0, row.1, c.places_taken-2.ensures.taken, ap (places_taken c.args.below) is),
    )

pub returns-clause-only : goal.returns-clause-only
returns-clause-only c i among =
    let (rule, at, is) = c.kind-kind.ensures.rule in
    row_is_new c.args.self.now.unit.now c.args.rule rule at c.args.from c.args.below i
    (omega (arith, among.0, c.places_taken.ensures.taken, ap (places_taken c.args.from) is))
    (omega (arith, among.1, c.places_taken-2.ensures.taken, ap (places_taken c.args.below) is))
