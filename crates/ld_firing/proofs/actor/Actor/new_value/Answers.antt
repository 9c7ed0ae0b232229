use Rattle.std.proofs.Common.{◌∙◌, ap, sym}
use Rattle.ld_value.specs.Datum.{datum_of}
use Rattle.ld_expr.specs.Lookup.{property_of}
use Rattle.ld_expr.specs.Seen.{Seen}
use Rattle.ld_expr.specs.Terms.{term_value}
use Rattle.ld_firing.specs.Actions.{if_fitting}
use Rattle.ld_firing.proofs.NewValues.{no_value, unfitted, fitted, worked_out}
use Rattle.ld_state.proofs.SeenSame.{seen_same}
use Rattle.ld_state.specs.RunState.{seen_in}
use Rattle.ld_state.specs.StateView.{run_of, seen_of}
use Rattle.ld_firing.proofs.actor.Actor.new_value.Goals as goal

pub returns-in_err-value-clause-cost : goal.returns-in_err-value-clause-cost
returns-in_err-value-clause-cost g c =
    worked_out c.args.self.now.unit.now (seen_of c.args.state.now) c.args.owner c.args.change.now.value c.args.steps.now c.value_of.new.steps c.value_of.ensures.cost

pub returns-in_default-clause-value : goal.returns-in_default-clause-value
returns-in_default-clause-value g c =
    let unit = c.args.self.now.unit.now in
    let change = c.args.change.now in
    no_value (if_fitting unit change.property) (term_value unit (seen_in unit (run_of c.args.state.now)) c.args.owner change.value)
    (ap (λ found. Rattle.std.specs.Option.option_map datum_of found) (sym c.in_default.is) ∙ c.in_ok-value.ensures.value
    ∙ ap (λ (seen : Seen). term_value unit seen c.args.owner change.value) (seen_same unit c.args.state.now c.requires.own))

pub returns-in_default-clause-cost : goal.returns-in_default-clause-cost
returns-in_default-clause-cost g c =
    worked_out c.args.self.now.unit.now (seen_of c.args.state.now) c.args.owner c.args.change.now.value c.args.steps.now c.value_of.new.steps c.value_of.ensures.cost

pub returns-then-not-fits-clause-value : goal.returns-then-not-fits-clause-value
returns-then-not-fits-clause-value g c =
    let unit = c.args.self.now.unit.now in
    let change = c.args.change.now in
    unfitted (property_of unit change.property) (datum_of c.in-Some.value) (term_value unit (seen_in unit (run_of c.args.state.now)) c.args.owner change.value)
    (ap (λ found. Rattle.std.specs.Option.option_map datum_of found) (sym c.in-Some.is) ∙ c.in_ok-value.ensures.value
    ∙ ap (λ (seen : Seen). term_value unit seen c.args.owner change.value) (seen_same unit c.args.state.now c.requires.own))
    (cc (c.fits.ensures, c.if-not-fits.true))

pub returns-then-not-fits-clause-cost : goal.returns-then-not-fits-clause-cost
returns-then-not-fits-clause-cost g c =
    worked_out c.args.self.now.unit.now (seen_of c.args.state.now) c.args.owner c.args.change.now.value c.args.steps.now c.value_of.new.steps c.value_of.ensures.cost

pub returns-clause-value : goal.returns-clause-value
returns-clause-value g c =
    let unit = c.args.self.now.unit.now in
    let change = c.args.change.now in
    fitted (property_of unit change.property) (datum_of c.in-Some.value) (term_value unit (seen_in unit (run_of c.args.state.now)) c.args.owner change.value)
    (ap (λ found. Rattle.std.specs.Option.option_map datum_of found) (sym c.in-Some.is) ∙ c.in_ok-value.ensures.value
    ∙ ap (λ (seen : Seen). term_value unit seen c.args.owner change.value) (seen_same unit c.args.state.now c.requires.own))
    (cc (c.fits.ensures, c.if-not-fits.false))

pub returns-clause-cost : goal.returns-clause-cost
returns-clause-cost g c =
    worked_out c.args.self.now.unit.now (seen_of c.args.state.now) c.args.owner c.args.change.now.value c.args.steps.now c.value_of.new.steps c.value_of.ensures.cost
