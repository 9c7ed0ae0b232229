use Rattle.std.proofs.Common.{◌∙◌, ap, sym, option_map}
use Rattle.ld_value.specs.Datum.{datum_of}
use Rattle.ld_state.proofs.Written.{on_ok}
use Rattle.ld_firing.proofs.Progressing.{change_done, change_unfit}
use Rattle.ld_firing.proofs.actor.Actor.change_for.Goals as goal

pub returns-in_default-2-clause-does : goal.returns-in_default-2-clause-does
returns-in_default-2-clause-does g c =
    on_ok c.reject-in_default-2.result c.reject-in_default-2.ensures.rejected (λ rejected.
    change_unfit c.args.self.now.unit.now c.args.change.now c.args.owner c.args.state.now c.args.changed.now.items
    c.args.fired.now c.reject-in_default-2.new.fired rejected c.reject-in_default-2.ensures.sent
    (sym c.in_ok-value.ensures.value ∙ ap (option_map datum_of) c.in_default-2.is))

pub returns-clause-does : goal.returns-clause-does
returns-clause-does g c =
    on_ok c.write.result (c.write.ensures.does c.args.fired.now) (λ does.
    change_done c.args.self.now.unit.now c.args.change.now c.args.owner c.in-Some.cell (datum_of c.in-Some-2.value)
    (sym c.cell_of_property.ensures ∙ c.in-Some.is)
    (sym c.in_ok-value.ensures.value ∙ ap (option_map datum_of) c.in-Some-2.is) does)
