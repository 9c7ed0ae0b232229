use Rattle.std.proofs.Common.{◌∙◌, ap, sym, option_map}
use Rattle.ld_value.specs.Datum.{datum_of}
use Rattle.ld_firing.specs.Actions.{opened_by}
use Rattle.ld_state.proofs.Written.{on_ok}
use Rattle.ld_firing.proofs.Progressing.{opened_now}
use Rattle.ld_firing.proofs.actor.Actor.open.Goals as goal

pub returns-clause-does : goal.returns-clause-does
returns-clause-does g c fired =
    on_ok c.write.result (c.write.ensures.does fired) (λ does.
    opened_now c.in-Some.thing.0 (opened_by c.args.self.now.unit.now c.args.rule) (option_map datum_of c.in_ok-now.now)
    (sym c.opened_by.ensures ∙ ap (option_map (λ thing. thing.0)) c.in-Some.is) c.in_ok-now.ensures.value does)
