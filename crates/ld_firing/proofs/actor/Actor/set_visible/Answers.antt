use Rattle.std.proofs.Common.{◌∙◌, ap, sym, option_map}
use Rattle.ld_names.specs.Names.{thing_number}
use Rattle.ld_state.proofs.Written.{on_ok}
use Rattle.ld_firing.proofs.Progressing.{one_shown, shown_by}
use Rattle.ld_firing.proofs.actor.Actor.set_visible.Goals as goal

pub returns-clause-does : goal.returns-clause-does
returns-clause-does c fired =
    let named = sym c.thing_number.ensures ∙ ap (option_map (λ thing. thing.0)) c.in-Some.is in
    on_ok c.write.result (c.write.ensures.does fired) (λ does.
    shown_by c.args.self.now.owner c.in-Person.person.0 c.args.visible c.args.thing.now c.in-Person.is
    (one_shown c.in-Person.person.0 c.args.visible c.in-Some.thing.0
    (thing_number c.args.self.now.unit.now c.args.thing.now) named does))
