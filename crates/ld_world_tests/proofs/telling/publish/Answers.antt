use Rattle.std.proofs.Common.{◌∙◌, ap, sym}
use Rattle.ld_world.specs.World.{WorldState, first_world}
use Rattle.ld_world_tests.proofs.telling.publish.Goals as goal

pub returns : goal.returns
returns c =
    record { first = c.in_ok-publish.ensures.ok ∙ ap first_world (sym (ap (λ (w : WorldState). w.units) c.in_ok-publish.ensures.ok)) }
