use Rattle.std.proofs.Common.{◌∙◌, ap, sym}
use Rattle.ld_world.specs.World.{WorldState, first_world}
use Rattle.ld_world_tests.proofs.telling.tell.Goals as goal

pub publish_both-requires : goal.publish_both-requires
publish_both-requires c =
    record { first = c.new-world.ensures ∙ ap first_world (sym (ap (λ (w : WorldState). w.units) c.new-world.ensures)) }
