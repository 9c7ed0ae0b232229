use Rattle.std.proofs.Common.{ap, ◌∙◌, option_map}
use Rattle.std.specs.Str.{bytes_eq}
use Rattle.ld_world.proofs.Named.{find_mapped}
use Rattle.ld_world.proofs.publishing.find_unit.Goals as goal

pub returns : goal.returns
returns c =
    ap (option_map (λ unit. unit.value)) c.first_named.ensures
    ∙ find_mapped (λ unit. unit.value) (λ unit. bytes_eq unit.identifier c.args.id.now) c.args.units.now
