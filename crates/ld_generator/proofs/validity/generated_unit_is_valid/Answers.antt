use Rattle.ld_generator.proofs.Computed.{valid_as_well}
use Rattle.ld_generator.proofs.validity.generated_unit_is_valid.Goals as goal

pub returns : goal.returns
returns c = valid_as_well _ c.requires
