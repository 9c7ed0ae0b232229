use Rattle.ld_json.specs.Fault.{told_by}
use Rattle.ld_generator.proofs.Computed.{no_first_fault}
use Rattle.ld_generator.proofs.play.generated_world.Goals as goal

pub check-requires : goal.check-requires
check-requires c = c.generated_unit_is_valid.ensures.formed

pub unreachable-requires : goal.unreachable-requires
unreachable-requires c =
    no_first_fault _ (told_by c.in-Err-Refused.field-0-0) c.generated_unit_is_valid.ensures
    (rw c.in-Err-Refused.field-0-is at c.in-Err-Refused.ensures.first)
