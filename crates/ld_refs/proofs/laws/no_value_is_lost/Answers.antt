use Rattle.ld_refs.proofs.ValuesKept.{values_kept}
use Rattle.ld_refs.proofs.laws.no_value_is_lost.Goals as goal

pub returns : goal.returns
returns c = values_kept c.args.unit.now
