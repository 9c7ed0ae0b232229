use Rattle.std.proofs.Common.{arith}
use Rattle.ld_generator.proofs.Amounts.{few_asks}
use Rattle.ld_generator.proofs.report.generated_line.Goals as goal

pub play-requires : goal.play-requires
play-requires g c = rw (c.as_slice.ensures.value, c.in_ok-asks.ensures) (few_asks c.args.number c.args.persons (omega (arith, c.ranges.persons.fits)))
