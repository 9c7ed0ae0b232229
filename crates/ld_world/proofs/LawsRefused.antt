-- A line that is refused changes nothing.
use Rattle.std.proofs.Common.{◌≡◌, ap, Option, Err}
use Rattle.ld_lines.specs.declared.line.Line.{Line}
use Rattle.ld_admission.specs.Refusals.{Refusal}
use Rattle.ld_world.specs.World.{WorldState, world_step, world_after}

pub refused_changes_nothing : (w : WorldState) (line : Option Line) (refusal : Refusal) → world_step w line ≡ Err refusal → world_after w (world_step w line) ≡ w
refused_changes_nothing w line refusal is = ap (world_after w) is
