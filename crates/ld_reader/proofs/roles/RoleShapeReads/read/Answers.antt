use Rattle.std.proofs.Common.{rules}
use Rattle.ld_formats.specs.Roles.{role}
use Rattle.ld_reader.proofs.roles.RoleShapeReads.read.Goals as goal

pub returns : goal.returns
unfolding role
returns c = search rules
