use Rattle.std.proofs.Common.{rules}
use Rattle.ld_reader.proofs.StructureNames.{content_names}
use Rattle.ld_reader.proofs.structures.only_structure.Goals as goal

pub returns-in_err-only-clause-only : goal.returns-in_err-only-clause-only
returns-in_err-only-clause-only c = rw (content_names c.args.key) (search rules)

pub returns-clause-only : goal.returns-clause-only
returns-clause-only c = rw (content_names c.args.key) (search rules)
