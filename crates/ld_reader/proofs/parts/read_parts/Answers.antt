use Rattle.ld_formats.specs.Units.{parts}
use Rattle.ld_reader.proofs.AnswersFormed.{answers_formed}
use Rattle.ld_reader.proofs.parts.read_parts.Goals as goal

pub returns-clause-formed : goal.returns-clause-formed
returns-clause-formed c = answers_formed parts c.args.docs.now c.read_documents.result c.read_documents.ensures
