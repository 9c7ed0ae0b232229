use Rattle.ld_canon.specs.Canonical.{canonical}
use Rattle.ld_canon.specs.Units.{documents_whole}
use Rattle.ld_canon.proofs.printing.canonical_text.Goals as goal

pub print_documents-requires : goal.print_documents-requires
print_documents-requires c = rw c.in_ok-docs.ensures.documents (documents_whole (canonical c.args.unit.now))
