use Rattle.std.proofs.Common.{ap, sym, Some, ◌∙◌}
use Rattle.std.proofs.lemmas.List.{take_rest}
use Rattle.ld_base.proofs.Pieces.{take-then-drop}
use Rattle.ld_base.proofs.memory_source.MemorySourceSource.take.Goals as goal

pub returns-clause-bytes : goal.returns-clause-bytes
returns-clause-bytes c =
    rw (c.copy_piece-count.ensures.copied, take_rest, c.as_slice.ensures)
    (sym (ap Some (take-then-drop c.self.inside.bytes c.self.inside.start c.copy_piece-count.result ∙ ap (λ s. s.left) c.self.view_is)))
