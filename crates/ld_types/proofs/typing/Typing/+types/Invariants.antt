use Rattle.std.proofs.Common.{◌≡◌, ◌++◌, ◌*◌, ◌+◌, drop}
use Rattle.std.specs.Option.{option_map}
use Rattle.ld_model.specs.Expressions.{terms_from, term_size, terms_size}
use Rattle.ld_types.specs.Types.{term_types}
use Rattle.ld_types.specs.TypingView.{find_by}
use Rattle.ld_types.proofs.typing.Typing.+types.Given as goal

abbrev pub invariant-term_types-loop-term : goal.invariant-term_types-loop-term
invariant-term_types-loop-term l = option_map (λ more. l.types.items ++ more) (term_types (find_by l.self) (terms_from (drop l.term-index l.terms))) ≡ term_types (find_by l.self) (terms_from l.terms)

abbrev pub decreases-term_type : goal.decreases-term_type
decreases-term_type l = 3 * term_size l.term.now

abbrev pub decreases-list_type : goal.decreases-list_type
decreases-list_type l = 3 * terms_size (terms_from l.terms.now) + 2

abbrev pub decreases-pair_type : goal.decreases-pair_type
decreases-pair_type l = 3 * (term_size l.a.now + term_size l.b.now) + 1

abbrev pub decreases-term_types : goal.decreases-term_types
decreases-term_types l = 3 * terms_size (terms_from l.terms.now) + 1
