use Rattle.std.proofs.Common.{◌≡◌, ◌*◌, ◌+◌, drop}
use Rattle.ld_model.specs.Expressions.{terms_from, term_size, terms_size}
use Rattle.ld_types.specs.TermFaults.{terms_faults}
use Rattle.ld_types.specs.TypingView.{find_by}
use Rattle.ld_types.proofs.typing.Typing.+terms.Given as goal

abbrev pub invariant-check_terms-loop-i : goal.invariant-check_terms-loop-i
invariant-check_terms-loop-i l = terms_faults (find_by l.self) l.of_run l.at l.i (terms_from (drop l.i l.terms)) ≡ terms_faults (find_by l.self) l.of_run l.at 0 (terms_from l.terms)

abbrev pub decreases-check_term : goal.decreases-check_term
decreases-check_term l = 3 * term_size l.term.now

abbrev pub decreases-check_list : goal.decreases-check_list
decreases-check_list l = 3 * terms_size (terms_from l.terms.now) + 2

abbrev pub decreases-check_terms : goal.decreases-check_terms
decreases-check_terms l = 3 * terms_size (terms_from l.terms.now) + 1

abbrev pub decreases-check_pair : goal.decreases-check_pair
decreases-check_pair l = 3 * (term_size l.a.now + term_size l.b.now) + 1
