use Rattle.std.proofs.Common.{◌≡◌, drop, ◌*◌, ◌+◌}
use Rattle.ld_model.specs.Expressions.{terms_from, term_size, terms_size}
use Rattle.ld_walk.specs.ExpressionParts.{terms_parts}
use Rattle.ld_walk.specs.Places.{member}
use Rattle.ld_walk.specs.Walks.{added}
use Rattle.ld_walk.proofs.terms.+terms.Given as goal

abbrev pub invariant-list_terms-loop-i : goal.invariant-list_terms-loop-i
invariant-list_terms-loop-i l = added l.walk (terms_parts (member l.fn.walk.at l.name) l.of_members l.i (terms_from (drop l.i l.terms))) ≡ added l.fn.walk (terms_parts (member l.fn.walk.at l.name) l.of_members 0 (terms_from l.terms))

abbrev pub decreases-list_term : goal.decreases-list_term
decreases-list_term l = 3 * term_size l.term.now

abbrev pub decreases-list_operand : goal.decreases-list_operand
decreases-list_operand l = 3 * term_size l.term.now + 1

abbrev pub decreases-list_terms : goal.decreases-list_terms
decreases-list_terms l = 3 * terms_size (terms_from l.terms.now) + 2

abbrev pub decreases-list_pair : goal.decreases-list_pair
decreases-list_pair l = 3 * (term_size l.a.now + term_size l.b.now) + 2
