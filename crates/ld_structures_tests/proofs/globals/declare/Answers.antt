use Rattle.std.proofs.Common.{◌≡◌, ◌∙◌, ◌∷◌, ◌++◌, [], List, ap, sym, subst}
use Rattle.std.specs.List.{IsDistinct}
use Rattle.std.specs.Map.{keys_of}
use Rattle.std.specs.Str.{bytes_eq}
use Rattle.ld_base.specs.Roomy.{Roomy}
use Rattle.ld_globals.specs.Kept.{pairs_of}
use Rattle.ld_globals.specs.declared.declared.Declared.{Declared}
use Rattle.ld_structures_tests.proofs.globals.declare.Goals as goal

-- One uri alone is declared once.
alone : (x : Roomy × Declared) → IsDistinct bytes_eq (keys_of (pairs_of (x ∷ [])))
unfolding IsDistinct
alone x = (tt, tt)

pushed : (old new : List (Roomy × Declared)) (x : Roomy × Declared) → old ≡ [] → new ≡ old ++ x ∷ [] → IsDistinct bytes_eq (keys_of (pairs_of new))
pushed old new x none is = subst (λ list. IsDistinct bytes_eq (keys_of (pairs_of list))) (sym (is ∙ ap (λ list. list ++ x ∷ []) none)) (alone x)

pub declare-requires-clause-differ : goal.declare-requires-clause-differ
declare-requires-clause-differ c = pushed c.new-list.result c.push.new.self _ c.new-list.ensures c.in_ok-push.ensures.ok
