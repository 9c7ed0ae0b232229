-- Terms that are added up or multiplied from left to right, of which one may have no value.
use Rattle.std.proofs.Common.{◌≡◌, ℕ, ◌+◌, ◌<◌, List, [], ◌∷◌, drop, fold, get_or, length, length-append, Option, Some, None, refl, sym, ap, ◌∙◌, add-one}
use Rattle.std.proofs.Math.Seq.{drop-cons}
use Rattle.ld_value.specs.Datum.{Datum}
use Rattle.ld_model.specs.Expressions.{TermOf, terms_from}
use Rattle.ld_model.specs.declared.cell.Owner.{Owner}
use Rattle.ld_model.specs.declared.unit.Unit.{Unit}
use Rattle.ld_expr.specs.Looks.{term_looks, terms_looks}
use Rattle.ld_expr.specs.Seen.{Seen}
use Rattle.ld_expr.specs.Terms.{combined, combined_all, term_value, term_values}

-- The elements from this one on.
pub from_here : {A : Type 0} (xs : List A) (i : ℕ) (x : A) → i < length xs → x ≡ get_or xs i x → drop i xs ≡ x ∷ drop (i + 1) xs
from_here xs i x within is =
    let cut : drop i xs ≡ get_or xs i x ∷ drop (i + 1) xs = drop-cons xs i x within ∙ rw (add-one i) refl in
    rw (← is) at cut

-- Once a value is missing there is none of the whole.
none_left : (operation : Datum → Datum → Option Datum) (rest : List (Option Datum)) → fold (combined operation) None rest ≡ None
none_left operation [] = refl
none_left operation (a ∷ rest) = none_left operation rest

pub first_missing : (unit : Unit) (seen : Seen) (owner : Owner) (operation : Datum → Datum → Option Datum) (terms : List TermOf) (first : TermOf) (more : List TermOf) → terms ≡ first ∷ more → None ≡ term_value unit seen owner first → None ≡ combined_all operation (term_values unit seen owner (terms_from terms))
first_missing unit seen owner operation terms first more is missing =
    rw (is, ← missing) (sym (none_left operation (term_values unit seen owner (terms_from more))))

pub next_missing : (unit : Unit) (seen : Seen) (owner : Owner) (operation : Datum → Datum → Option Datum) (total : Datum) (terms : List TermOf) (i : ℕ) (term : TermOf) (whole : Option Datum) → i < length terms → term ≡ get_or terms i term → fold (combined operation) (Some total) (term_values unit seen owner (terms_from (drop i terms))) ≡ whole → None ≡ term_value unit seen owner term → None ≡ whole
next_missing unit seen owner operation total terms i term whole within is so_far missing =
    let one = rw (from_here terms i term within is) at so_far in
    sym (none_left operation (term_values unit seen owner (terms_from (drop (i + 1) terms)))) ∙ (rw (← missing) at one)

pub next_outside : (unit : Unit) (seen : Seen) (owner : Owner) (operation : Datum → Datum → Option Datum) (total next : Datum) (terms : List TermOf) (i : ℕ) (term : TermOf) (whole : Option Datum) → i < length terms → term ≡ get_or terms i term → fold (combined operation) (Some total) (term_values unit seen owner (terms_from (drop i terms))) ≡ whole → Some next ≡ term_value unit seen owner term → None ≡ operation total next → None ≡ whole
next_outside unit seen owner operation total next terms i term whole within is so_far there outside =
    let rest = term_values unit seen owner (terms_from (drop (i + 1) terms)) in
    let one = rw (from_here terms i term within is) at so_far in
    let two : fold (combined operation) (operation total next) rest ≡ whole = rw (← there) at one in
    sym (none_left operation rest) ∙ (ap (λ o. fold (combined operation) o rest) outside ∙ two)

pub next_added : (unit : Unit) (seen : Seen) (owner : Owner) (operation : Datum → Datum → Option Datum) (total next sum : Datum) (terms : List TermOf) (i : ℕ) (term : TermOf) (whole : Option Datum) → i < length terms → term ≡ get_or terms i term → fold (combined operation) (Some total) (term_values unit seen owner (terms_from (drop i terms))) ≡ whole → Some next ≡ term_value unit seen owner term → Some sum ≡ operation total next → fold (combined operation) (Some sum) (term_values unit seen owner (terms_from (drop (i + 1) terms))) ≡ whole
next_added unit seen owner operation total next sum terms i term whole within is so_far there adds =
    let rest = term_values unit seen owner (terms_from (drop (i + 1) terms)) in
    let one = rw (from_here terms i term within is) at so_far in
    let two : fold (combined operation) (operation total next) rest ≡ whole = rw (← there) at one in
    ap (λ o. fold (combined operation) o rest) adds ∙ two

-- ---- where one looks

pub looks_from : (unit : Unit) (seen : Seen) (owner : Owner) (terms : List TermOf) (i : ℕ) (term : TermOf) → i < length terms → term ≡ get_or terms i term → length (terms_looks unit seen owner (terms_from (drop i terms))) ≡ length (term_looks unit seen owner term) + length (terms_looks unit seen owner (terms_from (drop (i + 1) terms)))
looks_from unit seen owner terms i term within is =
    rw (from_here terms i term within is) (length-append (term_looks unit seen owner term) (terms_looks unit seen owner (terms_from (drop (i + 1) terms))))
