-- The new value of a change, and how many steps it may take to work it out.
use Rattle.std.proofs.Common.{◌≡◌, refl, ap, ◌∙◌, ℕ, ◌+◌, ◌≤◌, [], ◌∷◌, length, length-append, Option, Some, None, true, false, arith}
use Rattle.ld_base.specs.Maybe.{◌>>=◌, provided}
use Rattle.ld_value.specs.Datum.{Datum}
use Rattle.ld_model.specs.Expressions.{TermOf, TermsOf, property_term, literal_term, list_term, pair_term, now_term, opened_term, started_term, no_term, term_and}
use Rattle.ld_model.specs.declared.cell.CellName.{CellName}
use Rattle.ld_model.specs.declared.cell.Owner.{Owner}
use Rattle.ld_model.specs.declared.property.Property.{Property}
use Rattle.ld_model.specs.declared.unit.Unit.{Unit}
use Rattle.ld_names.specs.Names.{thing_number}
use Rattle.ld_expr.specs.Looks.{term_looks, terms_looks}
use Rattle.ld_expr.specs.Lookup.{is_some_and, list_from}
use Rattle.ld_expr.specs.Owners.{fits_property}
use Rattle.ld_expr.specs.Seen.{Seen, opened_cell}
use Rattle.ld_expr.specs.Terms.{cell_of_property}
use Rattle.ld_firing.specs.Costs.{term_leaves, terms_leaves}

-- ---- what fits

pub no_value : {A B : Type 0} (f : A → Option B) (o : Option A) → None ≡ o → None ≡ (o >>= f)
no_value f o none = ap (λ found. found >>= f) none

unfitted_by : (property : Option Property) (value : Datum) → false ≡ is_some_and (λ one. fits_property one value) property
    → None ≡ (property >>= λ one. provided (fits_property one value) value)
unfitted_by None value is = refl
unfitted_by (Some one) value is = ap (λ b. provided b value) is

fitted_by : (property : Option Property) (value : Datum) → true ≡ is_some_and (λ one. fits_property one value) property
    → Some value ≡ (property >>= λ one. provided (fits_property one value) value)
fitted_by None value is = absurd (cc)
fitted_by (Some one) value is = ap (λ b. provided b value) is

pub unfitted : (property : Option Property) (value : Datum) (o : Option Datum) → Some value ≡ o
    → false ≡ is_some_and (λ one. fits_property one value) property
    → None ≡ (o >>= λ v. property >>= λ one. provided (fits_property one v) v)
unfitted property value o there is =
    unfitted_by property value is ∙ ap (λ found. found >>= λ v. property >>= λ one. provided (fits_property one v) v) there

pub fitted : (property : Option Property) (value : Datum) (o : Option Datum) → Some value ≡ o
    → true ≡ is_some_and (λ one. fits_property one value) property
    → Some value ≡ (o >>= λ v. property >>= λ one. provided (fits_property one v) v)
fitted property value o there is =
    fitted_by property value is ∙ ap (λ found. found >>= λ v. property >>= λ one. provided (fits_property one v) v) there

-- ---- steps

pub one_look : {A : Type 0} (cell : A → CellName) (o : Option A) → length (list_from (λ x. cell x ∷ []) o) ≤ 1
one_look cell None = omega arith
one_look cell (Some x) = omega arith

mutual
  -- A term looks at no more cells than it has leaves.
  pub looks_within : (unit : Unit) (seen : Seen) (owner : Owner) (term : TermOf) → length (term_looks unit seen owner term) ≤ term_leaves term
  looks_within unit seen owner (property_term id) = one_look (λ cell. cell) (cell_of_property unit owner id)
  looks_within unit seen owner (literal_term kind text) = omega arith
  looks_within unit seen owner (list_term operator terms) = all_looks_within unit seen owner terms
  looks_within unit seen owner (pair_term operator a b) =
      omega (arith, length-append (term_looks unit seen owner a) (term_looks unit seen owner b), looks_within unit seen owner a, looks_within unit seen owner b)
  looks_within unit seen owner now_term = omega arith
  looks_within unit seen owner (opened_term id) = one_look (λ thing. opened_cell thing owner) (thing_number unit id)
  looks_within unit seen owner started_term = omega arith

  all_looks_within : (unit : Unit) (seen : Seen) (owner : Owner) (terms : TermsOf) → length (terms_looks unit seen owner terms) ≤ terms_leaves terms
  all_looks_within unit seen owner no_term = omega arith
  all_looks_within unit seen owner (term_and term terms) =
      omega (arith, length-append (term_looks unit seen owner term) (terms_looks unit seen owner terms), looks_within unit seen owner term, all_looks_within unit seen owner terms)

pub worked_out : (unit : Unit) (seen : Seen) (owner : Owner) (term : TermOf) (old new : ℕ) → new ≤ old + length (term_looks unit seen owner term)
    → new ≤ old + term_leaves term
worked_out unit seen owner term old new within = omega (arith, within, looks_within unit seen owner term)
