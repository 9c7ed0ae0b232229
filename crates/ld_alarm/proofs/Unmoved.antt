-- What does not look at the moment of the command is the same whatever that moment is.
use Rattle.std.proofs.Common.{◌≡◌, refl, ap, ap₂, ℕ, ℤ, List, ◌∷◌, Option, Some, None, Bool, true, false, ◌||◌, slice_get, option_map}
use Rattle.ld_base.specs.Maybe.{◌>>=◌}
use Rattle.ld_model.specs.Expressions.{TermOf, TermsOf, property_term, literal_term, list_term, pair_term, now_term, opened_term, started_term, no_term, term_and}
use Rattle.ld_model.specs.declared.cell.Owner.{Owner}
use Rattle.ld_model.specs.declared.cell.Owner.TheVariants.{Run, Person}
use Rattle.ld_model.specs.declared.method.Act.{Act}
use Rattle.ld_model.specs.declared.property.Property.{Property}
use Rattle.ld_model.specs.declared.unit.Unit.{Unit}
use Rattle.ld_names.specs.Names.{thing_number}
use Rattle.ld_walk.specs.ExpressionParts.{reads_clock, any_reads_clock}
use Rattle.ld_expr.specs.Arithmetic.{list_operation, pair_operation}
use Rattle.ld_expr.specs.Holding.{is_owner_in_role}
use Rattle.ld_expr.specs.Lookup.{property_number}
use Rattle.ld_expr.specs.Seen.{Seen, act_opened_cell}
use Rattle.ld_expr.specs.Terms.{property_cell_of, property_value, combined, combined_all, term_value, term_values}
use Rattle.ld_rules.specs.SiteTests.{opening_of}
use Rattle.ld_alarm.specs.SeenAt.{seen_at}

-- Neither of two truth values is true where one of them would be.
neither : (a b : Bool) → a || b ≡ false → (a ≡ false) × (b ≡ false)
neither false b none = (refl, none)
neither true b none = absurd (cc)

module _ (unit : Unit) (seen : Seen) (moment : ℤ) where
  -- The cell of a property is another one than `Now`.
  unmoved_cell : (owner : Owner) (number : ℕ) (found : Option Property)
      → ((found >>= λ property. Some (property_cell_of unit owner number property)) >>= (seen_at seen moment).value)
      ≡ ((found >>= λ property. Some (property_cell_of unit owner number property)) >>= seen.value)
  unmoved_cell owner number None = refl
  unmoved_cell owner number (Some property) = refl

  unmoved_number : (owner : Owner) (o : Option ℕ)
      → ((o >>= λ number. slice_get unit.properties number >>= λ property. Some (property_cell_of unit owner number property)) >>= (seen_at seen moment).value)
      ≡ ((o >>= λ number. slice_get unit.properties number >>= λ property. Some (property_cell_of unit owner number property)) >>= seen.value)
  unmoved_number owner None = refl
  unmoved_number owner (Some number) = unmoved_cell owner number (slice_get unit.properties number)

  pub unmoved_property : (owner : Owner) (id : List ℕ)
      → property_value unit (seen_at seen moment) owner id ≡ property_value unit seen owner id
  unmoved_property owner id = unmoved_number owner (property_number unit id)

  mutual
    pub unmoved_term : (owner : Owner) (term : TermOf) → reads_clock term ≡ false
        → term_value unit (seen_at seen moment) owner term ≡ term_value unit seen owner term
    unmoved_term owner (property_term id) free = unmoved_property owner id
    unmoved_term owner (literal_term kind text) free = refl
    unmoved_term owner (list_term operator terms) free =
        ap (combined_all (list_operation operator)) (unmoved_terms owner terms free)
    unmoved_term owner (pair_term operator a b) free =
        let both = neither (reads_clock a) (reads_clock b) free in
        ap₂ (combined (pair_operation operator)) (unmoved_term owner a both.0) (unmoved_term owner b both.1)
    unmoved_term owner now_term free = absurd (cc)
    unmoved_term owner (opened_term id) free = refl
    unmoved_term owner started_term free = refl

    unmoved_terms : (owner : Owner) (terms : TermsOf) → any_reads_clock terms ≡ false
        → term_values unit (seen_at seen moment) owner terms ≡ term_values unit seen owner terms
    unmoved_terms owner no_term free = refl
    unmoved_terms owner (term_and term terms) free =
        let both = neither (reads_clock term) (any_reads_clock terms) free in
        ap₂ (λ v vs. v ∷ vs) (unmoved_term owner term both.0) (unmoved_terms owner terms both.1)

  pub unmoved_membership : (owner : Owner) (role : List ℕ)
      → is_owner_in_role unit (seen_at seen moment) owner role ≡ is_owner_in_role unit seen owner role
  unmoved_membership Run role = refl
  unmoved_membership (Person p) role = refl

  opened_number : (o : Option ℕ)
      → (option_map act_opened_cell o >>= (seen_at seen moment).value) ≡ (option_map act_opened_cell o >>= seen.value)
  opened_number None = refl
  opened_number (Some thing) = refl

  pub unmoved_opening : (act : Act) → opening_of unit (seen_at seen moment) act ≡ opening_of unit seen act
  unmoved_opening act = opened_number (thing_number unit act.identifier)
