-- The cell of a property is the cell of a property, and an owner stays one while persons do.
use Rattle.std.proofs.Common.{◌≡◌, refl, subst, ℕ, List, length, slice_get, Option, Some, None, true, arith}
use Rattle.ld_base.specs.Maybe.{◌>>=◌}
use Rattle.ld_model.specs.declared.cell.CellName.{CellName}
use Rattle.ld_model.specs.declared.cell.Owner.{Owner}
use Rattle.ld_model.specs.declared.cell.Owner.TheVariants.{Run, Person}
use Rattle.ld_model.specs.declared.property.Property.{Property}
use Rattle.ld_model.specs.declared.unit.Unit.{Unit}
use Rattle.ld_expr.specs.Lookup.{property_number}
use Rattle.ld_expr.specs.Owners.{value_owner}
use Rattle.ld_expr.specs.Seen.{property_cell}
use Rattle.ld_expr.specs.Terms.{cell_of_property}
use Rattle.ld_rules.specs.LawWords.{HasOwner, is_property}
use Rattle.ld_state.specs.RunState.{RunState}
use Rattle.ld_state.proofs.Elements.{none_is_some, some_same}
use Rattle.ld_names.specs.Holders.{holder_of}

pub property_cells : (unit : Unit) (owner : Owner) (id : List ℕ) (cell : CellName) → cell_of_property unit owner id ≡ Some cell → is_property cell ≡ true
property_cells unit owner id cell is = by (property_number unit id) is
  where
    at : (number : ℕ) (property : Option Property) → (property >>= λ found. Some (property_cell number (value_owner (holder_of unit found) owner))) ≡ Some cell → is_property cell ≡ true
    at number None is = none_is_some is
    at number (Some property) is = subst (λ name. is_property name ≡ true) (some_same is) refl

    by : (number : Option ℕ) → (number >>= λ n. slice_get unit.properties n >>= λ found. Some (property_cell n (value_owner (holder_of unit found) owner))) ≡ Some cell → is_property cell ≡ true
    by None is = none_is_some is
    by (Some n) is = at n (slice_get unit.properties n) is

pub owner_stays : (s t : RunState) (owner : Owner) → length t.persons ≡ length s.persons → HasOwner s owner → HasOwner t owner
owner_stays s t Run same has = tt
owner_stays s t (Person p) same has = omega (arith, has, same)
