-- That a role stands among the bounds, and what is stored for a unit without properties.
use Rattle.std.proofs.Common.{◌≡◌, ℕ, ◌<◌, arith, List, [], Option, Some, None, length, sym, ap, ◌∙◌}
use Rattle.std.proofs.lemmas.List.{length-map}
use Rattle.ld_model.specs.Roles.{roles_of}
use Rattle.ld_model.specs.declared.unit.Unit.{Unit}
use Rattle.ld_names.specs.Names.{role_number}
use Rattle.ld_roles.specs.RoleBounds.{bounds_of, role_bounds}
use Rattle.ld_state.specs.Beginnings.{stored_for}
use Rattle.ld_state.specs.GlobalValues.{GlobalValues}
use Rattle.ld_rules.proofs.RoleNumbers.{role_below}

pub role_bounded : (unit : Unit) (id : List ℕ) (r : ℕ) → role_number unit id ≡ Some r → r < length (role_bounds unit)
role_bounded unit id r is = omega (arith, role_below unit id r is, length-map (roles_of unit) bounds_of)

-- Of a unit without properties nothing is stored.
pub nothing_stored : (person : Option (List ℕ)) {unit other : Unit} → other ≡ unit → unit.properties ≡ []
    → (store : GlobalValues) × ([] ≡ stored_for store person other.properties)
nothing_stored person {unit} {other} same none =
    (λ _ _. None, sym (ap (stored_for (λ _ _. None) person) (ap (λ (u : Unit). u.properties) same ∙ none)))
