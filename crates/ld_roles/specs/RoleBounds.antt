-- What of a role says who may be a member of it.
use Rattle.std.specs.Prelude.{ℕ, List, map, Option}
use Rattle.ld_model.specs.RoleRows.{RoleRow}
use Rattle.ld_model.specs.Roles.{roles_of}
use Rattle.ld_model.specs.declared.role.MatchPersons.{MatchPersons}
use Rattle.ld_model.specs.declared.unit.Unit.{Unit}

-- Where the role stands, as in a row of the unit's roles; whether a person may be in several of the
-- roles directly within it; and its least and greatest number of members.
pub record RoleBounds : Type 0 where
  pub path : List ℕ
  pub match_persons : MatchPersons
  pub min_persons : ℕ
  pub max_persons : Option ℕ

-- The bounds of the role of this row.
abbrev pub bounds_of : RoleRow → RoleBounds
bounds_of row = record {
  path = row.path;
  match_persons = row.match_persons;
  min_persons = row.min_persons;
  max_persons = row.max_persons;
}

-- The bounds of the unit's roles, by their numbers.
abbrev pub role_bounds : Unit → List RoleBounds
role_bounds unit = map bounds_of (roles_of unit)
