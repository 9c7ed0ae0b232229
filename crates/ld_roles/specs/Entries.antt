-- How a roster keeps the roles.
use Rattle.std.specs.Prelude.{ℕ, List, ◌++◌}
use Rattle.ld_model.specs.RoleRows.{RoleRow}
use Rattle.ld_roles.specs.RoleBounds.{RoleBounds}
use Rattle.ld_roles.specs.declared.role_tree.RoleEntry.{RoleEntry}

-- What the entry says of its role.
abbrev pub entry_bounds : RoleEntry → RoleBounds
entry_bounds entry = record {
  path = entry.path.items;
  match_persons = entry.match_persons;
  min_persons = entry.min_persons;
  max_persons = entry.max_persons;
}

-- The bounds of a role that is seen from where this path leads.
abbrev pub bounds_below : List ℕ → RoleRow → RoleBounds
bounds_below path row = record {
  path = path ++ row.path;
  match_persons = row.match_persons;
  min_persons = row.min_persons;
  max_persons = row.max_persons;
}
