use Rattle.std.proofs.Common.{◌≡◌, ◌++◌, map, drop}
use Rattle.ld_model.specs.Counting.{each_numbered_from}
use Rattle.ld_model.specs.RoleRows.{rows_of_one, rows_within}
use Rattle.ld_roles.specs.Entries.{entry_bounds, bounds_below}
use Rattle.ld_roles.proofs.role_tree.+collect.Given as goal

abbrev pub invariant-collect_roles-loop-index : goal.invariant-collect_roles-loop-index
invariant-collect_roles-loop-index l = record {
  path : l.path.items ≡ l.fn.path.items;
  rows : map entry_bounds l.rows.items ++ map (bounds_below l.fn.path.items) (each_numbered_from rows_of_one l.index (drop l.index l.roles)) ≡ map entry_bounds l.fn.rows.items ++ map (bounds_below l.fn.path.items) (rows_within l.roles);
}
