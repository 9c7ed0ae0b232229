use Rattle.std.proofs.Common.{◌++◌, map, refl, ap, ◌∙◌}
use Rattle.std.proofs.lemmas.List.{map-append}
use Rattle.ld_model.specs.RoleRows.{rows_within}
use Rattle.ld_model.specs.RoleViews.{own_row}
use Rattle.ld_roles.specs.Entries.{entry_bounds, bounds_below}
use Rattle.ld_roles.proofs.RolePaths.{rows_below, own_first}
use Rattle.ld_roles.proofs.role_tree.+collect.Goals as goal

pub collect_nth_role-returns-clause-rows : goal.collect_nth_role-returns-clause-rows
collect_nth_role-returns-clause-rows t c =
    rw (c.in_ok-collect_role.ensures.rows, c.in_ok-push.ensures.items, rows_below c.args.path.now.items c.args.index c.args.role.now) refl

pub collect_role-returns-clause-rows : goal.collect_role-returns-clause-rows
collect_role-returns-clause-rows t c =
    let within = rw c.deref-2.ensures.value at c.in_ok-collect_roles.ensures.rows in
    let before = map entry_bounds c.args.rows.now.items in
    within
    ∙ ap (λ items. map entry_bounds items ++ map (bounds_below c.args.path.now.items) (rows_within c.role.inside.roles.items)) c.in_ok-push.ensures.items
    ∙ ap (λ front. front ++ map (bounds_below c.args.path.now.items) (rows_within c.role.inside.roles.items)) (map-append entry_bounds c.args.rows.now.items _)
    ∙ own_first before c.args.path.now.items _ (own_row c.role.inside) (rows_within c.role.inside.roles.items) (c.in_ok-from_slice.ensures.items ∙ c.deref.ensures.value) refl refl refl refl
    ∙ ap (λ rows. before ++ map (bounds_below c.args.path.now.items) rows) c.role.view_is
