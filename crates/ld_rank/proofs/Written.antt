-- That the firing of a site changes only its mark and what the actions of its rule are on.
use Rattle.std.proofs.Common.{◌≡◌, refl, sym, subst, ℕ, ◌⊎◌, inl, inr, List, [], ◌∷◌, ◌++◌, fold, length, flat_map, Option, Some, None, Bool, true, false}
use Rattle.ld_base.specs.Maybe.{◌>>=◌}
use Rattle.ld_value.specs.Datum.{Datum, truth_datum}
use Rattle.ld_model.specs.declared.cell.CellName.{CellName}
use Rattle.ld_model.specs.declared.cell.CellName.TheVariants.{Now}
use Rattle.ld_model.specs.declared.cell.Owner.{Owner}
use Rattle.ld_model.specs.declared.cell.Owner.TheVariants.{Run, Person}
use Rattle.ld_model.specs.declared.completion.Change.{Change as ChangeOf}
use Rattle.ld_model.specs.declared.condition.Action.{Action}
use Rattle.ld_model.specs.declared.condition.Action.TheVariants.{Show, Hide, Change, Notify}
use Rattle.ld_model.specs.declared.unit.Unit.{Unit}
use Rattle.ld_names.specs.declared.rule.Rule.{Rule}
use Rattle.ld_names.specs.Names.{thing_number}
use Rattle.ld_names.specs.Rules.{Site}
use Rattle.ld_expr.specs.Lookup.{list_from}
use Rattle.ld_expr.specs.Seen.{visibility_cell, act_opened_cell}
use Rattle.ld_expr.specs.Terms.{term_value, cell_of_property}
use Rattle.ld_firing.specs.ActionCells.{action_cells, all_change_cells, change_cells, opened_act_cells, visible_cells}
use Rattle.ld_firing.specs.Actions.{Doing, nothing_done, differs, with_write, with_change, if_fitting, change_for, holder_named, owners_of_change, do_change, with_visible, set_visible, do_action, actions_of, opened_by, with_opening, rule_effect, firing_by, site_firing}
use Rattle.ld_state.specs.RunCells.{cell_if}
use Rattle.ld_state.specs.RunState.{RunState, seen_in}
use Rattle.ld_rules.specs.SiteTests.{site_test, site_mark, rule_of}
use Rattle.ld_state.proofs.Elements.{IsIn, in_left, in_right, in_either, in_flat_map}
use Rattle.ld_rank.specs.Feeding.{branch_writes, rule_writes}

-- What holds through a fold where each step keeps it.
fold_keeps : {A B : Type 0} → (P : B → Type 0) (f : B → A → B) (xs : List A)
    → ((b : B) (x : A) → IsIn xs x → P b → P (f b x)) → (b : B) → P b → P (fold f b xs)
fold_keeps P f [] each b holds = holds
fold_keeps P f (x ∷ xs) each b holds =
    fold_keeps P f xs (λ c y there. each c y (inr there)) (f b x) (each b x (inl refl) holds)

in_cell_if : (b : Bool) (cell c : CellName) → IsIn (cell_if b cell) c → cell ≡ c
in_cell_if true cell c (inl is) = is
in_cell_if true cell c (inr later) = absurd later
in_cell_if false cell c there = absurd there

-- There are this many persons, and all that was changed is among these cells.
record Within (persons : ℕ) (cells : List CellName) (doing : Doing) : Type 0 where
  counted : length doing.state.persons ≡ persons
  changes : (c : CellName) → IsIn doing.changes c → IsIn cells c

module _ (unit : Unit) (persons : ℕ) (cells : List CellName) where
  write_within : (doing : Doing) (cell : CellName) (value : Option Datum) → IsIn cells cell
      → Within persons cells doing → Within persons cells (with_write doing cell value)
  write_within doing cell value inside so = record {
    counted = so.counted;
    changes = λ c there.
        elim (in_either doing.changes (cell_if (differs (doing.state.cells cell) value) cell) c there) [
          | inl early ↦ so.changes c early
          | inr last ↦ subst (IsIn cells) (in_cell_if (differs (doing.state.cells cell) value) cell c last) inside
        ];
  }

  change_within : (doing : Doing) (cell : Option CellName) (value : Option Datum)
      → ((c : CellName) → cell ≡ Some c → IsIn cells c)
      → Within persons cells doing → Within persons cells (with_change doing cell value)
  change_within doing (Some c) (Some v) inside so = write_within doing c (Some v) (inside c refl) so
  change_within doing (Some c) None inside so = record { counted = so.counted; changes = so.changes }
  change_within doing None (Some v) inside so = record { counted = so.counted; changes = so.changes }
  change_within doing None None inside so = record { counted = so.counted; changes = so.changes }

  looked_cell : (o : Option CellName) (c : CellName) → o ≡ Some c → IsIn (list_from (λ cell. cell ∷ []) o) c
  looked_cell o c is = subst (λ found. IsIn (list_from (λ cell. cell ∷ []) found) c) (sym is) (inl refl)

  change_for_within : (change : ChangeOf) (owner : Owner) (doing : Doing)
      → ((c : CellName) → IsIn (change_cells unit change owner) c → IsIn cells c)
      → Within persons cells doing → Within persons cells (change_for unit change doing owner)
  change_for_within change owner doing inside so =
      change_within doing (cell_of_property unit owner change.property)
      (term_value unit (seen_in unit doing.state) owner change.value >>= if_fitting unit change.property)
      (λ c is. inside c (looked_cell (cell_of_property unit owner change.property) c is))
      so

  do_change_within : (owner : Owner) (change : ChangeOf) (doing : Doing)
      → ((c : CellName) → IsIn (all_change_cells unit persons owner change) c → IsIn cells c)
      → Within persons cells doing → Within persons cells (do_change unit owner doing change)
  do_change_within owner change doing inside so =
      let holder = holder_named unit change.property in
      subst (λ n. Within persons cells (fold (change_for unit change) doing (owners_of_change holder n owner))) (sym so.counted)
      (fold_keeps (Within persons cells) (change_for unit change) (owners_of_change holder persons owner)
      (λ now one there so_now. change_for_within change one now
      (λ c looked. inside c (in_flat_map (change_cells unit change) (owners_of_change holder persons owner) one c there looked))
      so_now)
      doing so)

  visible_within : (p : ℕ) (visible : Bool) (doing : Doing) (thing : Option ℕ)
      → ((c : CellName) → IsIn (list_from (λ t. visibility_cell t p ∷ []) thing) c → IsIn cells c)
      → Within persons cells doing → Within persons cells (with_visible p visible doing thing)
  visible_within p visible doing None inside so = so
  visible_within p visible doing (Some t) inside so =
      write_within doing (visibility_cell t p) (Some (truth_datum visible)) (inside (visibility_cell t p) (inl refl)) so

  set_visible_within : (owner : Owner) (visible : Bool) (doing : Doing) (id : List ℕ)
      → ((c : CellName) → IsIn (visible_cells unit owner id) c → IsIn cells c)
      → Within persons cells doing → Within persons cells (set_visible unit owner visible doing id)
  set_visible_within Run visible doing id inside so = so
  set_visible_within (Person p) visible doing id inside so =
      visible_within p.0 visible doing (thing_number unit id) inside so

  all_visible_within : (owner : Owner) (visible : Bool) (things : List (List ℕ)) (doing : Doing)
      → ((c : CellName) → IsIn (flat_map (visible_cells unit owner) things) c → IsIn cells c)
      → Within persons cells doing → Within persons cells (fold (set_visible unit owner visible) doing things)
  all_visible_within owner visible things doing inside so =
      fold_keeps (Within persons cells) (set_visible unit owner visible) things
      (λ now id there so_now. set_visible_within owner visible now id
      (λ c seen. inside c (in_flat_map (visible_cells unit owner) things id c there seen))
      so_now)
      doing so

  action_within : (owner : Owner) (action : Action) (doing : Doing)
      → ((c : CellName) → IsIn (action_cells unit persons owner action) c → IsIn cells c)
      → Within persons cells doing → Within persons cells (do_action unit owner doing action)
  action_within owner (Show things) doing inside so = all_visible_within owner true things doing inside so
  action_within owner (Hide things) doing inside so = all_visible_within owner false things doing inside so
  action_within owner (Change change) doing inside so = do_change_within owner change doing inside so
  action_within owner (Notify notice) doing inside so = record { counted = so.counted; changes = so.changes }

  actions_within : (owner : Owner) (actions : List Action) (doing : Doing)
      → ((c : CellName) → IsIn (flat_map (action_cells unit persons owner) actions) c → IsIn cells c)
      → Within persons cells doing → Within persons cells (fold (do_action unit owner) doing actions)
  actions_within owner actions doing inside so =
      fold_keeps (Within persons cells) (do_action unit owner) actions
      (λ now action there so_now. action_within owner action now
      (λ c written. inside c (in_flat_map (action_cells unit persons owner) actions action c there written))
      so_now)
      doing so

  opening_within : (thing : Option ℕ) (doing : Doing)
      → ((c : CellName) → IsIn (list_from (λ t. act_opened_cell t ∷ []) thing) c → IsIn cells c)
      → Within persons cells doing → Within persons cells (with_opening doing thing)
  opening_within None doing inside so = so
  opening_within (Some t) doing inside so =
      write_within doing (act_opened_cell t) (doing.state.cells Now)
      (inside (act_opened_cell t) (inl refl)) so

  -- What one of the branches writes.
  in_branch : (owner : Owner) (rule : Rule) (verdict : Bool) (c : CellName)
      → IsIn (branch_writes unit persons owner rule verdict) c → IsIn (rule_writes unit persons owner rule) c
  in_branch owner rule true c there =
      in_right (opened_act_cells unit rule) (branch_writes unit persons owner rule true ++ branch_writes unit persons owner rule false) c
      (in_left (branch_writes unit persons owner rule true) (branch_writes unit persons owner rule false) c there)
  in_branch owner rule false c there =
      in_right (opened_act_cells unit rule) (branch_writes unit persons owner rule true ++ branch_writes unit persons owner rule false) c
      (in_right (branch_writes unit persons owner rule true) (branch_writes unit persons owner rule false) c there)

  effect_within : (owner : Owner) (rule : Rule) (verdict : Bool) (doing : Doing)
      → ((c : CellName) → IsIn (rule_writes unit persons owner rule) c → IsIn cells c)
      → Within persons cells doing → Within persons cells (rule_effect unit owner rule verdict doing)
  effect_within owner rule verdict doing inside so =
      actions_within owner (actions_of unit rule verdict) (with_opening doing (opened_by unit rule))
      (λ c there. inside c (in_branch owner rule verdict c there))
      (opening_within (opened_by unit rule) doing
      (λ c there. inside c (in_left (opened_act_cells unit rule)
      (branch_writes unit persons owner rule true ++ branch_writes unit persons owner rule false) c there))
      so)

-- A firing changes nothing but the site's mark and what the actions of its rule are on.
pub firing_writes : (unit : Unit) (s : RunState) (site : Site) (c : CellName)
    → IsIn (site_firing unit s site).changes c
    → (site_mark site ≡ c) ⊎ IsIn (list_from (rule_writes unit (length s.persons) site.owner) (rule_of unit site)) c
unfolding site_firing
firing_writes unit s site c = by (rule_of unit site)
  where
    by : (found : Option Rule)
        → IsIn (elim found as (λ _. Doing) [ None ↦ nothing_done s | Some r ↦ firing_by unit s site r ]).changes c
        → (site_mark site ≡ c) ⊎ IsIn (list_from (rule_writes unit (length s.persons) site.owner) found) c
    by None there = absurd there
    by (Some rule) there =
        let cells = site_mark site ∷ rule_writes unit (length s.persons) site.owner rule in
        let verdict = site_test unit (seen_in unit s) site in
        let first : Within (length s.persons) cells (nothing_done s) = record { counted = refl; changes = λ d none. absurd none } in
        let marked = write_within unit (length s.persons) cells (nothing_done s) (site_mark site) (Some (truth_datum verdict)) (inl refl) first in
        (effect_within unit (length s.persons) cells site.owner rule verdict
        (with_write (nothing_done s) (site_mark site) (Some (truth_datum verdict)))
        (λ d written. inr written) marked).changes c there
