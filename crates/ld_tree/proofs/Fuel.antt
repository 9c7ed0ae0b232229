-- Lines and looks of environments and targets, where some may still stand below each other.
use Rattle.std.proofs.Common.{◌≡◌, ℕ, zero, suc, ◌+◌, ◌-◌, ◌<◌, List, [], ◌++◌, length, Option, Some, None, Bool, true, refl, ap, ◌∙◌, arith}
use Rattle.std.proofs.lemmas.List.{append-nil}
use Rattle.ld_base.specs.Maybe.{◌>>=◌}
use Rattle.ld_model.specs.declared.activity.Activity.{Activity}
use Rattle.ld_model.specs.declared.activity.Structure.{Structure}
use Rattle.ld_model.specs.declared.unit.Unit.{Unit}
use Rattle.ld_walk.specs.declared.place.Place.{Place}
use Rattle.ld_walk.specs.declared.place.Place.TheVariants as place
use Rattle.ld_expr.specs.Lookup.{list_from, activity_at, activity_named, environment_at, environment_named, place_named, structure_at, structure_named}
use Rattle.ld_expr.specs.Seen.{Seen}
use Rattle.ld_tree.specs.Lines.{TreeLine}
use Rattle.ld_tree.specs.Tree.{activity_lines, environment_lines, if_visible, is_visible, structure_lines, target_lines, within_lines}
use Rattle.ld_tree.specs.TreeLooks.{activity_looks, environment_looks, structure_looks, target_looks, visible_looks, within_looks}

one_more : (left : ℕ) → 0 < left → left ≡ suc (left - 1)
one_more left some = omega arith

pub environment_lines_more : (left : ℕ) (unit : Unit) (seen : Seen) (p depth : ℕ) (id : List ℕ) → 0 < left → environment_lines left unit seen p depth id ≡ if_visible unit seen p id (list_from (within_lines unit seen p depth (environment_lines (left - 1) unit seen p (depth + 1)) id) (environment_named unit id))
environment_lines_more left unit seen p depth id some = ap (λ n. environment_lines n unit seen p depth id) (one_more left some)

pub environment_looks_more : (left : ℕ) (unit : Unit) (seen : Seen) (p : ℕ) (id : List ℕ) → 0 < left → environment_looks left unit seen p id ≡ visible_looks unit seen p id ++ list_from (within_looks unit seen p (environment_looks (left - 1) unit seen p)) (environment_named unit id)
environment_looks_more left unit seen p id some = ap (λ n. environment_looks n unit seen p id) (one_more left some)

pub target_lines_more : (left : ℕ) (unit : Unit) (seen : Seen) (p depth : ℕ) (flag : Bool) (id : List ℕ) → 0 < left → target_lines left unit seen p depth (flag, id) ≡ if_visible unit seen p id (list_from (activity_lines unit seen p depth flag) (activity_named unit id) ++ (list_from (structure_lines unit seen p depth flag (target_lines (left - 1) unit seen p (depth + 1))) (structure_named unit id) ++ environment_lines (length unit.environments) unit seen p depth id))
target_lines_more left unit seen p depth flag id some = ap (λ n. target_lines n unit seen p depth (flag, id)) (one_more left some)

pub target_looks_more : (left : ℕ) (unit : Unit) (seen : Seen) (p : ℕ) (id : List ℕ) → 0 < left → target_looks left unit seen p id ≡ visible_looks unit seen p id ++ (list_from (activity_looks unit seen p) (activity_named unit id) ++ (list_from (structure_looks unit seen p (target_looks (left - 1) unit seen p)) (structure_named unit id) ++ environment_looks (length unit.environments) unit seen p id))
target_looks_more left unit seen p id some = ap (λ n. target_looks n unit seen p id) (one_more left some)

pub ruleset environments_more = (environment_lines_more, environment_looks_more)

pub ruleset targets_more = (target_lines_more, target_looks_more)

-- ---- what an identifier refers to is one thing

visible_lines : (unit : Unit) (seen : Seen) (p : ℕ) (id : List ℕ) (lines : List TreeLine) → is_visible unit seen p id ≡ true → if_visible unit seen p id lines ≡ lines
visible_lines unit seen p id lines visible = rw visible refl

only_activity : (unit : Unit) (activity : Activity) (place : Option Place) → (place >>= activity_at unit) ≡ Some activity → ((place >>= structure_at unit) ≡ None) × ((place >>= environment_at unit) ≡ None)
only_activity unit activity None named = cc
only_activity unit activity (Some (place.Activity a)) named = (refl, refl)
only_activity unit activity (Some (place.Play _)) named = cc
only_activity unit activity (Some (place.Act _ _)) named = cc
only_activity unit activity (Some (place.RolePart _ _ _)) named = cc
only_activity unit activity (Some (place.Structure _)) named = cc
only_activity unit activity (Some (place.Environment _)) named = cc
only_activity unit activity (Some (place.Object _ _)) named = cc
only_activity unit activity (Some (place.Service _ _)) named = cc
only_activity unit activity (Some place.Item) named = cc

only_structure : (unit : Unit) (structure : Structure) (place : Option Place) → (place >>= structure_at unit) ≡ Some structure → ((place >>= activity_at unit) ≡ None) × ((place >>= environment_at unit) ≡ None)
only_structure unit structure None named = cc
only_structure unit structure (Some (place.Structure s)) named = (refl, refl)
only_structure unit structure (Some (place.Play _)) named = cc
only_structure unit structure (Some (place.Act _ _)) named = cc
only_structure unit structure (Some (place.RolePart _ _ _)) named = cc
only_structure unit structure (Some (place.Activity _)) named = cc
only_structure unit structure (Some (place.Environment _)) named = cc
only_structure unit structure (Some (place.Object _ _)) named = cc
only_structure unit structure (Some (place.Service _ _)) named = cc
only_structure unit structure (Some place.Item) named = cc

no_environment : (n : ℕ) (unit : Unit) (seen : Seen) (p depth : ℕ) (id : List ℕ) → environment_named unit id ≡ None → is_visible unit seen p id ≡ true → environment_lines n unit seen p depth id ≡ []
no_environment zero unit seen p depth id none visible = refl
no_environment (suc n) unit seen p depth id none visible = rw (visible, none) refl

pub target_is_activity : (left : ℕ) (unit : Unit) (seen : Seen) (p depth : ℕ) (flag : Bool) (id : List ℕ) (activity : Activity) → 0 < left → is_visible unit seen p id ≡ true → activity_named unit id ≡ Some activity → target_lines left unit seen p depth (flag, id) ≡ activity_lines unit seen p depth flag activity
target_is_activity left unit seen p depth flag id activity some visible named =
    let others = only_activity unit activity (place_named unit id) named in
    target_lines_more left unit seen p depth flag id some ∙ visible_lines unit seen p id _ visible ∙ rw (named, others.0, no_environment (length unit.environments) unit seen p depth id others.1 visible) (append-nil (activity_lines unit seen p depth flag activity))

pub target_is_structure : (left : ℕ) (unit : Unit) (seen : Seen) (p depth : ℕ) (flag : Bool) (id : List ℕ) (structure : Structure) → 0 < left → is_visible unit seen p id ≡ true → structure_named unit id ≡ Some structure → target_lines left unit seen p depth (flag, id) ≡ structure_lines unit seen p depth flag (target_lines (left - 1) unit seen p (depth + 1)) structure
target_is_structure left unit seen p depth flag id structure some visible named =
    let others = only_structure unit structure (place_named unit id) named in
    target_lines_more left unit seen p depth flag id some ∙ visible_lines unit seen p id _ visible ∙ rw (named, others.0, no_environment (length unit.environments) unit seen p depth id others.1 visible) (append-nil (structure_lines unit seen p depth flag (target_lines (left - 1) unit seen p (depth + 1)) structure))
