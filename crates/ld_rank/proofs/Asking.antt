-- What is told of the cells at which a rule looks: those that no firing writes are passed over.
use Rattle.std.proofs.Common.{◌≡◌, refl, sym, ap, ◌∙◌, ℕ, List, [], ◌∷◌, ◌++◌, flat_map, fold, map, Option, Some, None, false, is_some, if◌then◌else◌, append-nil}
use Rattle.std.proofs.lemmas.List.Sums.{fold-append}
use Rattle.std.specs.List.{list_any}
use Rattle.ld_model.specs.Expressions.{TestOf}
use Rattle.ld_model.specs.declared.activity.Activity.{Activity}
use Rattle.ld_model.specs.declared.cell.CellName.{CellName}
use Rattle.ld_model.specs.declared.method.Act.{Act}
use Rattle.ld_model.specs.declared.method.RolePart.{RolePart}
use Rattle.ld_model.specs.declared.unit.Unit.{Unit}
use Rattle.ld_names.specs.Names.{role_number}
use Rattle.ld_expr.specs.Looks.{done_looks, members_looks, test_looks}
use Rattle.ld_expr.specs.Lookup.{list_from, environment_named}
use Rattle.ld_expr.specs.Membership.{members, members_of}
use Rattle.ld_expr.specs.Owners.{of_person}
use Rattle.ld_expr.specs.Seen.{everyone, member_cell}
use Rattle.ld_rules.specs.SiteLooks.{cell_list, completion_looks_if, reaching_roles, site_activity_looks, site_part_looks, site_target_looks}
use Rattle.ld_rules.specs.SiteTests.{activity_completing, opening_cell}
use Rattle.ld_rank.specs.Alone.{is_fed, seen_alone, users_looks}
use Rattle.ld_rank.specs.Telling.{then_cell}
use Rattle.ld_rank.proofs.Lone.{members_alone}
use Rattle.ld_rank.proofs.Told.{passed_over}

-- ---- cells that no firing writes

unfed_persons : (r : ℕ) (persons : List ℕ) → list_any is_fed (map (member_cell r) persons) ≡ false
unfed_persons r [] = refl
unfed_persons r (p ∷ persons) = unfed_persons r persons

unfed_roles : (p : ℕ) (roles : List ℕ) → list_any is_fed (map (λ r. member_cell r p) roles) ≡ false
unfed_roles p [] = refl
unfed_roles p (r ∷ roles) = unfed_roles p roles

unfed_members : (unit : Unit) (role : List ℕ) → list_any is_fed (members_looks unit (seen_alone unit) role) ≡ false
unfed_members unit role = by (role_number unit role)
  where
    by : (number : Option ℕ) → list_any is_fed (list_from (λ r. map (member_cell r) (everyone (seen_alone unit))) number) ≡ false
    by None = refl
    by (Some r) = unfed_persons r (everyone (seen_alone unit))

-- What is passed over before other cells.
passed_first : {T : Type 0} (after : T → CellName → Option T) (told : Option T) (first rest : List CellName)
    → list_any is_fed first ≡ false → fold (then_cell after) told (first ++ rest) ≡ fold (then_cell after) told rest
passed_first after told first rest unfed =
    fold-append (then_cell after) told first rest ∙ ap (λ now. fold (then_cell after) now rest) (passed_over after told first unfed)

-- ---- what is looked at for the members of a role

-- What is looked at for each member is looked at for that run's one person.
for_the_one : (unit : Unit) (role : List ℕ) (r : ℕ) (f : ℕ → List CellName) → Some r ≡ role_number unit role
    → flat_map f (members_of unit (seen_alone unit) role) ≡ f 0
for_the_one unit role r f is =
    ap (λ number. flat_map f (list_from (members (seen_alone unit)) number)) (sym is)
    ∙ ap (flat_map f) (members_alone unit role r (sym is))
    ∙ append-nil (f 0)

pub users_told : {T : Type 0} (after : T → CellName → Option T) (told : Option T) (unit : Unit) (role : List ℕ) (test : TestOf) (r : ℕ)
    → Some r ≡ role_number unit role
    → fold (then_cell after) told (users_looks unit role test) ≡ fold (then_cell after) told (test_looks unit (seen_alone unit) (of_person 0) test)
users_told after told unit role test r is =
    let looks = λ (p : ℕ). test_looks unit (seen_alone unit) (of_person p) test in
    passed_first after told (members_looks unit (seen_alone unit) role) (flat_map looks (members_of unit (seen_alone unit) role)) (unfed_members unit role)
    ∙ ap (fold (then_cell after) told) (for_the_one unit role r looks is)

pub target_looks : (unit : Unit) (part : RolePart) (r : ℕ) → Some r ≡ role_number unit part.role
    → is_some (environment_named unit part.target) ≡ false
    → site_target_looks unit (seen_alone unit) part ≡ done_looks unit (seen_alone unit) (of_person 0) part.target
target_looks unit part r is nothing =
    let looks = λ (p : ℕ). done_looks unit (seen_alone unit) (of_person p) part.target in
    ap (λ b. if b then [] else flat_map looks (members_of unit (seen_alone unit) part.role)) nothing
    ∙ for_the_one unit part.role r looks is

-- Of a role-part the opening and the target are told.
pub part_told : {T : Type 0} (after : T → CellName → Option T) (told : Option T) (unit : Unit) (act : Act) (part : RolePart)
    → fold (then_cell after) told (site_part_looks unit (seen_alone unit) act part) ≡ fold (then_cell after) (fold (then_cell after) told (cell_list (opening_cell unit act))) (site_target_looks unit (seen_alone unit) part)
part_told after told unit act part =
    let opening = cell_list (opening_cell unit act) in
    let target = site_target_looks unit (seen_alone unit) part in
    fold-append (then_cell after) told opening (members_looks unit (seen_alone unit) part.role ++ target)
    ∙ passed_first after (fold (then_cell after) told opening) (members_looks unit (seen_alone unit) part.role) target (unfed_members unit part.role)

-- Of an activity what its completion rule asks is told.
pub activity_told : {T : Type 0} (after : T → CellName → Option T) (told : Option T) (unit : Unit) (activity : Activity)
    → fold (then_cell after) told (site_activity_looks unit (seen_alone unit) 0 activity) ≡ fold (then_cell after) told (completion_looks_if unit (seen_alone unit) (activity_completing unit 0 activity) activity.complete)
activity_told after told unit activity =
    passed_first after told (map (λ r. member_cell r 0) (reaching_roles unit activity.identifier))
    (completion_looks_if unit (seen_alone unit) (activity_completing unit 0 activity) activity.complete)
    (unfed_roles 0 (reaching_roles unit activity.identifier))
