-- That in a unit in which no check finds a fault each cell at which the test of a site looks is one of the run: the
-- rules of each kind, and the sites.
use Rattle.std.proofs.Common.{◌≡◌, refl, sym, ap, subst, ℕ, zero, suc, ◌<◌, ◌⊎◌, inl, inr, List, [], ◌∷◌, ◌++◌, length, map, flat_map, slice_get, Option, Some, None, Bool, true, false, is_some, codes, if◌then◌else◌}
use Rattle.std.specs.List.{last_or}
use Rattle.std.specs.Option.{option_map}
use Rattle.ld_base.specs.Maybe.{◌>>=◌}
use Rattle.ld_base.specs.Numbers.{numbers_below}
use Rattle.ld_json.specs.declared.file.FileNo.TheVariants as file
use Rattle.ld_model.specs.Counting.{each_numbered}
use Rattle.ld_model.specs.Roles.{roles_of}
use Rattle.ld_model.specs.declared.activity.Activity.{Activity as ActivityOf}
use Rattle.ld_model.specs.declared.cell.CellName.{CellName}
use Rattle.ld_model.specs.declared.cell.CellName.TheVariants.{Started}
use Rattle.ld_model.specs.declared.cell.Owner.{Owner}
use Rattle.ld_model.specs.declared.cell.Owner.TheVariants.{Run}
use Rattle.ld_model.specs.declared.condition.Condition.{Condition}
use Rattle.ld_model.specs.declared.method.Act.{Act as ActOf}
use Rattle.ld_model.specs.declared.method.Play.{Play as PlayOf}
use Rattle.ld_model.specs.declared.method.RolePart.{RolePart as RolePartOf}
use Rattle.ld_model.specs.declared.unit.Unit.{Unit}
use Rattle.ld_walk.specs.CommonParts.{shown_part, unshown_part, items_parts}
use Rattle.ld_walk.specs.ExpressionParts.{test_parts}
use Rattle.ld_walk.specs.Places.{root, member, nth}
use Rattle.ld_walk.specs.declared.kind.Kind.TheVariants as kind
use Rattle.ld_walk.specs.declared.place.Place.TheVariants.{Play, Act, Activity}
use Rattle.ld_parts.specs.Listing.{ending_parts, parts_before_items, activity_parts_at, role_part_parts, act_parts, act_parts_at, play_parts, play_parts_at, method_at, method_parts, condition_parts_at}
use Rattle.ld_names.specs.declared.rule.Rule.{Rule}
use Rattle.ld_names.specs.declared.rule.Rule.TheVariants.{CompletesActivity, CompletesStructure, OpensAct, CompletesPart, CompletesAct, CompletesPlay, CompletesUnit, JudgesCondition}
use Rattle.ld_names.specs.Rules.{Site, kind_of, is_for_persons}
use Rattle.ld_refs.specs.Extents.{play_at, act_at, role_part_at}
use Rattle.ld_expr.specs.Looks.{done_looks, members_looks, test_looks}
use Rattle.ld_expr.specs.Lookup.{is_some_and, list_from, environment_named}
use Rattle.ld_expr.specs.Membership.{members_of}
use Rattle.ld_expr.specs.Owners.{of_person}
use Rattle.ld_expr.specs.Seen.{Seen, member_cell, chosen_cell, opened_cell, act_opened_cell}
use Rattle.ld_state.specs.RunCells.{all_cells, cell_if, is_act_place, is_activity_place}
use Rattle.ld_rules.specs.SiteLooks.{cell_list, all_done_looks, completion_looks_if, role_reaches, reaching_roles, site_activity_looks, site_target_looks, site_part_looks, site_act_looks, person_looks, run_looks, rule_looks, looks_by, open_looks, site_looks}
use Rattle.ld_rules.specs.SiteTests.{activity_completing, act_completing, play_completing, unit_completing, opening_cell, says_for_good, is_latched, site_mark, rule_of}
use Rattle.ld_state.proofs.Elements.{IsIn, in_left, in_right, in_filter, is_below, from_flat_map, from_map, none_is_some, some_same, stands_in}
use Rattle.ld_firing.proofs.CellsThere.{AreCells, both_are_cells, one_is_cell, started_there, mark_there, member_there, chosen_there, opened_there, opening_there}
use Rattle.ld_firing.proofs.LooksThere.{run_speaks, one_speaks, no_cells, cell_of_thing, of_members_there, test_there, ending_there}
use Rattle.ld_firing.proofs.Named.{IsThing, done_there, run_done_there, members_looks_there}
use Rattle.ld_firing.proofs.MetChecks.{AreMet, MeetsChecks, declared_thing, activity_listed, condition_listed, method_listed, play_listed, act_listed}
use Rattle.ld_firing.proofs.Sites.{IsOwner, a_person, the_run}

pub cells_from : {A : Type 0} → (unit : Unit) (persons : ℕ) (looks : A → List CellName) (o : Option A)
    → ((x : A) → o ≡ Some x → AreCells unit persons (looks x)) → AreCells unit persons (list_from looks o)
cells_from unit persons looks None each c inside = absurd inside
cells_from unit persons looks (Some x) each c inside = each x refl c inside

cells_if : (unit : Unit) (persons : ℕ) (there : Bool) (cell : CellName) → IsIn (all_cells unit persons) cell
    → AreCells unit persons (cell_if there cell)
cells_if unit persons true cell inside c is = one_is_cell unit persons cell inside c is
cells_if unit persons false cell inside c none = absurd none

cells_unless : (unit : Unit) (persons : ℕ) (nothing : Bool) (cells : List CellName)
    → AreCells unit persons cells → AreCells unit persons (if nothing then [] else cells)
cells_unless unit persons true cells are c none = absurd none
cells_unless unit persons false cells are c inside = are c inside

-- The last of a list is in it.
last_in : {A : Type 0} → (xs : List A) (before : Option A) (x : A) → last_or before xs ≡ Some x
    → (before ≡ Some x) ⊎ IsIn xs x
last_in [] before x is = inl is
last_in (y ∷ ys) before x is = elim (last_in ys (Some y) x is) [ inl here ↦ inr (inl (some_same here)) | inr later ↦ inr (inr later) ]

-- An act, and the play in which it is.
pub record IsAct (unit : Unit) (p a : ℕ) (act : ActOf) : Type 0 where
  play : PlayOf
  at : slice_get unit.method.plays p ≡ Some play
  within : slice_get play.acts a ≡ Some act

pub act_of : (unit : Unit) (p a : ℕ) (act : ActOf) → act_at unit p a ≡ Some act → IsAct unit p a act
act_of unit p a act is = by (slice_get unit.method.plays p) refl is
  where
    by : (play : Option PlayOf) → slice_get unit.method.plays p ≡ play
        → (play >>= λ one. slice_get one.acts a) ≡ Some act → IsAct unit p a act
    by None at is = none_is_some is
    by (Some play) at is = record { play = play; at = at; within = is }

module _ (unit : Unit) (meets : MeetsChecks unit) where
  -- ---- what is declared

  activity_is : (n : ℕ) (activity : ActivityOf) → slice_get unit.activities n ≡ Some activity
      → IsThing unit activity.identifier (Activity n)
  unfolding activity_parts_at
  activity_is n activity at =
      let part = shown_part (nth (root file.Activities) (codes "activities") n) (Activity n) activity.identifier activity.visible in
      declared_thing unit meets.distinct part (Activity n) activity.identifier (Some activity.visible) refl
      (activity_listed unit n activity part at (inl refl))

  pub act_is : (p a : ℕ) (act : ActOf) → IsAct unit p a act → IsThing unit act.identifier (Act p a)
  unfolding act_parts_at
  act_is p a act found =
      let part = unshown_part (nth (nth method_at (codes "plays") p) (codes "acts") a) (Act p a) act.identifier in
      declared_thing unit meets.distinct part (Act p a) act.identifier None refl
      (act_listed unit p a found.play act part found.at found.within (inl refl))

  -- ---- where no check finds a fault

  pub activity_met : (n : ℕ) (activity : ActivityOf) → slice_get unit.activities n ≡ Some activity
      → AreMet unit (ending_parts (nth (root file.Activities) (codes "activities") n) (kind.Thing (Activity n)) activity.complete activity.on_completion)
  unfolding activity_parts_at
  activity_met n activity at part inside =
      let place = nth (root file.Activities) (codes "activities") n in
      meets.met part (activity_listed unit n activity part at
      (inr (in_right (parts_before_items place activity) _ part
      (in_right (items_parts place (codes "items") activity.items) _ part inside))))

  pub act_met : (p a : ℕ) (act : ActOf) → IsAct unit p a act
      → AreMet unit (ending_parts (nth (nth method_at (codes "plays") p) (codes "acts") a) (kind.Thing (Act p a)) act.complete act.on_completion)
  unfolding act_parts_at
  act_met p a act found part inside =
      meets.met part (act_listed unit p a found.play act part found.at found.within
      (inr (in_right (each_numbered (role_part_parts
      (nth (nth method_at (codes "plays") p) (codes "acts") a) p a) act.role_parts) _ part inside)))

  pub play_met : (p : ℕ) (play : PlayOf) → slice_get unit.method.plays p ≡ Some play
      → AreMet unit (ending_parts (nth method_at (codes "plays") p) (kind.Thing (Play p)) play.complete play.on_completion)
  unfolding play_parts_at
  play_met p play at part inside =
      meets.met part (play_listed unit p play part at
      (inr (in_right (each_numbered (act_parts (nth method_at (codes "plays") p) p) play.acts) _ part inside)))

  pub unit_met : AreMet unit (ending_parts method_at kind.Unit unit.method.complete unit.method.on_completion)
  unfolding method_parts
  unit_met part inside =
      meets.met part (method_listed unit part (in_right (each_numbered (play_parts method_at) unit.method.plays) _ part inside))

  condition_met : (n : ℕ) (condition : Condition) → slice_get unit.conditions n ≡ Some condition
      → AreMet unit (test_parts (member (nth (root file.Conditions) (codes "conditions") n) (codes "if")) false condition.test)
  unfolding condition_parts_at
  condition_met n condition at part inside =
      meets.met part (condition_listed unit n condition part at
      (inr (inr (in_left (test_parts (member (nth (root file.Conditions) (codes "conditions") n)
      (codes "if")) false condition.test) _ part inside))))

  module _ (seen : Seen) where
    -- ---- rules for a person

    activity_there : (n p : ℕ) (activity : ActivityOf) → slice_get unit.activities n ≡ Some activity
        → p < seen.persons → AreCells unit seen.persons (site_activity_looks unit seen p activity)
    activity_there n p activity at below =
        let thing = activity_is n activity at in
        let active = ap is_activity_place thing.placed in
        both_are_cells unit seen.persons (map (λ r. member_cell r p) (reaching_roles unit activity.identifier))
        (completion_looks_if unit seen (activity_completing unit p activity) activity.complete)
        (λ c inside. let by = from_map (λ r. member_cell r p) (reaching_roles unit activity.identifier) c inside in
        subst (λ name. IsIn (all_cells unit seen.persons) name) by.is
        (member_there unit seen.persons by.element p
        (is_below (length (roles_of unit)) by.element
        (in_filter (λ r. is_some_and (λ role. role_reaches unit activity.identifier role.identifier)
        (slice_get (roles_of unit) r)) (numbers_below (length (roles_of unit))) by.element by.inside))
        below))
        (ending_there unit seen (nth (root file.Activities) (codes "activities") n) (kind.Thing (Activity n))
        (activity_completing unit p activity)
        (record {
          speaker = one_speaks p below;
          chosen = cell_of_thing unit seen.persons activity.identifier (Activity n) (λ t. chosen_cell t p) thing (chosen_there unit seen.persons thing.number thing.entry p thing.at active below);
          start = cell_of_thing unit seen.persons activity.identifier (Activity n) (λ t. opened_cell t (of_person p)) thing (opened_there unit seen.persons thing.number thing.entry p thing.at active below);
          last = no_cells unit seen.persons;
        })
        activity.complete activity.on_completion (activity_met n activity at))

    -- What each person looks at of a list of things.
    all_done_there : (p : ℕ) (ids : List (List ℕ)) → p < seen.persons
        → AreCells unit seen.persons (all_done_looks unit seen (of_person p) ids)
    all_done_there p ids below c inside =
        let by = from_flat_map (done_looks unit seen (of_person p)) ids c inside in
        done_there unit seen p by.element below c by.gives

    person_there : (p : ℕ) → p < seen.persons → (rule : Rule)
        → AreCells unit seen.persons (person_looks unit seen p rule)
    person_there p below (CompletesActivity n) =
        cells_from unit seen.persons (site_activity_looks unit seen p) (slice_get unit.activities n)
        (λ activity at. activity_there n p activity at below)
    person_there p below (CompletesStructure n) =
        cells_from unit seen.persons (λ structure. all_done_looks unit seen (of_person p) structure.children)
        (slice_get unit.structures n) (λ structure at. all_done_there p structure.children below)
    person_there p below (JudgesCondition n) =
        cells_from unit seen.persons (λ condition. test_looks unit seen (of_person p) condition.test)
        (slice_get unit.conditions n)
        (λ condition at. test_there unit seen
        (member (nth (root file.Conditions) (codes "conditions") n) (codes "if")) false condition.test
        (condition_met n condition at) p below)
    person_there p below (OpensAct _ _) = no_cells unit seen.persons
    person_there p below (CompletesPart _ _ _) = no_cells unit seen.persons
    person_there p below (CompletesAct _ _) = no_cells unit seen.persons
    person_there p below (CompletesPlay _) = no_cells unit seen.persons
    person_there p below CompletesUnit = no_cells unit seen.persons

    -- ---- rules for the run

    pub opening_looked : (p a : ℕ) (act : ActOf) → IsAct unit p a act
        → AreCells unit seen.persons (cell_list (opening_cell unit act))
    opening_looked p a act found =
        let thing = act_is p a act found in
        cell_of_thing unit seen.persons act.identifier (Act p a) act_opened_cell thing
        (opening_there unit seen.persons thing.number thing.entry thing.at (ap is_act_place thing.placed))

    act_done_there : (p a : ℕ) (act : ActOf) → IsAct unit p a act
        → AreCells unit seen.persons (done_looks unit seen Run act.identifier)
    act_done_there p a act found = run_done_there unit seen act.identifier (Act p a) (act_is p a act found) refl

    part_there : (p a : ℕ) (act : ActOf) (part : RolePartOf) → IsAct unit p a act
        → AreCells unit seen.persons (site_part_looks unit seen act part)
    part_there p a act part found =
        let looks = flat_map (λ q. done_looks unit seen (of_person q) part.target) (members_of unit seen part.role) in
        both_are_cells unit seen.persons (cell_list (opening_cell unit act))
        (members_looks unit seen part.role ++ site_target_looks unit seen part) (opening_looked p a act found)
        (both_are_cells unit seen.persons (members_looks unit seen part.role) (site_target_looks unit seen part)
        (members_looks_there unit seen part.role)
        (cells_unless unit seen.persons (is_some (environment_named unit part.target)) looks
        (of_members_there unit seen (λ q. done_looks unit seen (of_person q) part.target) part.role
        (λ q below. done_there unit seen q part.target below))))

    act_there : (p a : ℕ) (act : ActOf) → IsAct unit p a act
        → AreCells unit seen.persons (site_act_looks unit seen act)
    act_there p a act found =
        both_are_cells unit seen.persons (cell_list (opening_cell unit act))
        (completion_looks_if unit seen (act_completing unit act) act.complete) (opening_looked p a act found)
        (ending_there unit seen (nth (nth method_at (codes "plays") p) (codes "acts") a) (kind.Thing (Act p a))
        (act_completing unit act)
        (record { speaker = run_speaks; chosen = no_cells unit seen.persons; start = opening_looked p a act found; last = no_cells unit seen.persons })
        act.complete act.on_completion (act_met p a act found))

    last_done_there : (p : ℕ) (play : PlayOf) → slice_get unit.method.plays p ≡ Some play
        → AreCells unit seen.persons (list_from (done_looks unit seen Run) (option_map (λ act. act.identifier) (last_or None play.acts)))
    last_done_there p play at = by (last_or None play.acts) refl
      where
        by : (last : Option ActOf) → last_or None play.acts ≡ last
            → AreCells unit seen.persons (list_from (done_looks unit seen Run) (option_map (λ act. act.identifier) last))
        by None is c inside = absurd inside
        by (Some act) is c inside = elim (last_in play.acts None act is) [
          | inl none ↦ none_is_some none
          | inr among ↦ let stands = stands_in play.acts act among in
              act_done_there p stands.number act (record { play = play; at = at; within = stands.at }) c inside
        ]

    play_there : (p : ℕ) (play : PlayOf) → slice_get unit.method.plays p ≡ Some play
        → AreCells unit seen.persons (completion_looks_if unit seen (play_completing play) play.complete)
    play_there p play at =
        ending_there unit seen (nth method_at (codes "plays") p) (kind.Thing (Play p)) (play_completing play)
        (record { speaker = run_speaks; chosen = no_cells unit seen.persons; start = one_is_cell unit seen.persons Started (started_there unit seen.persons); last = last_done_there p play at })
        play.complete play.on_completion (play_met p play at)

    unit_there : AreCells unit seen.persons (completion_looks_if unit seen unit_completing unit.method.complete)
    unit_there =
        ending_there unit seen method_at kind.Unit unit_completing
        (record { speaker = run_speaks; chosen = no_cells unit seen.persons; start = one_is_cell unit seen.persons Started (started_there unit seen.persons); last = no_cells unit seen.persons })
        unit.method.complete unit.method.on_completion unit_met

    run_there : (rule : Rule) → AreCells unit seen.persons (run_looks unit seen rule)
    run_there (OpensAct p zero) = no_cells unit seen.persons
    run_there (OpensAct p (suc a)) =
        cells_from unit seen.persons (λ act. done_looks unit seen Run act.identifier) (act_at unit p a)
        (λ act is. act_done_there p a act (act_of unit p a act is))
    run_there (CompletesPart p a r) =
        cells_from unit seen.persons (λ act. list_from (site_part_looks unit seen act) (role_part_at unit p a r)) (act_at unit p a)
        (λ act is. cells_from unit seen.persons (site_part_looks unit seen act) (role_part_at unit p a r)
        (λ part at. part_there p a act part (act_of unit p a act is)))
    run_there (CompletesAct p a) =
        cells_from unit seen.persons (site_act_looks unit seen) (act_at unit p a)
        (λ act is. act_there p a act (act_of unit p a act is))
    run_there (CompletesPlay p) =
        cells_from unit seen.persons (λ play. completion_looks_if unit seen (play_completing play) play.complete)
        (play_at unit p) (play_there p)
    run_there CompletesUnit = unit_there
    run_there (CompletesActivity _) = no_cells unit seen.persons
    run_there (CompletesStructure _) = no_cells unit seen.persons
    run_there (JudgesCondition _) = no_cells unit seen.persons

    -- ---- sites

    rule_there : (own : Bool) (owner : Owner) (rule : Rule) → IsOwner seen.persons own owner
        → AreCells unit seen.persons (rule_looks unit seen owner rule)
    rule_there own owner rule (a_person p below) = person_there p below rule
    rule_there own owner rule the_run = run_there rule

    looks_by_there : (site : Site) (rule : Rule) → rule_of unit site ≡ Some rule
        → IsOwner seen.persons (is_for_persons (kind_of rule)) site.owner
        → AreCells unit seen.persons (looks_by unit seen site rule)
    looks_by_there site rule ruled owned =
        both_are_cells unit seen.persons (cell_if (says_for_good rule) (site_mark site)) (rule_looks unit seen site.owner rule)
        (cells_if unit seen.persons (says_for_good rule) (site_mark site)
        (mark_there unit seen.persons site.rule rule site.owner ruled (is_for_persons (kind_of rule)) refl owned))
        (rule_there (is_for_persons (kind_of rule)) site.owner rule owned)

    -- A run has each cell at which the test of one of its sites looks.
    pub site_looks_there : (site : Site) (rule : Rule) → rule_of unit site ≡ Some rule
        → IsOwner seen.persons (is_for_persons (kind_of rule)) site.owner
        → AreCells unit seen.persons (site_looks unit seen site)
    unfolding site_looks
    site_looks_there site rule ruled owned = by (is_some_and (is_latched seen site) (rule_of unit site))
      where
        open_there : AreCells unit seen.persons (open_looks unit seen site)
        open_there =
            subst (λ (found : Option Rule). AreCells unit seen.persons (list_from (looks_by unit seen site) found)) (sym ruled)
            (looks_by_there site rule ruled owned)

        by : (latched : Bool)
            → AreCells unit seen.persons (if latched then site_mark site ∷ [] else open_looks unit seen site)
        by true =
            one_is_cell unit seen.persons (site_mark site)
            (mark_there unit seen.persons site.rule rule site.owner ruled (is_for_persons (kind_of rule)) refl owned)
        by false = open_there
