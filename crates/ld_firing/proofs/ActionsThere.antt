-- That in a unit in which no check finds a fault each cell that a firing writes is one of the run.
use Rattle.std.proofs.Common.{◌≡◌, refl, sym, ap, subst, ◌∙◌, ℕ, ◌+◌, ◌<◌, inl, inr, List, [], ◌∷◌, ◌++◌, map, flat_map, slice_get, Option, Some, None, Bool, true, false, codes, Contains}
use Rattle.std.specs.Option.{option_map_or}
use Rattle.ld_base.specs.Maybe.{◌>>=◌}
use Rattle.ld_base.specs.Numbers.{numbers_below}
use Rattle.ld_json.specs.declared.file.FileNo.TheVariants as file
use Rattle.ld_model.specs.Counting.{each_numbered}
use Rattle.ld_model.specs.declared.activity.Activity.{Activity as ActivityOf}
use Rattle.ld_model.specs.declared.cell.CellName.{CellName}
use Rattle.ld_model.specs.declared.cell.Owner.{Owner}
use Rattle.ld_model.specs.declared.completion.Change.{Change as ChangeOf}
use Rattle.ld_model.specs.declared.completion.OnCompletion.{OnCompletion}
use Rattle.ld_model.specs.declared.condition.Action.{Action}
use Rattle.ld_model.specs.declared.condition.Action.TheVariants as action
use Rattle.ld_model.specs.declared.condition.Condition.{Condition}
use Rattle.ld_model.specs.declared.method.Act.{Act as ActOf}
use Rattle.ld_model.specs.declared.method.Play.{Play as PlayOf}
use Rattle.ld_model.specs.declared.property.Property.{Property}
use Rattle.ld_model.specs.declared.unit.Unit.{Unit}
use Rattle.ld_walk.specs.CommonParts.{references_parts}
use Rattle.ld_walk.specs.ExpressionParts.{test_parts}
use Rattle.ld_walk.specs.Kinds.{allows, has_visibility}
use Rattle.ld_walk.specs.Parts.{Part}
use Rattle.ld_walk.specs.Places.{At, member, nth, item_at, root}
use Rattle.ld_walk.specs.declared.kind.Kind.{Kind}
use Rattle.ld_walk.specs.declared.kind.Kind.TheVariants as kind
use Rattle.ld_walk.specs.declared.kind.Wanted.TheVariants as wanted
use Rattle.ld_walk.specs.declared.place.Place.TheVariants.{Act}
use Rattle.ld_parts.specs.Listing.{condition_parts_at, action_parts, nth_action_parts}
use Rattle.ld_names.specs.Holders.{holder_of, is_held_by_persons}
use Rattle.ld_names.specs.declared.holder.Holder.{Holder}
use Rattle.ld_names.specs.declared.holder.Holder.TheVariants.{Run as HeldByRun, Persons as HeldByPersons}
use Rattle.ld_names.specs.declared.names.Named.{Named}
use Rattle.ld_names.specs.declared.names.Named.TheVariants.{Role, Thing, Prop, Unit as Whole}
use Rattle.ld_names.specs.declared.rule.Rule.{Rule}
use Rattle.ld_names.specs.declared.rule.Rule.TheVariants.{CompletesActivity, CompletesStructure, OpensAct, CompletesPart, CompletesAct, CompletesPlay, CompletesUnit, JudgesCondition}
use Rattle.ld_names.specs.Names.{names_of, named_by, thing_number}
use Rattle.ld_names.specs.Rules.{Site, is_for_persons, kind_of, sites_of}
use Rattle.ld_types.specs.Types.{property_at, property_named, is_person's}
use Rattle.ld_refs.specs.Extents.{act_at, play_at}
use Rattle.ld_refs.specs.Targets.{kind_by, nth_target_fault}
use Rattle.ld_expr.specs.Lookup.{list_from, property_among}
use Rattle.ld_expr.specs.Owners.{of_person}
use Rattle.ld_expr.specs.Seen.{visibility_cell, act_opened_cell, mark_cell}
use Rattle.ld_state.specs.RunCells.{is_act_place}
use Rattle.ld_firing.specs.ActionCells.{HasSlots, visible_cells, change_cells, all_change_cells, action_cells, actions_cells, opened_act_cells, firing_cells}
use Rattle.ld_firing.specs.Actions.{actions_in, actions_if, branch_of, actions_of, holder_named, owners_of_change}
use Rattle.ld_rules.specs.SiteTests.{rule_of}
use Rattle.ld_state.proofs.Elements.{IsIn, in_either, in_right, in_each, is_below, from_flat_map, from_map, nothing_of_each, some_same, different, stands_in}
use Rattle.ld_firing.proofs.CellsThere.{AreCells, both_are_cells, one_is_cell, mark_there, opening_there, visibility_there}
use Rattle.ld_firing.proofs.LooksThere.{no_cells}
use Rattle.ld_firing.proofs.Named.{held_as, thing_number_is, property_looks_there, run_property_looks_there}
use Rattle.ld_firing.proofs.MetChecks.{AreMet, met_left, met_right, MeetsChecks, IsAllowed, allowed_by, NamesSuch, thing_of_kind, condition_listed}
use Rattle.ld_firing.proofs.ChecksMet.{checks_met}
use Rattle.ld_firing.proofs.SlotsThere.{slots_there}
use Rattle.ld_refs.specs.Checks.{IsValid}
use Rattle.ld_names.proofs.Shown.{thing_shown}
use Rattle.ld_firing.proofs.RulesThere.{act_of, act_is}
use Rattle.ld_firing.proofs.Sites.{IsOwner, a_person, the_run, rule_listed}

-- ---- cells of lists

-- All cells that each element of a list gives.
each_there : {A : Type 0} → (unit : Unit) (persons : ℕ) (cells : A → List CellName) (xs : List A)
    → ((x : A) → IsIn xs x → AreCells unit persons (cells x)) → AreCells unit persons (flat_map cells xs)
each_there unit persons cells xs each c inside =
    let by = from_flat_map cells xs c inside in
    each by.element by.inside c by.gives

-- ---- changes

-- Whether each person has a value of the property that is named.
same_persons : (unit : Unit) (id : List ℕ)
    → is_held_by_persons (holder_named unit id) ≡ is_person's (property_named unit (names_of unit) id)
same_persons unit id = by (named_by (names_of unit) id)
  where
    of_property : (property : Option Property)
        → is_held_by_persons (option_map_or (holder_of unit) property HeldByRun) ≡ is_person's property
    of_property None = refl
    of_property (Some property) = held_as property.kind

    by : (named : Option Named)
        → is_held_by_persons (option_map_or (holder_of unit) ((named >>= property_among) >>= slice_get unit.properties) HeldByRun)
        ≡ is_person's (named >>= property_at unit)
    by None = refl
    by (Some Whole) = refl
    by (Some (Role _)) = refl
    by (Some (Thing _)) = refl
    by (Some (Prop p)) = of_property (slice_get unit.properties p.0)

module _ (unit : Unit) (persons : ℕ) where
  person_change_there : (p : ℕ) (change : ChangeOf) → p < persons
      → AreCells unit persons (change_cells unit change (of_person p))
  person_change_there p change below = property_looks_there unit persons p change.property below

  one_change_there : {own : Bool} (owner : Owner) (change : ChangeOf) → IsOwner persons own owner
      → is_held_by_persons (holder_named unit change.property) ≡ false
      → AreCells unit persons (change_cells unit change owner)
  one_change_there owner change (a_person p below) run = person_change_there p change below
  one_change_there owner change the_run run =
      run_property_looks_there unit persons change.property (sym (same_persons unit change.property) ∙ run)

  alone_there : (owner : Owner) (change : ChangeOf) → AreCells unit persons (change_cells unit change owner)
      → AreCells unit persons (flat_map (change_cells unit change) (owner ∷ []))
  alone_there owner change there =
      both_are_cells unit persons (change_cells unit change owner) [] there (no_cells unit persons)

  change_there : {own : Bool} (owner : Owner) (change : ChangeOf) → IsOwner persons own owner
      → AreCells unit persons (all_change_cells unit persons owner change)
  change_there owner change owned = by (holder_named unit change.property) refl owner owned
    where
      by : (holder : Holder) → holder_named unit change.property ≡ holder
          → {own : Bool} (one : Owner) → IsOwner persons own one
          → AreCells unit persons (flat_map (change_cells unit change) (owners_of_change holder persons one))
      by HeldByRun is one owned = alone_there one change (one_change_there one change owned (ap is_held_by_persons is))
      by HeldByPersons is one (a_person p below) = alone_there one change (person_change_there p change below)
      by HeldByPersons is one the_run =
          each_there unit persons (change_cells unit change) (map of_person (numbers_below persons))
          (λ other inside. let from = from_map of_person (numbers_below persons) other inside in
          subst (λ o. AreCells unit persons (change_cells unit change o)) from.is
          (person_change_there from.element change (is_below persons from.element from.inside)))

  -- ---- what is shown and hidden

  shown_allowed : (id : List ℕ) → IsAllowed unit wanted.Shown id
      → NamesSuch unit (λ place. has_visibility (kind.Thing place)) id
  shown_allowed id allowed = by allowed.kind allowed.is allowed.allowed
    where
      by : (k : Kind) → kind_by (names_of unit) id ≡ Some k → allows wanted.Shown k ≡ true
          → NamesSuch unit (λ place. has_visibility (kind.Thing place)) id
      by (kind.Thing place) is fits = record { place = place; thing = thing_of_kind unit id place is; such = fits }
      by kind.Unit is fits = different (sym fits)
      by kind.Role is fits = different (sym fits)
      by kind.Property is fits = different (sym fits)

  visible_there : (p : ℕ) (id : List ℕ) → p < persons → IsAllowed unit wanted.Shown id
      → AreCells unit persons (visible_cells unit (of_person p) id)
  visible_there p id below allowed =
      let names = shown_allowed id allowed in
      let thing = names.thing in
      subst (λ (number : Option ℕ). AreCells unit persons (list_from (λ n. visibility_cell n p ∷ []) number))
      (sym (thing_number_is unit id names.place thing))
      (one_is_cell unit persons (visibility_cell thing.number p)
      (visibility_there unit persons thing.number thing.entry p thing.at
      (thing_shown unit thing.number thing.entry thing.at
      (ap (λ place. has_visibility (kind.Thing place)) thing.placed ∙ names.such)) below))

  all_visible_there : (at : At) (name : List ℕ) (p : ℕ) (ids : List (List ℕ)) → p < persons
      → AreMet unit (references_parts at name wanted.Shown ids)
      → AreCells unit persons (flat_map (visible_cells unit (of_person p)) ids)
  all_visible_there at name p [] below met = no_cells unit persons
  all_visible_there at name p (first ∷ rest) below met =
      each_there unit persons (visible_cells unit (of_person p)) (first ∷ rest)
      (λ id inside.
      let none = nothing_of_each (nth_target_fault (names_of unit) wanted.Shown (member at name)) (first ∷ rest) 0 id (met _ (inl refl)).targets inside in
      visible_there p id below (allowed_by unit wanted.Shown (item_at (member at name) none.0) id none.1))

  -- ---- actions

  action_there : (at : At) (p : ℕ) (one : Action) → p < persons → AreMet unit (action_parts at one)
      → AreCells unit persons (action_cells unit persons (of_person p) one)
  unfolding action_parts
  action_there at p (action.Show things) below met = all_visible_there at (codes "show") p things below met
  action_there at p (action.Hide things) below met = all_visible_there at (codes "hide") p things below met
  action_there at p (action.Change change) below met = change_there (of_person p) change (a_person p below)
  action_there at p (action.Notify notice) below met = no_cells unit persons

  numbered_met : {A : Type 0} → (f : ℕ → A → List Part) (xs : List A) → AreMet unit (each_numbered f xs) → (x : A) → IsIn xs x
      → (k : ℕ) × AreMet unit (f k x)
  numbered_met f xs met x inside =
      let by = stands_in xs x inside in
      (by.number, λ part within. met part (in_each f xs by.number x part by.at within))

  actions_there : (at : At) (name : List ℕ) (p : ℕ) (actions : List Action) → p < persons
      → AreMet unit (each_numbered (nth_action_parts at name) actions)
      → AreCells unit persons (actions_cells unit persons (of_person p) actions)
  actions_there at name p actions below met =
      each_there unit persons (action_cells unit persons (of_person p)) actions
      (λ one inside. let by = numbered_met (nth_action_parts at name) actions met one inside in
      action_there (nth at name by.0) p one below by.1)

  -- What follows a completion: changes and notices.
  follows_there : {own : Bool} (owner : Owner) (follows : Option OnCompletion) → IsOwner persons own owner
      → AreCells unit persons (actions_cells unit persons owner (actions_if follows))
  follows_there owner None owned = no_cells unit persons
  follows_there owner (Some follows) owned =
      each_there unit persons (action_cells unit persons owner) (actions_in follows) each
    where
      each : (one : Action) → IsIn (actions_in follows) one → AreCells unit persons (action_cells unit persons owner one)
      each one inside = elim (in_either (map action.Change follows.change) (map action.Notify follows.notify) one inside) [
        | inl early ↦
            let from = from_map action.Change follows.change one early in
            subst (λ a. AreCells unit persons (action_cells unit persons owner a)) from.is
            (change_there owner from.element owned)
        | inr late ↦
            let from = from_map action.Notify follows.notify one late in
            subst (λ a. AreCells unit persons (action_cells unit persons owner a)) from.is (no_cells unit persons)
      ]

  -- ---- rules

  actions_from : {A : Type 0} → (owner : Owner) (actions : A → List Action) (o : Option A)
      → ((x : A) → o ≡ Some x → AreCells unit persons (actions_cells unit persons owner (actions x)))
      → AreCells unit persons (actions_cells unit persons owner (list_from actions o))
  actions_from owner actions None each = no_cells unit persons
  actions_from owner actions (Some x) each = each x refl

  condition_actions_there : MeetsChecks unit → (n p : ℕ) (verdict : Bool) (condition : Condition)
      → slice_get unit.conditions n ≡ Some condition → p < persons
      → AreCells unit persons (actions_cells unit persons (of_person p) (branch_of verdict condition))
  unfolding condition_parts_at
  condition_actions_there meets n p verdict condition at below = by verdict
    where
      branches : AreMet unit (each_numbered (nth_action_parts (nth (root file.Conditions) (codes "conditions") n) (codes "then")) condition.yes ++ each_numbered (nth_action_parts (nth (root file.Conditions) (codes "conditions") n) (codes "else")) condition.no)
      branches part inside =
          meets.met part (condition_listed unit n condition part at
          (inr (inr (in_right (test_parts (member (nth (root file.Conditions) (codes "conditions") n) (codes "if")) false condition.test) _ part inside))))

      by : (b : Bool) → AreCells unit persons (actions_cells unit persons (of_person p) (branch_of b condition))
      by true = actions_there (nth (root file.Conditions) (codes "conditions") n) (codes "then") p condition.yes below (met_left unit _ _ branches)
      by false = actions_there (nth (root file.Conditions) (codes "conditions") n) (codes "else") p condition.no below (met_right unit _ _ branches)

  -- The actions of a rule that is judged for this owner.
  rule_actions_there : MeetsChecks unit → (owner : Owner) (rule : Rule) (verdict : Bool)
      → IsOwner persons (is_for_persons (kind_of rule)) owner
      → AreCells unit persons (actions_cells unit persons owner (actions_of unit rule verdict))
  rule_actions_there meets owner (CompletesActivity n) verdict owned =
      actions_from owner (λ (activity : ActivityOf). actions_if activity.on_completion) (slice_get unit.activities n)
      (λ activity at. follows_there owner activity.on_completion owned)
  rule_actions_there meets owner (CompletesStructure n) verdict owned = no_cells unit persons
  rule_actions_there meets owner (OpensAct p a) verdict owned = no_cells unit persons
  rule_actions_there meets owner (CompletesPart p a r) verdict owned = no_cells unit persons
  rule_actions_there meets owner (CompletesAct p a) verdict owned =
      actions_from owner (λ (act : ActOf). actions_if act.on_completion) (act_at unit p a)
      (λ act at. follows_there owner act.on_completion owned)
  rule_actions_there meets owner (CompletesPlay p) verdict owned =
      actions_from owner (λ (play : PlayOf). actions_if play.on_completion) (play_at unit p)
      (λ play at. follows_there owner play.on_completion owned)
  rule_actions_there meets owner CompletesUnit verdict owned = follows_there owner unit.method.on_completion owned
  rule_actions_there meets owner (JudgesCondition n) verdict owned = by owner owned
    where
      by : (one : Owner) → IsOwner persons true one
          → AreCells unit persons (actions_cells unit persons one (list_from (branch_of verdict) (slice_get unit.conditions n)))
      by _ (a_person p below) =
          actions_from (of_person p) (branch_of verdict) (slice_get unit.conditions n)
          (λ condition at. condition_actions_there meets n p verdict condition at below)

  -- The act that a rule opens.
  opening_cell_there : MeetsChecks unit → (rule : Rule) → AreCells unit persons (opened_act_cells unit rule)
  opening_cell_there meets (OpensAct p a) = by (act_at unit p a) refl
    where
      of_act : (act : ActOf) → act_at unit p a ≡ Some act
          → AreCells unit persons (list_from (λ thing. act_opened_cell thing ∷ []) (thing_number unit act.identifier))
      of_act act is =
          let thing = act_is unit meets p a act (act_of unit p a act is) in
          subst (λ (number : Option ℕ). AreCells unit persons (list_from (λ t. act_opened_cell t ∷ []) number))
          (sym (thing_number_is unit act.identifier (Act p a) thing))
          (one_is_cell unit persons (act_opened_cell thing.number)
          (opening_there unit persons thing.number thing.entry thing.at (ap is_act_place thing.placed)))

      by : (found : Option ActOf) → act_at unit p a ≡ found
          → AreCells unit persons (list_from (λ thing. act_opened_cell thing ∷ []) (found >>= λ act. thing_number unit act.identifier))
      by None is = no_cells unit persons
      by (Some act) is = of_act act is
  opening_cell_there meets (CompletesActivity _) = no_cells unit persons
  opening_cell_there meets (CompletesStructure _) = no_cells unit persons
  opening_cell_there meets (CompletesPart _ _ _) = no_cells unit persons
  opening_cell_there meets (CompletesAct _ _) = no_cells unit persons
  opening_cell_there meets (CompletesPlay _) = no_cells unit persons
  opening_cell_there meets CompletesUnit = no_cells unit persons
  opening_cell_there meets (JudgesCondition _) = no_cells unit persons

-- ---- sites

-- A run has each cell that the firing of one of its sites writes.
pub firing_there : (unit : Unit) (persons : ℕ) → MeetsChecks unit → (site : Site) (rule : Rule) (verdict : Bool)
    → rule_of unit site ≡ Some rule → IsOwner persons (is_for_persons (kind_of rule)) site.owner
    → AreCells unit persons (firing_cells unit persons site.owner site.rule rule verdict)
firing_there unit persons meets site rule verdict ruled owned =
    both_are_cells unit persons (mark_cell site.rule site.owner ∷ []) _
    (one_is_cell unit persons (mark_cell site.rule site.owner)
    (mark_there unit persons site.rule rule site.owner ruled (is_for_persons (kind_of rule)) refl owned))
    (both_are_cells unit persons (opened_act_cells unit rule) (actions_cells unit persons site.owner (actions_of unit rule verdict))
    (opening_cell_there unit persons meets rule)
    (rule_actions_there unit persons meets site.owner rule verdict owned))

pub fires_there : (unit : Unit) (persons : ℕ) → IsValid unit → (site : Site) (rule : Rule) (verdict : Bool)
    → rule_of unit site ≡ Some rule → Contains (sites_of unit persons) site
    → HasSlots unit persons (firing_cells unit persons site.owner site.rule rule verdict)
fires_there unit persons valid site rule verdict ruled there =
    let has = rule_listed unit persons site there in
    let same : has.rule ≡ rule = some_same (sym has.ruled ∙ ruled) in
    slots_there unit persons (firing_cells unit persons site.owner site.rule rule verdict)
    (firing_there unit persons (checks_met unit valid) site rule verdict ruled
    (subst (λ (one : Rule). IsOwner persons (is_for_persons (kind_of one)) site.owner) same has.owned))
