-- That what is looked at and what is written in any run is so, with one person in the place of all, in a run of
-- one person who holds every role.
use Rattle.std.proofs.Common.{◌≡◌, refl, sym, ap, ap₂, subst, ◌∙◌, ℕ, zero, suc, inl, inr, List, [], ◌∷◌, ◌++◌, length, map, flat_map, filter, slice_get, Option, Some, None, Bool, true, false, cond, is_some, if◌then◌else◌, nat_eq, nat_lt, ◌&&◌}
use Rattle.std.proofs.lemmas.Bool.{and_from, false≢true, lt-ltb}
use Rattle.std.proofs.lemmas.Option.{slice_get-map, slice_get_within}
use Rattle.std.specs.List.{list_any, starts_with}
use Rattle.std.specs.Option.{option_map, option_map_or}
use Rattle.ld_base.specs.Maybe.{◌>>=◌, provided}
use Rattle.ld_base.specs.Numbers.{numbers_below}
use Rattle.ld_model.specs.Expressions.{TermOf, TermsOf, property_term, literal_term, list_term, pair_term, now_term, opened_term, started_term, no_term, term_and, TestOf, TestsOf, compare_test, all_test, any_test, not_test, no_value_test, member_test, users_test, done_test, no_test, test_and}
use Rattle.ld_model.specs.Roles.{roles_of}
use Rattle.ld_model.specs.declared.activity.Activity.{Activity}
use Rattle.ld_model.specs.declared.activity.Structure.{Structure}
use Rattle.ld_value.specs.Datum.{truth_datum}
use Rattle.ld_model.specs.declared.cell.CellName.{CellName}
use Rattle.ld_model.specs.declared.cell.CellName.TheVariants.{Prop, Vis, Member, Chosen, Opened, ActOpened, Started, Mark, Now, Roster}
use Rattle.ld_model.specs.declared.cell.Owner.{Owner}
use Rattle.ld_model.specs.declared.cell.Owner.TheVariants.{Run, Person}
use Rattle.ld_model.specs.declared.completion.Change.{Change as ChangeOf}
use Rattle.ld_model.specs.declared.completion.Completion.{Completion}
use Rattle.ld_model.specs.declared.completion.Completion.TheVariants.{UserChoice, TimeLimit, WhenPropertyValueIsSet, WhenRolePartCompleted, WhenConditionTrue, WhenLastActCompleted, WhenPlayCompleted}
use Rattle.ld_model.specs.declared.condition.Action.{Action}
use Rattle.ld_model.specs.declared.condition.Action.TheVariants.{Show, Hide, Change, Notify}
use Rattle.ld_model.specs.declared.condition.Condition.{Condition}
use Rattle.ld_model.specs.declared.method.Act.{Act}
use Rattle.ld_model.specs.declared.method.RolePart.{RolePart}
use Rattle.ld_model.specs.declared.property.Property.{Property}
use Rattle.ld_model.specs.declared.unit.Unit.{Unit}
use Rattle.ld_names.specs.Holders.{holder_of}
use Rattle.ld_names.specs.Names.{role_number, thing_number}
use Rattle.ld_names.specs.Rules.{kind_of, rules_of}
use Rattle.ld_names.specs.declared.holder.Holder.{Holder}
use Rattle.ld_names.specs.declared.holder.Holder.TheVariants.{Run as HeldByRun, Persons as HeldByPersons}
use Rattle.ld_names.specs.declared.rule.Rule.{Rule}
use Rattle.ld_names.specs.declared.rule.RuleKind.{RuleKind}
use Rattle.ld_names.specs.declared.rule.RuleKind.TheVariants.{Person as OfPerson, Run as OfRun}
use Rattle.ld_names.specs.declared.rule.Rule.TheVariants.{CompletesActivity, CompletesStructure, OpensAct, CompletesPart, CompletesAct, CompletesPlay, CompletesUnit, JudgesCondition}
use Rattle.ld_refs.specs.Extents.{play_at, act_at, role_part_at}
use Rattle.ld_expr.specs.Done.{mark_for}
use Rattle.ld_expr.specs.Looks.{property_looks, done_looks, member_looks, members_looks, term_looks, terms_looks, test_looks, tests_looks}
use Rattle.ld_expr.specs.Lookup.{is_some_and, list_from, completing_number, environment_named, property_number}
use Rattle.ld_expr.specs.Membership.{is_member, members, members_of}
use Rattle.ld_expr.specs.Owners.{mark_owner, of_person, value_owner}
use Rattle.ld_expr.specs.Seen.{Seen, everyone, says_yes, member_cell, chosen_cell, opened_cell, act_opened_cell, property_cell, mark_cell, visibility_cell}
use Rattle.ld_firing.specs.ActionCells.{action_cells, all_change_cells, change_cells, opened_act_cells, visible_cells}
use Rattle.ld_firing.specs.Actions.{actions_of, holder_named, owners_of_change, opened_by}
use Rattle.ld_roles.specs.RoleBounds.{bounds_of, role_bounds}
use Rattle.ld_roles.specs.Roster.{is_member_in}
use Rattle.ld_roles.specs.RoleTree.{role_numbers, leads_over, is_within, with_inner}
use Rattle.ld_rules.specs.SiteLooks.{cell_list, all_done_looks, completion_looks, completion_looks_if, reaching_roles, site_activity_looks, site_target_looks, site_part_looks, site_act_looks, opening_looks, person_looks, run_looks, rule_looks}
use Rattle.ld_rules.specs.SiteTests.{Completing, activity_completing, opening_cell, act_completing, play_completing, unit_completing}
use Rattle.ld_rules.proofs.RoleNumbers.{role_there}
use Rattle.ld_state.specs.RunState.{cell_of}
use Rattle.ld_state.proofs.Elements.{IsIn, in_left, in_right, in_either, in_map, from_map, from_flat_map, in_flat_map, in_below}
use Rattle.ld_state.proofs.SameCells.{same_number}
use Rattle.ld_rank.specs.Alone.{alone, seen_alone}
use Rattle.ld_rank.specs.Feeding.{branch_writes, rule_writes}

-- ---- one person in the place of all

abbrev pub lone_owner : Owner → Owner
lone_owner Run = Run
lone_owner (Person p) = of_person 0

abbrev pub lone_cell : CellName → CellName
lone_cell (Prop n owner) = Prop n (lone_owner owner)
lone_cell (Vis t p) = Vis t (record { 0 = 0 })
lone_cell (Member r p) = Member r (record { 0 = 0 })
lone_cell (Chosen t owner) = Chosen t (lone_owner owner)
lone_cell (Opened t owner) = Opened t (lone_owner owner)
lone_cell (ActOpened t) = ActOpened t
lone_cell Started = Started
lone_cell (Mark r owner) = Mark r (lone_owner owner)
lone_cell Now = Now
lone_cell Roster = Roster

-- Each cell of the first list, with the one person in the place of its own, is in the second.
abbrev pub AreLone : List CellName → List CellName → Type 0
AreLone xs ys = (c : CellName) → IsIn xs c → IsIn ys (lone_cell c)

lone_none : (ys : List CellName) → AreLone [] ys
lone_none ys c there = absurd there

lone_one : (x : CellName) → AreLone (x ∷ []) (lone_cell x ∷ [])
lone_one x c (inl is) = inl (ap lone_cell is)
lone_one x c (inr later) = absurd later

lone_as : (x y : CellName) → lone_cell x ≡ y → AreLone (x ∷ []) (y ∷ [])
lone_as x y is c there = subst (λ d. IsIn (d ∷ []) (lone_cell c)) is (lone_one x c there)

lone_both : (xs us ys vs : List CellName) → AreLone xs us → AreLone ys vs → AreLone (xs ++ ys) (us ++ vs)
lone_both xs us ys vs first second c there = elim (in_either xs ys c there) [
  | inl early ↦ in_left us vs (lone_cell c) (first c early)
  | inr late ↦ in_right us vs (lone_cell c) (second c late)
]

lone_list : {A : Type 0} → (f g : A → List CellName) (o : Option A) → ((x : A) → AreLone (f x) (g x))
    → AreLone (list_from f o) (list_from g o)
lone_list f g None each c there = absurd there
lone_list f g (Some x) each c there = each x c there

lone_flat : {A : Type 0} → (f g : A → List CellName) (xs : List A) → ((x : A) → AreLone (f x) (g x))
    → AreLone (flat_map f xs) (flat_map g xs)
lone_flat f g xs each c there =
    let by = from_flat_map f xs c there in
    in_flat_map g xs by.element (lone_cell c) by.inside (each by.element c by.gives)

lone_map : {A : Type 0} → (f g : A → CellName) (xs : List A) → ((x : A) → lone_cell (f x) ≡ g x)
    → AreLone (map f xs) (map g xs)
lone_map f g xs each c there =
    let by = from_map f xs c there in
    subst (λ d. IsIn (map g xs) d) (sym (each by.element) ∙ ap lone_cell by.is) (in_map g xs by.element by.inside)

lone_value_owner : (holder : Holder) (owner : Owner)
    → lone_owner (value_owner holder owner) ≡ value_owner holder (lone_owner owner)
lone_value_owner HeldByPersons owner = refl
lone_value_owner HeldByRun owner = refl

lone_mark_owner : (kind : RuleKind) (owner : Owner)
    → lone_owner (mark_owner kind owner) ≡ mark_owner kind (lone_owner owner)
lone_mark_owner OfPerson owner = refl
lone_mark_owner OfRun owner = refl

-- ---- the members of a role in that run

starts_itself : (path : List ℕ) → starts_with nat_eq path path ≡ true
starts_itself [] = refl
starts_itself (n ∷ path) = and_from (nat_eq n n) (starts_with nat_eq path path) (same_number n) (starts_itself path)

kept_in_filter : {A : Type 0} → (test : A → Bool) (xs : List A) (x : A) → IsIn xs x → test x ≡ true
    → IsIn (filter test xs) x
kept_in_filter test [] x there passes = absurd there
kept_in_filter test (y ∷ ys) x there passes = by (λ later. kept_in_filter test ys x later passes) (test y) refl there
  where
    by : (IsIn ys x → IsIn (filter test ys) x) → (b : Bool) → test y ≡ b → IsIn (y ∷ ys) x → IsIn (cond b (y ∷ filter test ys) (filter test ys)) x
    by rest true is (inl same) = inl same
    by rest true is (inr later) = inr (rest later)
    by rest false is (inl same) = absurd (false≢true (sym is ∙ ap test same ∙ passes))
    by rest false is (inr later) = rest later

some_holds : (xs : List ℕ) (x : ℕ) → IsIn xs x → list_any (λ _. true) xs ≡ true
some_holds [] x there = absurd there
some_holds (y ∷ ys) x there = refl

-- The one person is a member of each role that has a name.
is_member_alone : (unit : Unit) (id : List ℕ) (r : ℕ) → role_number unit id ≡ Some r
    → is_member (seen_alone unit) r 0 ≡ true
unfolding cell_of
is_member_alone unit id r is =
    let has = role_there unit id r is in
    let roles = role_bounds unit in
    let at : slice_get roles r ≡ Some (bounds_of has.row) = slice_get-map bounds_of (roles_of unit) r ∙ ap (option_map bounds_of) has.at in
    let within : is_within roles r r ≡ true =
    ap₂ (λ a b. is_some_and (λ row. is_some_and (leads_over row) a) b) at at ∙ starts_itself (bounds_of has.row).path in
    let below = slice_get_within roles r (bounds_of has.row) at in
    let holds = some_holds (with_inner roles r) r (kept_in_filter (is_within roles r) (role_numbers roles) r (in_below (length roles) r below) within) in
    subst (λ there. says_yes (provided (there && nat_lt 0 1) (truth_datum (is_member_in unit alone.persons r 0))) ≡ true)
    (sym (lt-ltb r (length roles) below)) holds

pub members_alone : (unit : Unit) (id : List ℕ) (r : ℕ) → role_number unit id ≡ Some r
    → members (seen_alone unit) r ≡ 0 ∷ []
members_alone unit id r is = ap (λ b. cond b (0 ∷ []) []) (is_member_alone unit id r is)

module _ (unit : Unit) (seen : Seen) where
  abbrev lone : Seen
  lone = seen_alone unit

  -- ---- what is looked at by name

  lone_property : (owner : Owner) (id : List ℕ)
      → AreLone (property_looks unit seen owner id) (property_looks unit lone (lone_owner owner) id)
  lone_property owner id = by (property_number unit id)
    where
      at : (n : ℕ) (found : Option Property)
          → AreLone (list_from (λ cell. cell ∷ []) (found >>= λ property. Some (property_cell n (value_owner (holder_of unit property) owner)))) (list_from (λ cell. cell ∷ []) (found >>= λ property. Some (property_cell n (value_owner (holder_of unit property) (lone_owner owner)))))
      at n None c there = absurd there
      at n (Some property) c (inl is) =
          inl (ap (property_cell n) (sym (lone_value_owner (holder_of unit property) owner)) ∙ ap lone_cell is)
      at n (Some property) c (inr later) = absurd later

      by : (number : Option ℕ)
          → AreLone (list_from (λ cell. cell ∷ []) (number >>= λ n. slice_get unit.properties n >>= λ property. Some (property_cell n (value_owner (holder_of unit property) owner)))) (list_from (λ cell. cell ∷ []) (number >>= λ n. slice_get unit.properties n >>= λ property. Some (property_cell n (value_owner (holder_of unit property) (lone_owner owner)))))
      by None c there = absurd there
      by (Some n) c there = at n (slice_get unit.properties n) c there

  lone_mark : (owner : Owner) (number : ℕ) → lone_cell (mark_for unit owner number) ≡ mark_for unit (lone_owner owner) number
  lone_mark owner number = ap (mark_cell number) (by (slice_get (rules_of unit) number))
    where
      by : (found : Option Rule)
          → lone_owner (option_map_or (λ rule. mark_owner (kind_of rule) owner) found Run) ≡ option_map_or (λ rule. mark_owner (kind_of rule) (lone_owner owner)) found Run
      by None = refl
      by (Some rule) = lone_mark_owner (kind_of rule) owner

  lone_done : (owner : Owner) (id : List ℕ) → AreLone (done_looks unit seen owner id) (done_looks unit lone (lone_owner owner) id)
  lone_done owner id =
      lone_list (λ number. mark_for unit owner number ∷ []) (λ number. mark_for unit (lone_owner owner) number ∷ [])
      (completing_number unit id)
      (λ number. lone_as (mark_for unit owner number) (mark_for unit (lone_owner owner) number) (lone_mark owner number))

  lone_all_done : (owner : Owner) (ids : List (List ℕ)) → AreLone (all_done_looks unit seen owner ids) (all_done_looks unit lone (lone_owner owner) ids)
  lone_all_done owner ids = lone_flat (done_looks unit seen owner) (done_looks unit lone (lone_owner owner)) ids (lone_done owner)

  lone_member : (owner : Owner) (role : List ℕ) → AreLone (member_looks unit seen owner role) (member_looks unit lone (lone_owner owner) role)
  lone_member Run role = lone_none []
  lone_member (Person p) role =
      lone_list (λ r. member_cell r p.0 ∷ []) (λ r. member_cell r 0 ∷ []) (role_number unit role)
      (λ r. lone_one (member_cell r p.0))

  lone_everyone : (r : ℕ) → AreLone (map (member_cell r) (everyone seen)) (map (member_cell r) (everyone lone))
  lone_everyone r c there =
      let by = from_map (member_cell r) (everyone seen) c there in
      inl (ap lone_cell by.is)

  lone_members : (role : List ℕ) → AreLone (members_looks unit seen role) (members_looks unit lone role)
  lone_members role c (inl is) = inl (ap lone_cell is)
  lone_members role c (inr later) =
      inr (lone_list (λ r. map (member_cell r) (everyone seen)) (λ r. map (member_cell r) (everyone lone)) (role_number unit role) lone_everyone c later)

  -- What is looked at for each member of a role.
  lone_each_member : (role : List ℕ) (f g : ℕ → List CellName) → ((p : ℕ) → AreLone (f p) (g 0))
      → AreLone (flat_map f (members_of unit seen role)) (flat_map g (members_of unit lone role))
  lone_each_member role f g each = by (role_number unit role) refl
    where
      by : (number : Option ℕ) → role_number unit role ≡ number
          → AreLone (flat_map f (list_from (members seen) number)) (flat_map g (list_from (members lone) number))
      by None is c there = absurd there
      by (Some r) is c there =
          let from = from_flat_map f (members seen r) c there in
          in_flat_map g (members lone r) 0 (lone_cell c)
          (subst (λ ps. IsIn ps 0) (sym (members_alone unit role r is)) (inl refl))
          (each from.element c from.gives)

  -- ---- terms and tests

  mutual
    lone_term : (owner : Owner) (term : TermOf) → AreLone (term_looks unit seen owner term) (term_looks unit lone (lone_owner owner) term)
    lone_term owner (property_term id) = lone_property owner id
    lone_term owner (literal_term kind text) = lone_none []
    lone_term owner (list_term operator terms) = lone_terms owner terms
    lone_term owner (pair_term operator x y) =
        lone_both (term_looks unit seen owner x) (term_looks unit lone (lone_owner owner) x) (term_looks unit seen owner y) (term_looks unit lone (lone_owner owner) y)
        (lone_term owner x) (lone_term owner y)
    lone_term owner now_term = lone_one Now
    lone_term owner (opened_term id) =
        lone_list (λ thing. opened_cell thing owner ∷ []) (λ thing. opened_cell thing (lone_owner owner) ∷ []) (thing_number unit id)
        (λ thing. lone_one (opened_cell thing owner))
    lone_term owner started_term = lone_one Started

    lone_terms : (owner : Owner) (terms : TermsOf) → AreLone (terms_looks unit seen owner terms) (terms_looks unit lone (lone_owner owner) terms)
    lone_terms owner no_term = lone_none []
    lone_terms owner (term_and x terms) =
        lone_both (term_looks unit seen owner x) (term_looks unit lone (lone_owner owner) x) (terms_looks unit seen owner terms) (terms_looks unit lone (lone_owner owner) terms)
        (lone_term owner x) (lone_terms owner terms)

  mutual
    lone_test : (owner : Owner) (test : TestOf) → AreLone (test_looks unit seen owner test) (test_looks unit lone (lone_owner owner) test)
    lone_test owner (compare_test comparison x y) =
        lone_both (term_looks unit seen owner x) (term_looks unit lone (lone_owner owner) x) (term_looks unit seen owner y) (term_looks unit lone (lone_owner owner) y)
        (lone_term owner x) (lone_term owner y)
    lone_test owner (all_test tests) = lone_tests owner tests
    lone_test owner (any_test tests) = lone_tests owner tests
    lone_test owner (not_test test) = lone_test owner test
    lone_test owner (no_value_test property) = lone_property owner property
    lone_test owner (member_test role) = lone_member owner role
    lone_test owner (users_test role test) =
        lone_both (members_looks unit seen role) (members_looks unit lone role)
        (flat_map (λ p. test_looks unit seen (of_person p) test) (members_of unit seen role))
        (flat_map (λ p. test_looks unit lone (of_person p) test) (members_of unit lone role))
        (lone_members role)
        (lone_each_member role (λ p. test_looks unit seen (of_person p) test) (λ p. test_looks unit lone (of_person p) test)
        (λ p. lone_test (of_person p) test))
    lone_test owner (done_test thing) = lone_done owner thing

    lone_tests : (owner : Owner) (tests : TestsOf) → AreLone (tests_looks unit seen owner tests) (tests_looks unit lone (lone_owner owner) tests)
    lone_tests owner no_test = lone_none []
    lone_tests owner (test_and test tests) =
        lone_both (test_looks unit seen owner test) (test_looks unit lone (lone_owner owner) test) (tests_looks unit seen owner tests) (tests_looks unit lone (lone_owner owner) tests)
        (lone_test owner test) (lone_tests owner tests)

  -- ---- completion rules

  -- The second is what is to be completed with the one person in the place of the first one's.
  record IsLoneOf (c d : Completing) : Type 0 where
    owner : lone_owner c.owner ≡ d.owner
    chosen : AreLone (cell_list c.chosen) (cell_list d.chosen)
    start : AreLone (cell_list c.start) (cell_list d.start)
    last_act : c.last_act ≡ d.last_act

  lone_cell_by : (f g : ℕ → CellName) (thing : Option ℕ) → ((t : ℕ) → lone_cell (f t) ≡ g t)
      → AreLone (cell_list (option_map f thing)) (cell_list (option_map g thing))
  lone_cell_by f g None each c there = absurd there
  lone_cell_by f g (Some t) each c (inl is) = inl (sym (each t) ∙ ap lone_cell is)
  lone_cell_by f g (Some t) each c (inr later) = absurd later

  lone_activity_completing : (p : ℕ) (activity : Activity) → IsLoneOf (activity_completing unit p activity) (activity_completing unit 0 activity)
  lone_activity_completing p activity = record {
    owner = refl;
    chosen = lone_cell_by (λ thing. chosen_cell thing p) (λ thing. chosen_cell thing 0) (thing_number unit activity.identifier) (λ t. refl);
    start = lone_cell_by (λ thing. opened_cell thing (of_person p)) (λ thing. opened_cell thing (of_person 0)) (thing_number unit activity.identifier) (λ t. refl);
    last_act = refl;
  }

  lone_opening : (act : Act) → AreLone (cell_list (opening_cell unit act)) (cell_list (opening_cell unit act))
  lone_opening act = lone_cell_by act_opened_cell act_opened_cell (thing_number unit act.identifier) (λ t. refl)

  lone_act_completing : (act : Act) → IsLoneOf (act_completing unit act) (act_completing unit act)
  lone_act_completing act = record { owner = refl; chosen = lone_none []; start = lone_opening act; last_act = refl }

  lone_completion : (c d : Completing) (completion : Completion) → IsLoneOf c d
      → AreLone (completion_looks unit seen c completion) (completion_looks unit lone d completion)
  lone_completion c d UserChoice is = is.chosen
  lone_completion c d (TimeLimit seconds) is =
      lone_both (cell_list c.start) (cell_list d.start) (Now ∷ []) (Now ∷ []) is.start (lone_one Now)
  lone_completion c d (WhenPropertyValueIsSet property text) is =
      subst (λ owner. AreLone (property_looks unit seen c.owner property) (property_looks unit lone owner property)) is.owner (lone_property c.owner property)
  lone_completion c d (WhenRolePartCompleted parts) is = lone_all_done Run parts
  lone_completion c d (WhenConditionTrue role test) is = lone_test Run (users_test role test)
  lone_completion c d WhenLastActCompleted is =
      subst (λ act. AreLone (list_from (done_looks unit seen Run) c.last_act) (list_from (done_looks unit lone Run) act)) is.last_act
      (lone_list (done_looks unit seen Run) (done_looks unit lone Run) c.last_act (lone_done Run))
  lone_completion c d (WhenPlayCompleted plays) is = lone_all_done Run plays

  lone_completion_if : (c d : Completing) (completion : Option Completion) → IsLoneOf c d
      → AreLone (completion_looks_if unit seen c completion) (completion_looks_if unit lone d completion)
  lone_completion_if c d completion is =
      lone_list (completion_looks unit seen c) (completion_looks unit lone d) completion (λ one. lone_completion c d one is)

  -- ---- rules

  lone_activity : (p : ℕ) (activity : Activity) → AreLone (site_activity_looks unit seen p activity) (site_activity_looks unit lone 0 activity)
  lone_activity p activity =
      let roles = reaching_roles unit activity.identifier in
      lone_both (map (λ r. member_cell r p) roles) (map (λ r. member_cell r 0) roles)
      (completion_looks_if unit seen (activity_completing unit p activity) activity.complete)
      (completion_looks_if unit lone (activity_completing unit 0 activity) activity.complete)
      (lone_map (λ r. member_cell r p) (λ r. member_cell r 0) roles (λ r. refl))
      (lone_completion_if (activity_completing unit p activity) (activity_completing unit 0 activity) activity.complete (lone_activity_completing p activity))

  lone_target : (part : RolePart) → AreLone (site_target_looks unit seen part) (site_target_looks unit lone part)
  lone_target part = by (is_some (environment_named unit part.target))
    where
      by : (nothing : Bool)
          → AreLone (if nothing then [] else flat_map (λ p. done_looks unit seen (of_person p) part.target) (members_of unit seen part.role)) (if nothing then [] else flat_map (λ p. done_looks unit lone (of_person p) part.target) (members_of unit lone part.role))
      by true = lone_none []
      by false =
          lone_each_member part.role (λ p. done_looks unit seen (of_person p) part.target) (λ p. done_looks unit lone (of_person p) part.target)
          (λ p. lone_done (of_person p) part.target)

  lone_part : (act : Act) (part : RolePart) → AreLone (site_part_looks unit seen act part) (site_part_looks unit lone act part)
  lone_part act part =
      lone_both (cell_list (opening_cell unit act)) (cell_list (opening_cell unit act))
      (members_looks unit seen part.role ++ site_target_looks unit seen part) (members_looks unit lone part.role ++ site_target_looks unit lone part)
      (lone_opening act)
      (lone_both (members_looks unit seen part.role) (members_looks unit lone part.role) (site_target_looks unit seen part) (site_target_looks unit lone part)
      (lone_members part.role) (lone_target part))

  lone_act : (act : Act) → AreLone (site_act_looks unit seen act) (site_act_looks unit lone act)
  lone_act act =
      lone_both (cell_list (opening_cell unit act)) (cell_list (opening_cell unit act))
      (completion_looks_if unit seen (act_completing unit act) act.complete) (completion_looks_if unit lone (act_completing unit act) act.complete)
      (lone_opening act) (lone_completion_if (act_completing unit act) (act_completing unit act) act.complete (lone_act_completing act))

  lone_opening_rule : (p a : ℕ) → AreLone (opening_looks unit seen p a) (opening_looks unit lone p a)
  lone_opening_rule p zero = lone_none []
  lone_opening_rule p (suc a) =
      lone_list (λ act. done_looks unit seen Run act.identifier) (λ act. done_looks unit lone Run act.identifier) (act_at unit p a)
      (λ act. lone_done Run act.identifier)

  -- Of a play and of the unit.
  lone_started : (last : Option (List ℕ)) → IsLoneOf (record { owner = Run; chosen = None; start = Some Started; last_act = last }) (record { owner = Run; chosen = None; start = Some Started; last_act = last })
  lone_started last = record { owner = refl; chosen = lone_none []; start = lone_one Started; last_act = refl }

  lone_person : (p : ℕ) (rule : Rule) → AreLone (person_looks unit seen p rule) (person_looks unit lone 0 rule)
  lone_person p (CompletesActivity a) =
      lone_list (site_activity_looks unit seen p) (site_activity_looks unit lone 0) (slice_get unit.activities a) (lone_activity p)
  lone_person p (CompletesStructure n) =
      lone_list (λ (structure : Structure). all_done_looks unit seen (of_person p) structure.children)
      (λ (structure : Structure). all_done_looks unit lone (of_person 0) structure.children) (slice_get unit.structures n)
      (λ structure. lone_all_done (of_person p) structure.children)
  lone_person p (JudgesCondition n) =
      lone_list (λ (condition : Condition). test_looks unit seen (of_person p) condition.test)
      (λ (condition : Condition). test_looks unit lone (of_person 0) condition.test) (slice_get unit.conditions n)
      (λ condition. lone_test (of_person p) condition.test)
  lone_person p (OpensAct _ _) = lone_none []
  lone_person p (CompletesPart _ _ _) = lone_none []
  lone_person p (CompletesAct _ _) = lone_none []
  lone_person p (CompletesPlay _) = lone_none []
  lone_person p CompletesUnit = lone_none []

  lone_run : (rule : Rule) → AreLone (run_looks unit seen rule) (run_looks unit lone rule)
  lone_run (OpensAct p a) = lone_opening_rule p a
  lone_run (CompletesPart p a r) =
      lone_list (λ act. list_from (site_part_looks unit seen act) (role_part_at unit p a r))
      (λ act. list_from (site_part_looks unit lone act) (role_part_at unit p a r)) (act_at unit p a)
      (λ act. lone_list (site_part_looks unit seen act) (site_part_looks unit lone act) (role_part_at unit p a r) (lone_part act))
  lone_run (CompletesAct p a) = lone_list (site_act_looks unit seen) (site_act_looks unit lone) (act_at unit p a) lone_act
  lone_run (CompletesPlay p) =
      lone_list (λ play. completion_looks_if unit seen (play_completing play) play.complete)
      (λ play. completion_looks_if unit lone (play_completing play) play.complete) (play_at unit p)
      (λ play. lone_completion_if (play_completing play) (play_completing play) play.complete (lone_started (play_completing play).last_act))
  lone_run CompletesUnit =
      lone_completion_if unit_completing unit_completing unit.method.complete (lone_started None)
  lone_run (CompletesActivity _) = lone_none []
  lone_run (CompletesStructure _) = lone_none []
  lone_run (JudgesCondition _) = lone_none []

  -- What a rule asks to look at.
  pub lone_looks : (owner : Owner) (rule : Rule) → AreLone (rule_looks unit seen owner rule) (rule_looks unit lone (lone_owner owner) rule)
  lone_looks (Person p) rule = lone_person p.0 rule
  lone_looks Run rule = lone_run rule

-- ---- what is written

module _ (unit : Unit) (persons : ℕ) where
  lone_owners : (holder : Holder) (owner one : Owner) → IsIn (owners_of_change holder persons owner) one
      → IsIn (owners_of_change holder 1 (lone_owner owner)) (lone_owner one)
  lone_owners HeldByPersons Run one there = let by = from_map of_person (numbers_below persons) one there in inl (ap lone_owner by.is)
  lone_owners HeldByPersons (Person p) one (inl is) = inl (ap lone_owner is)
  lone_owners HeldByPersons (Person p) one (inr later) = absurd later
  lone_owners HeldByRun owner one (inl is) = inl (ap lone_owner is)
  lone_owners HeldByRun owner one (inr later) = absurd later

  lone_change : (owner : Owner) (change : ChangeOf) → AreLone (all_change_cells unit persons owner change) (all_change_cells unit 1 (lone_owner owner) change)
  lone_change owner change c there =
      let holder = holder_named unit change.property in
      let by = from_flat_map (change_cells unit change) (owners_of_change holder persons owner) c there in
      in_flat_map (change_cells unit change) (owners_of_change holder 1 (lone_owner owner)) (lone_owner by.element) (lone_cell c)
      (lone_owners holder owner by.element by.inside)
      (lone_property unit (seen_alone unit) by.element change.property c by.gives)

  lone_visible : (owner : Owner) (id : List ℕ) → AreLone (visible_cells unit owner id) (visible_cells unit (lone_owner owner) id)
  lone_visible Run id = lone_none []
  lone_visible (Person p) id =
      lone_list (λ thing. visibility_cell thing p.0 ∷ []) (λ thing. visibility_cell thing 0 ∷ []) (thing_number unit id)
      (λ thing. lone_one (visibility_cell thing p.0))

  lone_action : (owner : Owner) (action : Action) → AreLone (action_cells unit persons owner action) (action_cells unit 1 (lone_owner owner) action)
  lone_action owner (Show things) = lone_flat (visible_cells unit owner) (visible_cells unit (lone_owner owner)) things (lone_visible owner)
  lone_action owner (Hide things) = lone_flat (visible_cells unit owner) (visible_cells unit (lone_owner owner)) things (lone_visible owner)
  lone_action owner (Change change) = lone_change owner change
  lone_action owner (Notify notice) = lone_none []

  lone_branch : (owner : Owner) (rule : Rule) (verdict : Bool) → AreLone (branch_writes unit persons owner rule verdict) (branch_writes unit 1 (lone_owner owner) rule verdict)
  lone_branch owner rule verdict =
      lone_flat (action_cells unit persons owner) (action_cells unit 1 (lone_owner owner)) (actions_of unit rule verdict) (lone_action owner)

  lone_opened : (rule : Rule) → AreLone (opened_act_cells unit rule) (opened_act_cells unit rule)
  lone_opened rule =
      lone_list (λ thing. act_opened_cell thing ∷ []) (λ thing. act_opened_cell thing ∷ []) (opened_by unit rule)
      (λ thing. lone_one (act_opened_cell thing))

  -- What the actions of a rule are on.
  pub lone_writes : (owner : Owner) (rule : Rule) → AreLone (rule_writes unit persons owner rule) (rule_writes unit 1 (lone_owner owner) rule)
  lone_writes owner rule =
      lone_both (opened_act_cells unit rule) (opened_act_cells unit rule)
      (branch_writes unit persons owner rule true ++ branch_writes unit persons owner rule false)
      (branch_writes unit 1 (lone_owner owner) rule true ++ branch_writes unit 1 (lone_owner owner) rule false)
      (lone_opened rule)
      (lone_both (branch_writes unit persons owner rule true) (branch_writes unit 1 (lone_owner owner) rule true)
      (branch_writes unit persons owner rule false) (branch_writes unit 1 (lone_owner owner) rule false)
      (lone_branch owner rule true) (lone_branch owner rule false))
