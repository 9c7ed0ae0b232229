-- One induction over what stands in the documents of a unit: a fact that holds of each kind of part holds of each part.
-- A new element of the documents is one line here, and none in the proofs that use this, unless it declares something.
use Rattle.std.proofs.Common.{◌≡◌, refl, ℕ, ◌+◌, List, [], ◌∷◌, ◌++◌, map, Bool, true, false, Option, Some, None, is_some, codes, All}
use Rattle.std.proofs.lemmas.List.Elements.{All-nil, All-cons, All-append, All-head, All-tail}
use Rattle.ld_json.specs.declared.file.FileNo.TheVariants as file
use Rattle.ld_model.specs.Counting.{each_numbered, each_numbered_from}
use Rattle.ld_model.specs.Expressions.{TermOf, TermsOf, property_term, literal_term, list_term, pair_term, now_term, opened_term, started_term, no_term, term_and, TestOf, TestsOf, compare_test, all_test, any_test, not_test, no_value_test, member_test, users_test, done_test, no_test, test_and}
use Rattle.ld_model.specs.Roles.{roles_of}
use Rattle.ld_model.specs.RoleRows.{RoleRow}
use Rattle.ld_model.specs.declared.activity.Activity.{Activity as ActivityOf}
use Rattle.ld_model.specs.declared.activity.Structure.{Structure as StructureOf}
use Rattle.ld_model.specs.declared.completion.Change.{Change}
use Rattle.ld_model.specs.declared.completion.Completion.{Completion}
use Rattle.ld_model.specs.declared.completion.Completion.TheVariants.{UserChoice, TimeLimit, WhenPropertyValueIsSet, WhenRolePartCompleted, WhenConditionTrue, WhenLastActCompleted, WhenPlayCompleted}
use Rattle.ld_model.specs.declared.completion.Notice.{Notice}
use Rattle.ld_model.specs.declared.completion.OnCompletion.{OnCompletion}
use Rattle.ld_model.specs.declared.condition.Action.{Action}
use Rattle.ld_model.specs.declared.condition.Action.TheVariants as action
use Rattle.ld_model.specs.declared.condition.Condition.{Condition}
use Rattle.ld_model.specs.declared.environment.Environment.{Environment as EnvironmentOf}
use Rattle.ld_model.specs.declared.environment.LearningObject.{LearningObject}
use Rattle.ld_model.specs.declared.environment.Service.{Service as ServiceOf}
use Rattle.ld_model.specs.declared.item.Item.{Item as ItemOf}
use Rattle.ld_model.specs.declared.method.Act.{Act as ActOf}
use Rattle.ld_model.specs.declared.method.Method.{Method as MethodOf}
use Rattle.ld_model.specs.declared.method.Play.{Play as PlayOf}
use Rattle.ld_model.specs.declared.method.RolePart.{RolePart as RolePartOf}
use Rattle.ld_model.specs.declared.property.Property.{Property as PropertyOf}
use Rattle.ld_model.specs.declared.unit.Level.{Level}
use Rattle.ld_model.specs.declared.unit.Unit.{Unit}
use Rattle.ld_walk.specs.declared.kind.Kind.{Kind}
use Rattle.ld_walk.specs.declared.kind.Kind.TheVariants as kind
use Rattle.ld_walk.specs.declared.kind.Wanted.{Wanted}
use Rattle.ld_walk.specs.declared.place.Place.{Place}
use Rattle.ld_walk.specs.declared.place.Place.TheVariants.{Play, Act, RolePart, Activity, Structure, Environment, Object, Service, Item}
use Rattle.ld_walk.specs.CommonParts.{items_parts, optional_reference_parts, references_parts, change_parts, notice_parts}
use Rattle.ld_walk.specs.ExpressionParts.{clock_parts, term_parts, terms_parts, test_parts, tests_parts, within_members}
use Rattle.ld_walk.specs.Kinds.{has_visibility}
use Rattle.ld_walk.specs.Parts.{What, Declares, Part}
use Rattle.ld_walk.specs.Places.{At, root}
use Rattle.ld_parts.specs.Listing.{list_level_parts, of_run_parts, value_parts, value_set_parts, condition_true_parts, completed_parts, completion_parts, follows_parts, on_completion_parts, role_part, shared_parts, property_parts_at, object_parts_at, service_parts, environment_parts_at, environment_parts, parts_before_items, ending_parts, activity_parts_at, activity_parts, structure_parts_at, structure_parts, role_part_parts_at, act_parts_at, play_parts_at, method_parts, unit_parts, action_parts, condition_parts_at, condition_parts, middle_parts, parts_of}

-- Whether the part declares something, which then has an identifier.
abbrev pub is_declared : What → Bool
is_declared (Declares _ _ _) = true
is_declared _ = false

-- P holds of all that declares nothing, and of each thing as it may be declared: a thing that can be shown and hidden
-- says whether it is visible at first, another says nothing of it.
pub record HoldsOfThings (P : What → Type 0) : Type 0 where
  pub other : (what : What) → is_declared what ≡ false → P what
  pub shown :
      (place : Place) (id : List ℕ) (visible : Bool) → has_visibility (kind.Thing place) ≡ true
      → P (Declares (kind.Thing place) id (Some visible))
  pub unshown :
      (place : Place) (id : List ℕ) → has_visibility (kind.Thing place) ≡ false
      → P (Declares (kind.Thing place) id None)

-- P holds of the unit, the roles and the properties, too.
pub record HoldsOfAll (P : What → Type 0) : Type 0 where
  pub things : HoldsOfThings P
  pub whole : (id : List ℕ) → P (Declares kind.Unit id None)
  pub role : (id : List ℕ) → P (Declares kind.Role id None)
  pub property : (id : List ℕ) → P (Declares kind.Property id None)

-- P holds of each of the parts.
pub record Each (P : What → Type 0) (parts : List Part) : Type 0 where
  pub all : All (λ part. P part.what) parts

module _ (P : What → Type 0) where
  pub none_at_all : Each P []
  none_at_all = record { all = All-nil (λ part. P part.what) }

  pub then_more : {part : Part} {parts : List Part} → P part.what → Each P parts → Each P (part ∷ parts)
  then_more {part} {parts} first more = record { all = All-cons (λ one. P one.what) part parts first more.all }

  pub both : {xs ys : List Part} → Each P xs → Each P ys → Each P (xs ++ ys)
  both {xs} {ys} first second = record { all = All-append (λ part. P part.what) xs ys first.all second.all }

  pub first_of : {part : Part} {parts : List Part} → Each P (part ∷ parts) → P part.what
  first_of {part} {parts} each = All-head (λ one. P one.what) part parts each.all

  pub rest_of : {part : Part} {parts : List Part} → Each P (part ∷ parts) → Each P parts
  rest_of {part} {parts} each = record { all = All-tail (λ one. P one.what) part parts each.all }

  pub numbered : {A : Type 0} {f : ℕ → A → List Part} → ((n : ℕ) (x : A) → Each P (f n x))
      → (n : ℕ) (xs : List A) → Each P (each_numbered_from f n xs)
  numbered one n [] = none_at_all
  numbered one n (x ∷ xs) = both (one n x) (numbered one (n + 1) xs)

module _ (P : What → Type 0) (holds : HoldsOfThings P) where
  -- A part that declares nothing, and then more.
  besides : {at : At} {level : Level} {what : What} {parts : List Part} → is_declared what ≡ false → Each P parts
      → Each P (record { at = at; level = level; what = what } ∷ parts)
  besides {what = what} plain more = then_more P (holds.other what plain) more

  -- ---- terms and tests

  clock_each : (at : At) (m clock : Bool) → Each P (clock_parts at m clock)
  clock_each at m true = besides refl (none_at_all P)
  clock_each at m false = besides refl (besides refl (none_at_all P))

  mutual
    term_each : (at : At) (m clock : Bool) (term : TermOf) → Each P (term_parts at m clock term)
    term_each at m clock (property_term id) = besides refl (besides refl (none_at_all P))
    term_each at m clock (literal_term _ _) = besides refl (none_at_all P)
    term_each at m clock (list_term operator terms) = terms_each _ m 0 terms
    term_each at m clock (pair_term operator a b) = both P (term_each _ m false a) (term_each _ m false b)
    term_each at m clock now_term = clock_each at m clock
    term_each at m clock (opened_term id) = besides refl (besides refl (none_at_all P))
    term_each at m clock started_term = besides refl (none_at_all P)

    terms_each : (at : At) (m : Bool) (n : ℕ) (terms : TermsOf) → Each P (terms_parts at m n terms)
    terms_each at m n no_term = none_at_all P
    terms_each at m n (term_and term terms) = both P (term_each _ m false term) (terms_each at m (n + 1) terms)

  within_each : (at : At) (m : Bool) → Each P (within_members at m)
  within_each at true = besides refl (none_at_all P)
  within_each at false = none_at_all P

  mutual
    test_each : (at : At) (m : Bool) (test : TestOf) → Each P (test_parts at m test)
    test_each at m (compare_test comparison a b) = both P (term_each _ m _ a) (term_each _ m _ b)
    test_each at m (all_test tests) = tests_each _ m 0 tests
    test_each at m (any_test tests) = tests_each _ m 0 tests
    test_each at m (not_test test) = test_each _ m test
    test_each at m (no_value_test property) = besides refl (besides refl (none_at_all P))
    test_each at m (member_test role) = besides refl (besides refl (none_at_all P))
    test_each at m (users_test role test) = both P (within_each at m) (besides refl (test_each _ true test))
    test_each at m (done_test thing) = besides refl (besides refl (none_at_all P))

    tests_each : (at : At) (m : Bool) (n : ℕ) (tests : TestsOf) → Each P (tests_parts at m n tests)
    tests_each at m n no_test = none_at_all P
    tests_each at m n (test_and test tests) = both P (test_each _ m test) (tests_each at m (n + 1) tests)

  -- ---- items, references, changes and notices

  items_each : (at : At) (name : List ℕ) (items : List ItemOf) → Each P (items_parts at name items)
  items_each at name items =
      numbered P (λ n item. then_more P (holds.shown Item item.identifier item.visible refl) (none_at_all P)) 0 items

  references_each : (at : At) (name : List ℕ) (want : Wanted) (ids : List (List ℕ))
      → Each P (references_parts at name want ids)
  references_each at name want [] = none_at_all P
  references_each at name want (id ∷ ids) = besides refl (none_at_all P)

  optional_each : (at : At) (name : List ℕ) (want : Wanted) (id : Option (List ℕ))
      → Each P (optional_reference_parts at name want id)
  optional_each at name want None = none_at_all P
  optional_each at name want (Some id) = besides refl (none_at_all P)

  change_each : (at : At) (by_run : Bool) (change : Change) → Each P (change_parts at by_run change)
  unfolding change_parts
  change_each at by_run change = besides refl (besides refl (term_each _ false false change.value))

  notice_each : (at : At) (notice : Notice) → Each P (notice_parts at notice)
  unfolding notice_parts
  notice_each at notice = both P (references_each at _ _ notice.roles) (optional_each at _ _ notice.activity)

  level_each : {A : Type 0} (at : At) (name : List ℕ) (level : Level) (xs : List A)
      → Each P (list_level_parts at name level xs)
  level_each at name level [] = none_at_all P
  level_each at name level (x ∷ xs) = besides refl (none_at_all P)

  -- ---- completions

  of_run_each : (at : At) (by_run : Bool) (property : List ℕ) → Each P (of_run_parts at by_run property)
  of_run_each at false property = none_at_all P
  of_run_each at true property = besides refl (none_at_all P)

  value_each : (at : At) (property : List ℕ) (value : Option (List ℕ)) → Each P (value_parts at property value)
  value_each at property None = none_at_all P
  value_each at property (Some text) = besides refl (none_at_all P)

  value_set_each : (at : At) (by_run : Bool) (property : List ℕ) (value : Option (List ℕ))
      → Each P (value_set_parts at by_run property value)
  unfolding value_set_parts
  value_set_each at by_run property value =
      besides refl (besides refl (both P (of_run_each at by_run property) (value_each at property value)))

  condition_true_each : (at : At) (role : List ℕ) (test : TestOf) → Each P (condition_true_parts at role test)
  unfolding condition_true_parts
  condition_true_each at role test = besides refl (besides refl (test_each _ true test))

  completed_each : (at : At) (thing : Kind) (complete : Completion) → Each P (completed_parts at thing complete)
  unfolding completed_parts
  completed_each at thing UserChoice = none_at_all P
  completed_each at thing (TimeLimit _) = none_at_all P
  completed_each at thing (WhenPropertyValueIsSet property value) = value_set_each _ _ property value
  completed_each at thing (WhenRolePartCompleted parts) = references_each at _ _ parts
  completed_each at thing (WhenConditionTrue role test) = condition_true_each _ role test
  completed_each at thing WhenLastActCompleted = none_at_all P
  completed_each at thing (WhenPlayCompleted plays) = references_each at _ _ plays

  completion_each : (at : At) (thing : Kind) (complete : Option Completion)
      → Each P (completion_parts at thing complete)
  unfolding completion_parts
  completion_each at thing None = none_at_all P
  completion_each at thing (Some complete) = besides refl (completed_each _ thing complete)

  follows_each : (at : At) (by_run completes : Bool) (follows : OnCompletion)
      → Each P (follows_parts at by_run completes follows)
  unfolding follows_parts
  follows_each at by_run completes follows =
      besides refl
      (both P (items_each at _ follows.feedback)
      (both P (level_each at _ _ follows.change)
      (both P (numbered P (λ i change. change_each _ by_run change) 0 follows.change)
      (both P (level_each at _ _ follows.notify)
      (numbered P (λ i notice. notice_each _ notice) 0 follows.notify)))))

  on_completion_each : (at : At) (thing : Kind) (completes : Bool) (follows : Option OnCompletion)
      → Each P (on_completion_parts at thing completes follows)
  unfolding on_completion_parts
  on_completion_each at thing completes None = none_at_all P
  on_completion_each at thing completes (Some follows) = follows_each _ _ completes follows

  ending_each : (at : At) (thing : Kind) (complete : Option Completion) (follows : Option OnCompletion)
      → Each P (ending_parts at thing complete follows)
  unfolding ending_parts
  ending_each at thing complete follows =
      both P (completion_each at thing complete) (on_completion_each at thing (is_some complete) follows)

  -- ---- environments

  object_each : (at : At) (e o : ℕ) (object : LearningObject) → Each P (object_parts_at at e o object)
  unfolding object_parts_at
  object_each at e o object =
      then_more P (holds.shown (Object e o) object.identifier object.visible refl) (items_each at _ object.items)

  service_each : (at : At) (e s : ℕ) (service : ServiceOf) → Each P (service_parts at e s service)
  unfolding service_parts
  service_each at e s service =
      then_more P (holds.shown (Service e s) service.identifier service.visible refl) (none_at_all P)

  environment_each : (at : At) (e : ℕ) (environment : EnvironmentOf) → Each P (environment_parts_at at e environment)
  unfolding environment_parts_at
  environment_each at e environment =
      then_more P (holds.shown (Environment e) environment.identifier environment.visible refl)
      (both P (numbered P (λ o object. object_each _ e o object) 0 environment.learning_objects)
      (both P (numbered P (service_each at e) 0 environment.services)
      (references_each at _ _ environment.environments)))

  pub environments_each : (at : At) (environments : List EnvironmentOf)
      → Each P (each_numbered (environment_parts at) environments)
  environments_each at environments = numbered P (λ e environment. environment_each _ e environment) 0 environments

  -- ---- activities and structures

  before_items_each : (at : At) (activity : ActivityOf) → Each P (parts_before_items at activity)
  unfolding parts_before_items
  before_items_each at activity =
      both P (items_each at _ activity.learning_objectives)
      (both P (items_each at _ activity.prerequisites)
      (both P (references_each at _ _ activity.supports) (references_each at _ _ activity.environments)))

  activity_each : (at : At) (a : ℕ) (activity : ActivityOf) → Each P (activity_parts_at at a activity)
  unfolding activity_parts_at
  activity_each at a activity =
      then_more P (holds.shown (Activity a) activity.identifier activity.visible refl)
      (both P (before_items_each at activity)
      (both P (items_each at _ activity.items) (ending_each at _ activity.complete activity.on_completion)))

  pub activities_each : (at : At) (activities : List ActivityOf)
      → Each P (each_numbered (activity_parts at) activities)
  activities_each at activities = numbered P (λ a activity. activity_each _ a activity) 0 activities

  structure_each : (at : At) (s : ℕ) (structure : StructureOf) → Each P (structure_parts_at at s structure)
  unfolding structure_parts_at
  structure_each at s structure =
      then_more P (holds.shown (Structure s) structure.identifier structure.visible refl)
      (both P (references_each at _ _ structure.environments) (references_each at _ _ structure.children))

  pub structures_each : (at : At) (structures : List StructureOf)
      → Each P (each_numbered (structure_parts at) structures)
  structures_each at structures = numbered P (λ s structure. structure_each _ s structure) 0 structures

  -- ---- the method

  role_part_each : (at : At) (p a r : ℕ) (part : RolePartOf) → Each P (role_part_parts_at at p a r part)
  unfolding role_part_parts_at
  role_part_each at p a r part =
      then_more P (holds.unshown (RolePart p a r) part.identifier refl) (besides refl (besides refl (none_at_all P)))

  act_each : (at : At) (p a : ℕ) (act : ActOf) → Each P (act_parts_at at p a act)
  unfolding act_parts_at
  act_each at p a act =
      then_more P (holds.unshown (Act p a) act.identifier refl)
      (both P (numbered P (λ r part. role_part_each _ p a r part) 0 act.role_parts)
      (ending_each at _ act.complete act.on_completion))

  play_each : (at : At) (p : ℕ) (play : PlayOf) → Each P (play_parts_at at p play)
  unfolding play_parts_at
  play_each at p play =
      then_more P (holds.shown (Play p) play.identifier play.visible refl)
      (both P (numbered P (λ a act. act_each _ p a act) 0 play.acts)
      (ending_each at _ play.complete play.on_completion))

  method_each : (method : MethodOf) → Each P (method_parts method)
  unfolding method_parts
  method_each method =
      both P (numbered P (λ p play. play_each _ p play) 0 method.plays)
      (ending_each _ _ method.complete method.on_completion)

  -- The unit's own document after the unit itself.
  pub unit_each : (at : At) (objectives prerequisites : List ItemOf) (method : MethodOf)
      → Each P (items_parts at (codes "learning-objectives") objectives
      ++ (items_parts at (codes "prerequisites") prerequisites ++ method_parts method))
  unit_each at objectives prerequisites method =
      both P (items_each at _ objectives) (both P (items_each at _ prerequisites) (method_each method))

  -- ---- conditions

  action_each : (at : At) (one : Action) → Each P (action_parts at one)
  unfolding action_parts
  action_each at (action.Show things) = references_each at _ _ things
  action_each at (action.Hide things) = references_each at _ _ things
  action_each at (action.Change change) = change_each _ false change
  action_each at (action.Notify notice) = besides refl (notice_each _ notice)

  condition_each : (at : At) (c : ℕ) (condition : Condition) → Each P (condition_parts_at at c condition)
  unfolding condition_parts_at
  condition_each at c condition =
      besides refl (besides refl
      (both P (test_each _ false condition.test)
      (both P (numbered P (λ i one. action_each _ one) 0 condition.yes)
      (numbered P (λ i one. action_each _ one) 0 condition.no))))

  pub conditions_each : (at : At) (conditions : List Condition)
      → Each P (each_numbered (condition_parts at) conditions)
  conditions_each at conditions = numbered P (λ c condition. condition_each _ c condition) 0 conditions

-- ---- all documents

module _ (P : What → Type 0) (holds : HoldsOfAll P) where
  roles_each : (at : At) (roles : List RoleRow) → Each P (map (role_part at) roles)
  unfolding role_part
  roles_each at [] = none_at_all P
  roles_each at (role ∷ roles) = then_more P (holds.role role.identifier) (roles_each at roles)

  shared_each : (at : At) (uri : Option (List ℕ)) → Each P (shared_parts at uri)
  shared_each at None = none_at_all P
  shared_each at (Some uri) = besides P holds.things refl (none_at_all P)

  property_each : (at : At) (property : PropertyOf) → Each P (property_parts_at at property)
  unfolding property_parts_at
  property_each at property =
      then_more P (holds.property property.identifier)
      (both P (shared_each at property.uri)
      (besides P holds.things refl (optional_each P holds.things at _ _ property.role)))

  middle_each : (unit : Unit) → Each P (middle_parts unit)
  unfolding middle_parts
  middle_each unit =
      both P (numbered P (λ n property. property_each _ property) 0 unit.properties)
      (both P (environments_each P holds.things (root file.Environments) unit.environments)
      (both P (activities_each P holds.things (root file.Activities) unit.activities)
      (structures_each P holds.things (root file.Activities) unit.structures)))

  own_each : (unit : Unit) → Each P (unit_parts unit)
  unfolding unit_parts
  own_each unit =
      then_more P (holds.whole unit.identifier)
      (unit_each P holds.things (root file.Unit) unit.learning_objectives unit.prerequisites unit.method)

  -- P holds of each part of the unit's documents.
  pub each_part : (unit : Unit) → Each P (parts_of unit)
  unfolding parts_of
  each_part unit =
      both P (roles_each (root file.Roles) (roles_of unit))
      (both P (middle_each unit)
      (both P (own_each unit) (conditions_each P holds.things (root file.Conditions) unit.conditions)))
