-- That a thing which stands at the place of an environment, an activity or a structure is one of the unit's.
use Rattle.std.proofs.Common.{◌≡◌, refl, sym, subst, ◌∙◌, ℕ, suc, ◌+◌, List, [], ◌∷◌, map, get_or, Bool, true, false, Option, Some, None, is_some, slice_get, codes, All, arith}
use Rattle.std.specs.Prelude.{⊤}
use Rattle.std.proofs.lemmas.List.Elements.{All-nil, All-cons, All-append, All-get_or}
use Rattle.std.proofs.lemmas.Option.{slice_get_within, slice_get-get_or}
use Rattle.ld_json.specs.declared.file.FileNo.TheVariants as file
use Rattle.ld_model.specs.Counting.{each_numbered, each_numbered_from}
use Rattle.ld_model.specs.Expressions.{TermOf, TermsOf, property_term, literal_term, list_term, pair_term, now_term, opened_term, started_term, no_term, term_and, TestOf, TestsOf, compare_test, all_test, any_test, not_test, no_value_test, member_test, users_test, done_test, no_test, test_and}
use Rattle.ld_model.specs.Roles.{roles_of}
use Rattle.ld_model.specs.RoleRows.{RoleRow}
use Rattle.ld_model.specs.declared.activity.Activity.{Activity as ActivityOf}
use Rattle.ld_model.specs.declared.activity.Structure.{Structure as StructureOf}
use Rattle.ld_model.specs.declared.completion.Change.{Change}
use Rattle.ld_model.specs.declared.completion.Completion.{Completion}
use Rattle.ld_model.specs.declared.completion.Completion.TheVariants.{UserChoice, TimeLimit, WhenPropertyValueIsSet, WhenRolePartCompleted, WhenConditionTrue, WhenLastActCompleted, WhenPlayCompleted}
use Rattle.ld_model.specs.declared.completion.Notice.{Notice}
use Rattle.ld_model.specs.declared.completion.OnCompletion.{OnCompletion}
use Rattle.ld_model.specs.declared.condition.Action.{Action}
use Rattle.ld_model.specs.declared.condition.Action.TheVariants as action
use Rattle.ld_model.specs.declared.condition.Condition.{Condition}
use Rattle.ld_model.specs.declared.environment.Environment.{Environment as EnvironmentOf}
use Rattle.ld_model.specs.declared.environment.LearningObject.{LearningObject}
use Rattle.ld_model.specs.declared.environment.Service.{Service as ServiceOf}
use Rattle.ld_model.specs.declared.item.Item.{Item as ItemOf}
use Rattle.ld_model.specs.declared.method.Act.{Act as ActOf}
use Rattle.ld_model.specs.declared.method.Method.{Method as MethodOf}
use Rattle.ld_model.specs.declared.method.Play.{Play as PlayOf}
use Rattle.ld_model.specs.declared.method.RolePart.{RolePart as RolePartOf}
use Rattle.ld_model.specs.declared.property.Property.{Property as PropertyOf}
use Rattle.ld_model.specs.declared.unit.Level.{Level}
use Rattle.ld_model.specs.declared.unit.Unit.{Unit}
use Rattle.ld_walk.specs.declared.kind.Kind.{Kind}
use Rattle.ld_walk.specs.declared.kind.Kind.TheVariants as kind
use Rattle.ld_walk.specs.declared.kind.Wanted.{Wanted}
use Rattle.ld_walk.specs.declared.place.Place.{Place}
use Rattle.ld_walk.specs.declared.place.Place.TheVariants.{Activity, Structure, Environment}
use Rattle.ld_walk.specs.CommonParts.{items_parts, optional_reference_parts, references_parts, change_parts, notice_parts}
use Rattle.ld_walk.specs.ExpressionParts.{clock_parts, term_parts, terms_parts, test_parts, tests_parts, within_members}
use Rattle.ld_walk.specs.Parts.{What, Declares, Part}
use Rattle.ld_walk.specs.Places.{At, root}
use Rattle.ld_parts.specs.Listing.{list_level_parts, of_run_parts, value_parts, value_set_parts, condition_true_parts, completed_parts, completion_parts, follows_parts, on_completion_parts, role_part, shared_parts, property_parts_at, object_parts_at, service_parts, environment_parts_at, environment_parts, parts_before_items, ending_parts, activity_parts_at, activity_parts, structure_parts_at, structure_parts, role_part_parts_at, act_parts_at, play_parts_at, method_parts, unit_parts, action_parts, condition_parts_at, middle_parts, parts_of}
use Rattle.ld_parts.proofs.EachPart.{Each, both, first_of, none_at_all, numbered, rest_of, then_more}
use Rattle.ld_names.specs.Things.{Entry, thing_in, things_in, things_of}

-- One of the list has the number.
pub record Stands {A : Type 0} (xs : List A) (n : ℕ) : Type 0 where
  pub element : A
  pub at : slice_get xs n ≡ Some element

-- The unit has an environment, an activity or a structure there, where the place is that of one.
abbrev pub IsPlaceOf : Unit → Place → Type 0
IsPlaceOf unit (Environment e) = Stands unit.environments e
IsPlaceOf unit (Activity a) = Stands unit.activities a
IsPlaceOf unit (Structure s) = Stands unit.structures s
IsPlaceOf unit _ = ⊤

-- The same of a thing that is declared.
abbrev Declared : Unit → What → Type 0
Declared unit (Declares (kind.Thing place) _ _) = IsPlaceOf unit place
Declared unit _ = ⊤

-- What is listed of each element, where it stands in the list.
module _ (P : What → Type 0) {A : Type 0} (f : ℕ → A → List Part) where
  numbered_at : (n : ℕ) (xs : List A)
      → ((k : ℕ) (x : A) → slice_get xs k ≡ Some x → Each P (f (n + k) x)) → Each P (each_numbered_from f n xs)
  numbered_at n [] one = none_at_all P
  numbered_at n (x ∷ xs) one =
      let first : Each P (f n x) = subst (λ m. Each P (f m x)) (omega arith) (one 0 x refl) in
      both P first
      (numbered_at (n + 1) xs (λ k y at. subst (λ m. Each P (f m y)) (omega arith) (one (suc k) y at)))

  each_at : (xs : List A) → ((k : ℕ) (x : A) → slice_get xs k ≡ Some x → Each P (f k x)) → Each P (each_numbered f xs)
  each_at xs one = numbered_at 0 xs (λ k x at. subst (λ m. Each P (f m x)) (omega arith) (one k x at))

module _ (unit : Unit) where
  abbrev P : What → Type 0
  P = Declared unit

  none : Each P []
  none = none_at_all P

  more : {part : Part} {parts : List Part} → P part.what → Each P parts → Each P (part ∷ parts)
  more first rest = then_more P first rest

  -- ---- terms and tests

  clock_each : (at : At) (m clock : Bool) → Each P (clock_parts at m clock)
  clock_each at m true = more tt none
  clock_each at m false = more tt (more tt none)

  mutual
    term_each : (at : At) (m clock : Bool) (term : TermOf) → Each P (term_parts at m clock term)
    term_each at m clock (property_term id) = more tt (more tt none)
    term_each at m clock (literal_term _ _) = more tt none
    term_each at m clock (list_term operator terms) = terms_each _ m 0 terms
    term_each at m clock (pair_term operator a b) = both P (term_each _ m false a) (term_each _ m false b)
    term_each at m clock now_term = clock_each at m clock
    term_each at m clock (opened_term id) = more tt (more tt none)
    term_each at m clock started_term = more tt none

    terms_each : (at : At) (m : Bool) (n : ℕ) (terms : TermsOf) → Each P (terms_parts at m n terms)
    terms_each at m n no_term = none
    terms_each at m n (term_and term terms) = both P (term_each _ m false term) (terms_each at m (n + 1) terms)

  within_each : (at : At) (m : Bool) → Each P (within_members at m)
  within_each at true = more tt none
  within_each at false = none

  mutual
    test_each : (at : At) (m : Bool) (test : TestOf) → Each P (test_parts at m test)
    test_each at m (compare_test comparison a b) = both P (term_each _ m _ a) (term_each _ m _ b)
    test_each at m (all_test tests) = tests_each _ m 0 tests
    test_each at m (any_test tests) = tests_each _ m 0 tests
    test_each at m (not_test test) = test_each _ m test
    test_each at m (no_value_test property) = more tt (more tt none)
    test_each at m (member_test role) = more tt (more tt none)
    test_each at m (users_test role test) = both P (within_each at m) (more tt (test_each _ true test))
    test_each at m (done_test thing) = more tt (more tt none)

    tests_each : (at : At) (m : Bool) (n : ℕ) (tests : TestsOf) → Each P (tests_parts at m n tests)
    tests_each at m n no_test = none
    tests_each at m n (test_and test tests) = both P (test_each _ m test) (tests_each at m (n + 1) tests)

  -- ---- items, references, changes and notices

  items_each : (at : At) (name : List ℕ) (items : List ItemOf) → Each P (items_parts at name items)
  items_each at name items = numbered P (λ n item. more tt none) 0 items

  references_each : (at : At) (name : List ℕ) (want : Wanted) (ids : List (List ℕ)) → Each P (references_parts at name want ids)
  references_each at name want [] = none
  references_each at name want (id ∷ ids) = more tt none

  optional_each : (at : At) (name : List ℕ) (want : Wanted) (id : Option (List ℕ)) → Each P (optional_reference_parts at name want id)
  optional_each at name want None = none
  optional_each at name want (Some id) = more tt none

  change_each : (at : At) (by_run : Bool) (change : Change) → Each P (change_parts at by_run change)
  unfolding change_parts
  change_each at by_run change = more tt (more tt (term_each _ false false change.value))

  notice_each : (at : At) (notice : Notice) → Each P (notice_parts at notice)
  unfolding notice_parts
  notice_each at notice = both P (references_each at _ _ notice.roles) (optional_each at _ _ notice.activity)

  level_each : {A : Type 0} (at : At) (name : List ℕ) (level : Level) (xs : List A) → Each P (list_level_parts at name level xs)
  level_each at name level [] = none
  level_each at name level (x ∷ xs) = more tt none

  -- ---- completions

  of_run_each : (at : At) (by_run : Bool) (property : List ℕ) → Each P (of_run_parts at by_run property)
  of_run_each at false property = none
  of_run_each at true property = more tt none

  value_each : (at : At) (property : List ℕ) (value : Option (List ℕ)) → Each P (value_parts at property value)
  value_each at property None = none
  value_each at property (Some text) = more tt none

  value_set_each : (at : At) (by_run : Bool) (property : List ℕ) (value : Option (List ℕ)) → Each P (value_set_parts at by_run property value)
  unfolding value_set_parts
  value_set_each at by_run property value = more tt (more tt (both P (of_run_each at by_run property) (value_each at property value)))

  condition_true_each : (at : At) (role : List ℕ) (test : TestOf) → Each P (condition_true_parts at role test)
  unfolding condition_true_parts
  condition_true_each at role test = more tt (more tt (test_each _ true test))

  completed_each : (at : At) (thing : Kind) (complete : Completion) → Each P (completed_parts at thing complete)
  unfolding completed_parts
  completed_each at thing UserChoice = none
  completed_each at thing (TimeLimit _) = none
  completed_each at thing (WhenPropertyValueIsSet property value) = value_set_each _ _ property value
  completed_each at thing (WhenRolePartCompleted parts) = references_each at _ _ parts
  completed_each at thing (WhenConditionTrue role test) = condition_true_each _ role test
  completed_each at thing WhenLastActCompleted = none
  completed_each at thing (WhenPlayCompleted plays) = references_each at _ _ plays

  completion_each : (at : At) (thing : Kind) (complete : Option Completion) → Each P (completion_parts at thing complete)
  unfolding completion_parts
  completion_each at thing None = none
  completion_each at thing (Some complete) = more tt (completed_each _ thing complete)

  follows_each : (at : At) (by_run completes : Bool) (follows : OnCompletion) → Each P (follows_parts at by_run completes follows)
  unfolding follows_parts
  follows_each at by_run completes follows =
      more tt
      (both P (items_each at _ follows.feedback)
      (both P (level_each at _ _ follows.change)
      (both P (numbered P (λ i change. change_each _ by_run change) 0 follows.change)
      (both P (level_each at _ _ follows.notify)
      (numbered P (λ i notice. notice_each _ notice) 0 follows.notify)))))

  on_completion_each : (at : At) (thing : Kind) (completes : Bool) (follows : Option OnCompletion) → Each P (on_completion_parts at thing completes follows)
  unfolding on_completion_parts
  on_completion_each at thing completes None = none
  on_completion_each at thing completes (Some follows) = follows_each _ _ completes follows

  ending_each : (at : At) (thing : Kind) (complete : Option Completion) (follows : Option OnCompletion) → Each P (ending_parts at thing complete follows)
  unfolding ending_parts
  ending_each at thing complete follows =
      both P (completion_each at thing complete) (on_completion_each at thing (is_some complete) follows)

  -- ---- environments, activities and structures

  object_each : (at : At) (e o : ℕ) (object : LearningObject) → Each P (object_parts_at at e o object)
  unfolding object_parts_at
  object_each at e o object = more tt (items_each at _ object.items)

  service_each : (at : At) (e s : ℕ) (service : ServiceOf) → Each P (service_parts at e s service)
  unfolding service_parts
  service_each at e s service = more tt none

  environment_each : (at : At) (e : ℕ) (environment : EnvironmentOf) → Stands unit.environments e → Each P (environment_parts_at at e environment)
  unfolding environment_parts_at
  environment_each at e environment there =
      more there
      (both P (numbered P (λ o object. object_each _ e o object) 0 environment.learning_objects)
      (both P (numbered P (service_each at e) 0 environment.services)
      (references_each at _ _ environment.environments)))

  before_items_each : (at : At) (activity : ActivityOf) → Each P (parts_before_items at activity)
  unfolding parts_before_items
  before_items_each at activity =
      both P (items_each at _ activity.learning_objectives)
      (both P (items_each at _ activity.prerequisites)
      (both P (references_each at _ _ activity.supports) (references_each at _ _ activity.environments)))

  activity_each : (at : At) (a : ℕ) (activity : ActivityOf) → Stands unit.activities a → Each P (activity_parts_at at a activity)
  unfolding activity_parts_at
  activity_each at a activity there =
      more there
      (both P (before_items_each at activity)
      (both P (items_each at _ activity.items) (ending_each at _ activity.complete activity.on_completion)))

  structure_each : (at : At) (s : ℕ) (structure : StructureOf) → Stands unit.structures s → Each P (structure_parts_at at s structure)
  unfolding structure_parts_at
  structure_each at s structure there =
      more there
      (both P (references_each at _ _ structure.environments) (references_each at _ _ structure.children))

  -- ---- the method

  role_part_each : (at : At) (p a r : ℕ) (part : RolePartOf) → Each P (role_part_parts_at at p a r part)
  unfolding role_part_parts_at
  role_part_each at p a r part = more tt (more tt (more tt none))

  act_each : (at : At) (p a : ℕ) (act : ActOf) → Each P (act_parts_at at p a act)
  unfolding act_parts_at
  act_each at p a act =
      more tt
      (both P (numbered P (λ r part. role_part_each _ p a r part) 0 act.role_parts)
      (ending_each at _ act.complete act.on_completion))

  play_each : (at : At) (p : ℕ) (play : PlayOf) → Each P (play_parts_at at p play)
  unfolding play_parts_at
  play_each at p play =
      more tt
      (both P (numbered P (λ a act. act_each _ p a act) 0 play.acts)
      (ending_each at _ play.complete play.on_completion))

  method_each : (method : MethodOf) → Each P (method_parts method)
  unfolding method_parts
  method_each method =
      both P (numbered P (λ p play. play_each _ p play) 0 method.plays)
      (ending_each _ _ method.complete method.on_completion)

  -- ---- roles, properties and conditions

  roles_each : (at : At) (roles : List RoleRow) → Each P (map (role_part at) roles)
  unfolding role_part
  roles_each at [] = none
  roles_each at (role ∷ roles) = more tt (roles_each at roles)

  shared_each : (at : At) (uri : Option (List ℕ)) → Each P (shared_parts at uri)
  shared_each at None = none
  shared_each at (Some uri) = more tt none

  property_each : (at : At) (property : PropertyOf) → Each P (property_parts_at at property)
  unfolding property_parts_at
  property_each at property =
      more tt (both P (shared_each at property.uri) (more tt (optional_each at _ _ property.role)))

  action_each : (at : At) (one : Action) → Each P (action_parts at one)
  unfolding action_parts
  action_each at (action.Show things) = references_each at _ _ things
  action_each at (action.Hide things) = references_each at _ _ things
  action_each at (action.Change change) = change_each _ false change
  action_each at (action.Notify notice) = more tt (notice_each _ notice)

  condition_each : (at : At) (c : ℕ) (condition : Condition) → Each P (condition_parts_at at c condition)
  unfolding condition_parts_at
  condition_each at c condition =
      more tt (more tt
      (both P (test_each _ false condition.test)
      (both P (numbered P (λ i one. action_each _ one) 0 condition.yes)
      (numbered P (λ i one. action_each _ one) 0 condition.no))))

  -- ---- the whole

  middle_each : Each P (middle_parts unit)
  unfolding middle_parts
  middle_each =
      both P (numbered P (λ i property. property_each _ property) 0 unit.properties)
      (both P (each_at P (environment_parts (root file.Environments)) unit.environments
      (λ e environment at. environment_each _ e environment (record { element = environment; at = at })))
      (both P (each_at P (activity_parts (root file.Activities)) unit.activities
      (λ a activity at. activity_each _ a activity (record { element = activity; at = at })))
      (each_at P (structure_parts (root file.Activities)) unit.structures
      (λ s structure at. structure_each _ s structure (record { element = structure; at = at })))))

  unit_each : Each P (unit_parts unit)
  unfolding unit_parts
  unit_each =
      more tt (both P (items_each (root file.Unit) (codes "learning-objectives") unit.learning_objectives)
      (both P (items_each (root file.Unit) (codes "prerequisites") unit.prerequisites) (method_each unit.method)))

  all_each : Each P (parts_of unit)
  unfolding parts_of
  all_each =
      both P (roles_each _ (roles_of unit))
      (both P middle_each (both P unit_each (numbered P (λ c condition. condition_each _ c condition) 0 unit.conditions)))

  -- ---- things

  abbrev EntryStands : Entry → Type 0
  EntryStands entry = IsPlaceOf unit entry.place

  in_what : (what : What) → P what → All EntryStands (thing_in what)
  in_what (Declares (kind.Thing place) id visible) there = All-cons EntryStands _ [] there (All-nil EntryStands)
  in_what (Declares kind.Unit id visible) there = All-nil EntryStands
  in_what (Declares kind.Role id visible) there = All-nil EntryStands
  in_what (Declares kind.Property id visible) there = All-nil EntryStands
  in_what _ there = All-nil EntryStands

  all_among : (parts : List Part) → Each P parts → All EntryStands (things_in parts)
  all_among [] each = All-nil EntryStands
  all_among (part ∷ parts) each =
      All-append EntryStands (thing_in part.what) (things_in parts) (in_what part.what (first_of P each)) (all_among parts (rest_of P each))

  -- What stands at the place of a thing is there.
  pub place_there : (n : ℕ) (entry : Entry) → slice_get (things_of unit) n ≡ Some entry → IsPlaceOf unit entry.place
  place_there n entry at =
      let below = slice_get_within (things_of unit) n entry at in
      let same : Some (get_or (things_of unit) n entry) ≡ Some entry = sym (slice_get-get_or (things_of unit) n entry below) ∙ at in
      let is : get_or (things_of unit) n entry ≡ entry = cc in
      subst EntryStands is
      (All-get_or EntryStands (things_of unit) n entry below (all_among (parts_of unit) all_each))
