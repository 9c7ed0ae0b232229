-- The tests of a valid unit look at the moment of the command only as one side of a comparison.
use Rattle.std.proofs.Common.{◌≡◌, refl, sym, subst, ◌∙◌, ℕ, zero, suc, ◌+◌, List, [], ◌∷◌, ◌++◌, map, slice_get, Option, Some, None, Bool, true, false, not, ◌||◌, codes, is_some}
use Rattle.std.proofs.lemmas.Grind.{flat_map-append}
use Rattle.ld_base.specs.Maybe.{◌>>=◌}
use Rattle.ld_json.specs.declared.file.FileNo.TheVariants as file
use Rattle.ld_model.specs.Counting.{each_numbered, each_numbered_from}
use Rattle.ld_model.specs.Expressions.{TermOf, TermsOf, property_term, literal_term, list_term, pair_term, now_term, opened_term, started_term, no_term, term_and, TestOf, TestsOf, compare_test, all_test, any_test, not_test, no_value_test, member_test, users_test, done_test, no_test, test_and}
use Rattle.ld_model.specs.Roles.{roles_of}
use Rattle.ld_model.specs.declared.activity.Activity.{Activity}
use Rattle.ld_model.specs.declared.completion.Completion.{Completion}
use Rattle.ld_model.specs.declared.completion.Completion.TheVariants.{UserChoice, TimeLimit, WhenPropertyValueIsSet, WhenRolePartCompleted, WhenConditionTrue, WhenLastActCompleted, WhenPlayCompleted}
use Rattle.ld_model.specs.declared.completion.OnCompletion.{OnCompletion}
use Rattle.ld_model.specs.declared.condition.Condition.{Condition}
use Rattle.ld_model.specs.declared.method.Act.{Act}
use Rattle.ld_model.specs.declared.method.Play.{Play}
use Rattle.ld_model.specs.declared.unit.Level.TheVariants.{B}
use Rattle.ld_model.specs.declared.unit.Unit.{Unit}
use Rattle.ld_names.specs.Names.{names_of}
use Rattle.ld_parts.specs.Listing.{parts_of, middle_parts, unit_parts, method_parts, method_at, condition_true_parts, completion_level, completed_parts, completion_parts, ending_parts, on_completion_parts, parts_before_items, activity_parts, activity_parts_at, structure_parts, environment_parts, property_parts, role_part, role_part_parts, act_parts, act_parts_at, play_parts, play_parts_at, condition_parts, condition_parts_at, nth_action_parts}
use Rattle.ld_walk.specs.CommonParts.{items_parts, shown_part, unshown_part, reference_part}
use Rattle.ld_walk.specs.ExpressionParts.{reads_clock, any_reads_clock, plain_part, clock_parts, term_parts, terms_parts, within_members, test_parts, tests_parts, list_operator_word, pair_operator_word, comparison_word}
use Rattle.ld_walk.specs.declared.kind.Kind.{Kind}
use Rattle.ld_walk.specs.declared.kind.Kind.TheVariants as kind
use Rattle.ld_walk.specs.declared.kind.Wanted.TheVariants as wanted
use Rattle.ld_walk.specs.declared.place.Place.TheVariants as place
use Rattle.ld_walk.specs.Parts.{Completes, Declares, Judges, Part, Refers, Tested, Types}
use Rattle.ld_walk.specs.Places.{At, member, item_at, nth, root}
use Rattle.ld_value.proofs.Choices.{both}
use Rattle.ld_refs.specs.Bounds.{level_faults, profile_faults, profile_faults_of}
use Rattle.ld_refs.specs.Checks.{IsValid, text_faults, check_faults, meaning_faults}
use Rattle.ld_refs.specs.Extents.{play_at, act_at}
use Rattle.ld_refs.specs.Reaching.{cycle_faults}
use Rattle.ld_refs.specs.Targets.{target_faults}
use Rattle.ld_refs.proofs.Unrepeated.{none_before, none_behind}
use Rattle.ld_alarm.proofs.Timely.{is_plain, is_timely, are_timely, is_timely_rule, is_timely_if, IsTimelyUnit}

-- ---- lists of parts

-- Where parts give no fault, those in front give none, and those behind.
front_none : (front back : List Part) → profile_faults (front ++ back) ≡ [] → profile_faults front ≡ []
front_none front back none =
    none_before (profile_faults front) (profile_faults back) (sym (flat_map-append profile_faults_of front back) ∙ none)

back_none : (front back : List Part) → profile_faults (front ++ back) ≡ [] → profile_faults back ≡ []
back_none front back none =
    none_behind (profile_faults front) (profile_faults back) (sym (flat_map-append profile_faults_of front back) ∙ none)

-- Behind the first part.
rest_none : (part : Part) (parts : List Part) → profile_faults (part ∷ parts) ≡ [] → profile_faults parts ≡ []
rest_none part parts none = none_behind (profile_faults_of part) (profile_faults parts) none

-- Of each element of a list.
element_none : {A : Type 0} → (f : ℕ → A → List Part) (n k : ℕ) (xs : List A) (x : A)
    → profile_faults (each_numbered_from f n xs) ≡ [] → slice_get xs k ≡ Some x → (m : ℕ) × (profile_faults (f m x) ≡ [])
element_none f n k [] x none at = absurd (cc)
element_none f n zero (y ∷ ys) x none at =
    let same : y ≡ x = cc in
    (n, subst (λ z. profile_faults (f n z) ≡ []) same (front_none (f n y) (each_numbered_from f (n + 1) ys) none))
element_none f n (suc k) (y ∷ ys) x none at =
    element_none f (n + 1) k ys x (back_none (f n y) (each_numbered_from f (n + 1) ys) none) at

-- ---- terms and tests

neither_of : (a b : Bool) → a ≡ false → b ≡ false → a || b ≡ false
neither_of false false one two = refl
neither_of false true one two = absurd (cc)
neither_of true b one two = absurd (cc)

not_from : (b : Bool) → b ≡ false → not b ≡ true
not_from false is = refl
not_from true is = absurd (cc)

no_clock : (at : At) (of_members : Bool) (clock : Bool) → profile_faults (clock_parts at of_members clock) ≡ [] → clock ≡ true
no_clock at of_members true none = refl
no_clock at of_members false none = absurd (cc)

mutual
  -- A term that may not be the moment of the command does not look at it.
  free_term : (at : At) (of_members : Bool) (term : TermOf) → profile_faults (term_parts at of_members false term) ≡ []
      → reads_clock term ≡ false
  free_term at of_members (property_term id) none = refl
  free_term at of_members (literal_term kind text) none = refl
  free_term at of_members (list_term operator terms) none =
      free_terms (member at (list_operator_word operator)) of_members 0 terms none
  free_term at of_members (pair_term operator a b) none =
      let first = term_parts (nth at (pair_operator_word operator) 0) of_members false a in
      let second = term_parts (nth at (pair_operator_word operator) 1) of_members false b in
      neither_of (reads_clock a) (reads_clock b)
      (free_term (nth at (pair_operator_word operator) 0) of_members a (front_none first second none))
      (free_term (nth at (pair_operator_word operator) 1) of_members b (back_none first second none))
  free_term at of_members now_term none = let wrong = no_clock at of_members false none in absurd (cc)
  free_term at of_members (opened_term id) none = refl
  free_term at of_members started_term none = refl

  free_terms : (at : At) (of_members : Bool) (n : ℕ) (terms : TermsOf) → profile_faults (terms_parts at of_members n terms) ≡ []
      → any_reads_clock terms ≡ false
  free_terms at of_members n no_term none = refl
  free_terms at of_members n (term_and term terms) none =
      let first = term_parts (item_at at n) of_members false term in
      let more = terms_parts at of_members (n + 1) terms in
      neither_of (reads_clock term) (any_reads_clock terms)
      (free_term (item_at at n) of_members term (front_none first more none))
      (free_terms at of_members (n + 1) terms (back_none first more none))

-- A side of a comparison is plain.
plain_term : (at : At) (of_members clock : Bool) (term : TermOf) → profile_faults (term_parts at of_members clock term) ≡ []
    → is_plain clock term ≡ true
plain_term at of_members clock (property_term id) none = refl
plain_term at of_members clock (literal_term kind text) none = refl
plain_term at of_members clock (list_term operator terms) none =
    not_from (any_reads_clock terms) (free_terms (member at (list_operator_word operator)) of_members 0 terms none)
plain_term at of_members clock (pair_term operator a b) none =
    not_from (reads_clock a || reads_clock b) (free_term at of_members (pair_term operator a b) none)
plain_term at of_members clock now_term none = no_clock at of_members clock none
plain_term at of_members clock (opened_term id) none = refl
plain_term at of_members clock started_term none = refl

mutual
  timely_test : (at : At) (of_members : Bool) (test : TestOf) → profile_faults (test_parts at of_members test) ≡ []
      → is_timely test ≡ true
  timely_test at of_members (compare_test comparison a b) none =
      let first = term_parts (nth at (comparison_word comparison) 0) of_members (not (reads_clock b)) a in
      let second = term_parts (nth at (comparison_word comparison) 1) of_members (not (reads_clock a)) b in
      both (is_plain (not (reads_clock b)) a) (is_plain (not (reads_clock a)) b)
      (plain_term (nth at (comparison_word comparison) 0) of_members (not (reads_clock b)) a (front_none first second none))
      (plain_term (nth at (comparison_word comparison) 1) of_members (not (reads_clock a)) b (back_none first second none))
  timely_test at of_members (all_test tests) none = timely_tests (member at (codes "and")) of_members 0 tests none
  timely_test at of_members (any_test tests) none = timely_tests (member at (codes "or")) of_members 0 tests none
  timely_test at of_members (not_test test) none = timely_test (member at (codes "not")) of_members test none
  timely_test at of_members (no_value_test property) none = refl
  timely_test at of_members (member_test role) none = refl
  timely_test at of_members (users_test role test) none =
      let place = member at (codes "users-in-role") in
      let inner = test_parts (member place (codes "expression")) true test in
      let reference = plain_part (member place (codes "role")) (Refers wanted.Role role) in
      timely_test (member place (codes "expression")) true test
      (rest_none reference inner (back_none (within_members at of_members) (reference ∷ inner) none))
  timely_test at of_members (done_test thing) none = refl

  timely_tests : (at : At) (of_members : Bool) (n : ℕ) (tests : TestsOf) → profile_faults (tests_parts at of_members n tests) ≡ []
      → are_timely tests ≡ true
  timely_tests at of_members n no_test none = refl
  timely_tests at of_members n (test_and test tests) none =
      let first = test_parts (item_at at n) of_members test in
      let more = tests_parts at of_members (n + 1) tests in
      both (is_timely test) (are_timely tests)
      (timely_test (item_at at n) of_members test (front_none first more none))
      (timely_tests at of_members (n + 1) tests (back_none first more none))

-- ---- completions

timely_completion : (at : At) (thing : Kind) (completion : Completion) → profile_faults (completed_parts at thing completion) ≡ []
    → is_timely_rule completion ≡ true
unfolding completed_parts condition_true_parts
timely_completion at thing UserChoice none = refl
timely_completion at thing (TimeLimit seconds) none = refl
timely_completion at thing (WhenPropertyValueIsSet property text) none = refl
timely_completion at thing (WhenRolePartCompleted parts) none = refl
timely_completion at thing (WhenConditionTrue role test) none =
    let place = member at (codes "when-condition-true") in
    let inner = test_parts (member place (codes "expression")) true test in
    let typed = plain_part (member place (codes "expression")) (Types (Tested test)) in
    timely_test (member place (codes "expression")) true test
    (rest_none typed inner (rest_none (reference_part place (codes "role") wanted.Role role) (typed ∷ inner) none))
timely_completion at thing WhenLastActCompleted none = refl
timely_completion at thing (WhenPlayCompleted plays) none = refl

timely_if : (at : At) (thing : Kind) (completion : Option Completion) → profile_faults (completion_parts at thing completion) ≡ []
    → is_timely_if completion ≡ true
unfolding completion_parts
timely_if at thing None none = refl
timely_if at thing (Some completion) none =
    let place = member at (codes "complete") in
    timely_completion place thing completion
    (rest_none (record { at = place; level = completion_level completion; what = Completes thing }) (completed_parts place thing completion) none)

timely_ending : (at : At) (thing : Kind) (completion : Option Completion) (follows : Option OnCompletion)
    → profile_faults (ending_parts at thing completion follows) ≡ [] → is_timely_if completion ≡ true
unfolding ending_parts
timely_ending at thing completion follows none =
    timely_if at thing completion
    (front_none (completion_parts at thing completion) (on_completion_parts at thing (is_some completion) follows) none)

timely_activity : (at : At) (a : ℕ) (activity : Activity) → profile_faults (activity_parts_at at a activity) ≡ []
    → is_timely_if activity.complete ≡ true
unfolding activity_parts_at
timely_activity at a activity none =
    let thing = kind.Thing (place.Activity a) in
    let ending = ending_parts at thing activity.complete activity.on_completion in
    let items = items_parts at (codes "items") activity.items in
    let before = parts_before_items at activity in
    timely_ending at thing activity.complete activity.on_completion
    (back_none items ending (back_none before (items ++ ending)
    (rest_none (shown_part at (place.Activity a) activity.identifier activity.visible) (before ++ (items ++ ending)) none)))

timely_act : (at : At) (p a : ℕ) (act : Act) → profile_faults (act_parts_at at p a act) ≡ []
    → is_timely_if act.complete ≡ true
unfolding act_parts_at
timely_act at p a act none =
    let thing = kind.Thing (place.Act p a) in
    let ending = ending_parts at thing act.complete act.on_completion in
    let parts = each_numbered (role_part_parts at p a) act.role_parts in
    timely_ending at thing act.complete act.on_completion
    (back_none parts ending (rest_none (unshown_part at (place.Act p a) act.identifier) (parts ++ ending) none))

acts_none : (at : At) (p : ℕ) (play : Play) → profile_faults (play_parts_at at p play) ≡ []
    → profile_faults (each_numbered (act_parts at p) play.acts) ≡ []
unfolding play_parts_at
acts_none at p play none =
    let ending = ending_parts at (kind.Thing (place.Play p)) play.complete play.on_completion in
    let acts = each_numbered (act_parts at p) play.acts in
    front_none acts ending (rest_none (shown_part at (place.Play p) play.identifier play.visible) (acts ++ ending) none)

timely_play : (at : At) (p : ℕ) (play : Play) → profile_faults (play_parts_at at p play) ≡ []
    → is_timely_if play.complete ≡ true
unfolding play_parts_at
timely_play at p play none =
    let thing = kind.Thing (place.Play p) in
    let ending = ending_parts at thing play.complete play.on_completion in
    let acts = each_numbered (act_parts at p) play.acts in
    timely_ending at thing play.complete play.on_completion
    (back_none acts ending (rest_none (shown_part at (place.Play p) play.identifier play.visible) (acts ++ ending) none))

timely_condition : (at : At) (c : ℕ) (condition : Condition) → profile_faults (condition_parts_at at c condition) ≡ []
    → is_timely condition.test ≡ true
unfolding condition_parts_at
timely_condition at c condition none =
    let place = member at (codes "if") in
    let tested = test_parts place false condition.test in
    let actions = each_numbered (nth_action_parts at (codes "then")) condition.yes ++ each_numbered (nth_action_parts at (codes "else")) condition.no in
    let typed = plain_part place (Types (Tested condition.test)) in
    timely_test place false condition.test
    (front_none tested actions
    (rest_none typed (tested ++ actions)
    (rest_none (record { at = at; level = B; what = Judges c }) (typed ∷ (tested ++ actions)) none)))

-- ---- the unit

profile_holds : (unit : Unit) → check_faults unit ≡ [] → profile_faults (parts_of unit) ≡ []
unfolding check_faults meaning_faults
profile_holds unit none =
    let names = names_of unit in
    let parts = parts_of unit in
    let meaning : meaning_faults unit names parts ≡ [] = none_before _ _ (none_behind (text_faults parts) _ none) in
    let behind_targets = none_behind (target_faults names parts) _ meaning in
    let behind_cycles = none_behind (cycle_faults unit names) _ behind_targets in
    let behind_levels = none_behind (level_faults unit.level parts) _ behind_cycles in
    none_before (profile_faults parts) _ behind_levels

-- The lists of which the unit's parts are made.
record HaveNone (unit : Unit) : Type 0 where
  activities : profile_faults (each_numbered (activity_parts (root file.Activities)) unit.activities) ≡ []
  plays : profile_faults (each_numbered (play_parts method_at) unit.method.plays) ≡ []
  ending : profile_faults (ending_parts method_at kind.Unit unit.method.complete unit.method.on_completion) ≡ []
  conditions : profile_faults (each_numbered (condition_parts (root file.Conditions)) unit.conditions) ≡ []

have_none : (unit : Unit) → profile_faults (parts_of unit) ≡ [] → HaveNone unit
unfolding parts_of middle_parts unit_parts method_parts
have_none unit none =
    let roles = map (role_part (root file.Roles)) (roles_of unit) in
    let properties = each_numbered (property_parts (root file.Properties)) unit.properties in
    let environments = each_numbered (environment_parts (root file.Environments)) unit.environments in
    let activities = each_numbered (activity_parts (root file.Activities)) unit.activities in
    let structures = each_numbered (structure_parts (root file.Activities)) unit.structures in
    let conditions = each_numbered (condition_parts (root file.Conditions)) unit.conditions in
    let objectives = items_parts (root file.Unit) (codes "learning-objectives") unit.learning_objectives in
    let prerequisites = items_parts (root file.Unit) (codes "prerequisites") unit.prerequisites in
    let plays = each_numbered (play_parts method_at) unit.method.plays in
    let ending = ending_parts method_at kind.Unit unit.method.complete unit.method.on_completion in
    let behind_roles = back_none roles (middle_parts unit ++ (unit_parts unit ++ conditions)) none in
    let middle = front_none (middle_parts unit) (unit_parts unit ++ conditions) behind_roles in
    let behind_middle = back_none (middle_parts unit) (unit_parts unit ++ conditions) behind_roles in
    let whole = front_none (unit_parts unit) conditions behind_middle in
    let behind_properties = back_none properties (environments ++ (activities ++ structures)) middle in
    let behind_environments = back_none environments (activities ++ structures) behind_properties in
    let behind_unit = rest_none (plain_part (root file.Unit) (Declares kind.Unit unit.identifier None)) (objectives ++ (prerequisites ++ (plays ++ ending))) whole in
    let behind_objectives = back_none objectives (prerequisites ++ (plays ++ ending)) behind_unit in
    let method = back_none prerequisites (plays ++ ending) behind_objectives in
    record {
      activities = front_none activities structures behind_environments;
      plays = front_none plays ending method;
      ending = back_none plays ending method;
      conditions = back_none (unit_parts unit) conditions behind_middle;
    }

module _ (unit : Unit) (none : HaveNone unit) where
  of_conditions : (n : ℕ) (condition : Condition) → slice_get unit.conditions n ≡ Some condition → is_timely condition.test ≡ true
  of_conditions n condition at =
      let there = element_none (condition_parts (root file.Conditions)) 0 n unit.conditions condition none.conditions at in
      timely_condition (nth (root file.Conditions) (codes "conditions") there.0) there.0 condition there.1

  of_activities : (n : ℕ) (activity : Activity) → slice_get unit.activities n ≡ Some activity → is_timely_if activity.complete ≡ true
  of_activities n activity at =
      let there = element_none (activity_parts (root file.Activities)) 0 n unit.activities activity none.activities at in
      timely_activity (nth (root file.Activities) (codes "activities") there.0) there.0 activity there.1

  of_plays : (p : ℕ) (play : Play) → slice_get unit.method.plays p ≡ Some play → is_timely_if play.complete ≡ true
  of_plays p play at =
      let there = element_none (play_parts method_at) 0 p unit.method.plays play none.plays at in
      timely_play (nth method_at (codes "plays") there.0) there.0 play there.1

  of_acts_in : (p a : ℕ) (play : Play) (act : Act) → slice_get unit.method.plays p ≡ Some play → slice_get play.acts a ≡ Some act
      → is_timely_if act.complete ≡ true
  of_acts_in p a play act at inside =
      let there = element_none (play_parts method_at) 0 p unit.method.plays play none.plays at in
      let place = nth method_at (codes "plays") there.0 in
      let within = element_none (act_parts place there.0) 0 a play.acts act (acts_none place there.0 play there.1) inside in
      timely_act (nth place (codes "acts") within.0) there.0 within.0 act within.1

of_acts : (unit : Unit) → HaveNone unit → (p a : ℕ) (act : Act) → act_at unit p a ≡ Some act → is_timely_if act.complete ≡ true
of_acts unit none p a act at = by (play_at unit p) refl at
  where
    by : (found : Option Play) → play_at unit p ≡ found → (found >>= λ play. slice_get play.acts a) ≡ Some act
        → is_timely_if act.complete ≡ true
    by None is there = absurd (cc)
    by (Some play) is there = of_acts_in unit none p a play act is there

pub timely_unit : (unit : Unit) → IsValid unit → IsTimelyUnit unit
timely_unit unit valid =
    let none = have_none unit (profile_holds unit valid.faultless) in
    record {
      conditions = of_conditions unit none;
      activities = of_activities unit none;
      acts = of_acts unit none;
      plays = of_plays unit none;
      whole = timely_ending method_at kind.Unit unit.method.complete unit.method.on_completion none.ending;
    }
