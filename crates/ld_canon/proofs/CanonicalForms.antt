-- A unit with its value texts as they are printed is as well-formed as the unit.
use Rattle.std.proofs.Common.{◌≡◌, ℕ, suc, List, [], ◌∷◌, map, length, Option, Some, None, option_map, Bool, false, ◌&&◌, ◌||◌, nat_le, refl, ap}
use Rattle.std.proofs.lemmas.List.{length-map}
use Rattle.std.specs.List.{list_all}
use Rattle.ld_formats.specs.Activities.{doing, content_by, supports_by, activity_by, activity}
use Rattle.ld_formats.specs.Changes.{change, on_completion}
use Rattle.ld_formats.specs.Completions.{common_cases, value_set, activity_completion, act_completion, play_completion, unit_completion, ending}
use Rattle.ld_formats.specs.Conditions.{action, condition, conditions_document}
use Rattle.ld_formats.specs.Environments.{environments_document}
use Rattle.ld_formats.specs.Items.{item}
use Rattle.ld_formats.specs.Methods.{part_in_act, act, play, method}
use Rattle.ld_formats.specs.Properties.{datatype, restrictions, role_by, uri_by, owner_and_values, property_by, property, properties_document}
use Rattle.ld_formats.specs.Roles.{roles_document}
use Rattle.ld_formats.specs.Structures.{activities_document}
use Rattle.ld_formats.specs.Terms.{is_formed_term, are_formed_terms}
use Rattle.ld_formats.specs.Tests.{is_formed_test, are_formed_tests, of_members}
use Rattle.ld_formats.specs.Units.{content_members, format, head, parts, method_documents, unit, is_well_formed}
use Rattle.ld_model.specs.Expressions.{TermOf, TermsOf, property_term, literal_term, list_term, pair_term, now_term, opened_term, started_term, no_term, term_and, list_of_terms, TestOf, TestsOf, compare_test, all_test, any_test, not_test, no_value_test, member_test, users_test, done_test, no_test, test_and, list_of_tests}
use Rattle.ld_model.specs.declared.activity.Activity.{Activity}
use Rattle.ld_model.specs.declared.activity.ActivityKind.{ActivityKind}
use Rattle.ld_model.specs.declared.completion.Change.{Change as ChangeOf}
use Rattle.ld_model.specs.declared.completion.Completion.{Completion}
use Rattle.ld_model.specs.declared.completion.Completion.TheVariants.{UserChoice, TimeLimit, WhenPropertyValueIsSet, WhenRolePartCompleted, WhenConditionTrue, WhenLastActCompleted, WhenPlayCompleted}
use Rattle.ld_model.specs.declared.completion.OnCompletion.{OnCompletion}
use Rattle.ld_model.specs.declared.condition.Action.{Action}
use Rattle.ld_model.specs.declared.condition.Action.TheVariants.{Show, Hide, Change, Notify}
use Rattle.ld_model.specs.declared.condition.Condition.{Condition}
use Rattle.ld_model.specs.declared.method.Act.{Act}
use Rattle.ld_model.specs.declared.method.Method.{Method}
use Rattle.ld_model.specs.declared.method.Play.{Play}
use Rattle.ld_model.specs.declared.property.Property.{Property}
use Rattle.ld_model.specs.declared.property.Restrictions.{Restrictions}
use Rattle.ld_model.specs.declared.unit.Unit.{Unit}
use Rattle.ld_shape.specs.Forms.{identifier, number, text, title}
use Rattle.ld_shape.specs.Keeping.{if_given, anything}
use Rattle.ld_shape.specs.Lists.{list_of}
use Rattle.ld_value.specs.declared.kind.Kind.{Kind}
use Rattle.ld_canon.specs.Canonical.{canonical_text, Kinds, kinds_of, canonical_of, canonical_term, canonical_terms, canonical_test, canonical_tests, canonical_change, canonical_follows, canonical_completion, canonical_restrictions, canonical_property, canonical_action, canonical_condition, canonical_activity, canonical_act, canonical_play, canonical_method, canonical}

-- ---- tests of what was changed

and_same : {a b c d : Bool} → a ≡ b → c ≡ d → (a && c) ≡ (b && d)
and_same here next = λ i. here i && next i

next_same : (a : Bool) {c d : Bool} → c ≡ d → (a && c) ≡ (a && d)
next_same a next = λ i. a && next i

or_same : {a b : Bool} → a ≡ b → (a || false) ≡ (b || false)
or_same here = λ i. here i || false

given_same : {A : Type 0} (form : A → Bool) (f : A → A) → ((x : A) → form (f x) ≡ form x) → (o : Option A)
    → if_given form (option_map f o) ≡ if_given form o
given_same form f law None = refl
given_same form f law (Some x) = law x

all_same : {A : Type 0} (form : A → Bool) (f : A → A) → ((x : A) → form (f x) ≡ form x) → (xs : List A)
    → list_all form (map f xs) ≡ list_all form xs
all_same form f law [] = refl
all_same form f law (x ∷ xs) = and_same (law x) (all_same form f law xs)

list_same : {A : Type 0} (fits : ℕ → Bool) (form : A → Bool) (f : A → A) → ((x : A) → form (f x) ≡ form x) → (xs : List A)
    → (fits (length (map f xs)) && list_all form (map f xs)) ≡ (fits (length xs) && list_all form xs)
list_same fits form f law xs = and_same (ap fits (length-map xs f)) (all_same form f law xs)

-- ---- expressions

count_terms : (terms : TermsOf) → length (list_of_terms (canonical_terms terms)) ≡ length (list_of_terms terms)
count_terms no_term = refl
count_terms (term_and term terms) = ap (λ n. suc n) (count_terms terms)

mutual
  term_same : (t : TermOf) → is_formed_term (canonical_term t) ≡ is_formed_term t
  term_same (property_term id) = refl
  term_same (literal_term kind text) = refl
  term_same (list_term operator terms) = and_same (ap (nat_le 2) (count_terms terms)) (terms_same terms)
  term_same (pair_term operator a b) = and_same (term_same a) (term_same b)
  term_same now_term = refl
  term_same (opened_term id) = refl
  term_same started_term = refl

  terms_same : (ts : TermsOf) → are_formed_terms (canonical_terms ts) ≡ are_formed_terms ts
  terms_same no_term = refl
  terms_same (term_and t ts) = and_same (term_same t) (terms_same ts)

count_tests : (tests : TestsOf) → length (list_of_tests (canonical_tests tests)) ≡ length (list_of_tests tests)
count_tests no_test = refl
count_tests (test_and test tests) = ap (λ n. suc n) (count_tests tests)

mutual
  test_same : (t : TestOf) → is_formed_test (canonical_test t) ≡ is_formed_test t
  test_same (compare_test comparison a b) = and_same (term_same a) (term_same b)
  test_same (all_test tests) = and_same (ap (nat_le 2) (count_tests tests)) (tests_same tests)
  test_same (any_test tests) = and_same (ap (nat_le 2) (count_tests tests)) (tests_same tests)
  test_same (not_test test) = test_same test
  test_same (no_value_test id) = refl
  test_same (member_test role) = refl
  test_same (users_test role test) = next_same (identifier.has_form role) (test_same test)
  test_same (done_test thing) = refl

  tests_same : (ts : TestsOf) → are_formed_tests (canonical_tests ts) ≡ are_formed_tests ts
  tests_same no_test = refl
  tests_same (test_and t ts) = and_same (test_same t) (tests_same ts)

-- ---- what follows

change_same : (x : ChangeOf) → change.has_form (canonical_change x) ≡ change.has_form x
unfolding change
change_same x = next_same (identifier.has_form x.property) (term_same x.value)

follows_same : (x : OnCompletion) → on_completion.has_form (canonical_follows x) ≡ on_completion.has_form x
unfolding on_completion
follows_same x = next_same ((list_of 0 item).has_form x.feedback)
    (and_same (list_same (nat_le 0) change.has_form canonical_change change_same x.change) refl)

-- ---- completions

value_same : (kind : Option Kind) (property : List ℕ) (value : Option (List ℕ))
    → value_set.has_form (property, option_map (canonical_of kind) value) ≡ value_set.has_form (property, value)
unfolding value_set
value_same kind property value = next_same (identifier.has_form property) (given_same anything (canonical_of kind) (λ _. refl) value)

of_members_same : (role : List ℕ) (t : TestOf)
    → (identifier.has_form role && is_formed_test (canonical_test t)) ≡ (identifier.has_form role && is_formed_test t)
of_members_same role t = next_same (identifier.has_form role) (test_same t)

activity_completion_same : (kinds : Kinds) (x : Completion)
    → activity_completion.has_form (canonical_completion kinds x) ≡ activity_completion.has_form x
unfolding activity_completion common_cases
activity_completion_same kinds UserChoice = refl
activity_completion_same kinds (TimeLimit span) = refl
activity_completion_same kinds (WhenPropertyValueIsSet property value) = or_same (value_same (kinds property) property value)
activity_completion_same kinds (WhenRolePartCompleted _) = refl
activity_completion_same kinds (WhenConditionTrue role test) = refl
activity_completion_same kinds WhenLastActCompleted = refl
activity_completion_same kinds (WhenPlayCompleted plays) = refl

act_completion_same : (kinds : Kinds) (x : Completion)
    → act_completion.has_form (canonical_completion kinds x) ≡ act_completion.has_form x
unfolding act_completion common_cases of_members
act_completion_same kinds UserChoice = refl
act_completion_same kinds (TimeLimit span) = refl
act_completion_same kinds (WhenPropertyValueIsSet property value) = or_same (value_same (kinds property) property value)
act_completion_same kinds (WhenRolePartCompleted _) = refl
act_completion_same kinds (WhenConditionTrue role test) = or_same (of_members_same role test)
act_completion_same kinds WhenLastActCompleted = refl
act_completion_same kinds (WhenPlayCompleted plays) = refl

play_completion_same : (kinds : Kinds) (x : Completion)
    → play_completion.has_form (canonical_completion kinds x) ≡ play_completion.has_form x
unfolding play_completion common_cases
play_completion_same kinds UserChoice = refl
play_completion_same kinds (TimeLimit span) = refl
play_completion_same kinds (WhenPropertyValueIsSet property value) = or_same (value_same (kinds property) property value)
play_completion_same kinds (WhenRolePartCompleted _) = refl
play_completion_same kinds (WhenConditionTrue role test) = refl
play_completion_same kinds WhenLastActCompleted = refl
play_completion_same kinds (WhenPlayCompleted plays) = refl

unit_completion_same : (kinds : Kinds) (x : Completion)
    → unit_completion.has_form (canonical_completion kinds x) ≡ unit_completion.has_form x
unfolding unit_completion common_cases
unit_completion_same kinds UserChoice = refl
unit_completion_same kinds (TimeLimit span) = refl
unit_completion_same kinds (WhenPropertyValueIsSet property value) = or_same (value_same (kinds property) property value)
unit_completion_same kinds (WhenRolePartCompleted _) = refl
unit_completion_same kinds (WhenConditionTrue role test) = refl
unit_completion_same kinds WhenLastActCompleted = refl
unit_completion_same kinds (WhenPlayCompleted plays) = refl

-- When a thing is completed, and what follows.
ending_same : (form : Completion → Bool) (kinds : Kinds)
    → ((x : Completion) → form (canonical_completion kinds x) ≡ form x)
    → (complete : Option Completion) (follows : Option OnCompletion)
    → (if_given form (option_map (canonical_completion kinds) complete)
    && if_given on_completion.has_form (option_map canonical_follows follows))
    ≡ (if_given form complete && if_given on_completion.has_form follows)
ending_same form kinds law complete follows =
    and_same (given_same form (canonical_completion kinds) law complete)
    (given_same on_completion.has_form canonical_follows follows_same follows)

-- ---- activities

activity_by_same : (of_kind : ActivityKind) (kinds : Kinds) (x : Activity)
    → (activity_by of_kind).has_form (canonical_activity kinds x) ≡ (activity_by of_kind).has_form x
unfolding activity_by content_by doing
activity_by_same of_kind kinds x =
    next_same (identifier.has_form x.identifier)
    (next_same (anything x.kind)
    (next_same (if_given title.has_form x.title)
    (next_same (anything x.visible)
    (next_same ((list_of 0 item).has_form x.learning_objectives)
    (next_same ((list_of 0 item).has_form x.prerequisites)
    (next_same ((supports_by of_kind).shape.has_form x.supports)
    (next_same ((list_of 0 identifier).has_form x.environments)
    (next_same ((list_of 0 item).has_form x.items)
    (ending_same activity_completion.has_form kinds (activity_completion_same kinds) x.complete x.on_completion)))))))))

activity_same : (kinds : Kinds) (x : Activity) → activity.has_form (canonical_activity kinds x) ≡ activity.has_form x
unfolding activity
activity_same kinds x = activity_by_same x.kind kinds x

-- ---- the method

act_same : (kinds : Kinds) (x : Act) → act.has_form (canonical_act kinds x) ≡ act.has_form x
unfolding act ending
act_same kinds x =
    next_same (identifier.has_form x.identifier)
    (next_same (if_given title.has_form x.title)
    (next_same ((list_of 1 part_in_act).has_form x.role_parts)
    (ending_same act_completion.has_form kinds (act_completion_same kinds) x.complete x.on_completion)))

play_same : (kinds : Kinds) (x : Play) → play.has_form (canonical_play kinds x) ≡ play.has_form x
unfolding play ending
play_same kinds x =
    next_same (identifier.has_form x.identifier)
    (next_same (if_given title.has_form x.title)
    (next_same (anything x.visible)
    (and_same (list_same (nat_le 1) act.has_form (canonical_act kinds) (act_same kinds) x.acts)
    (ending_same play_completion.has_form kinds (play_completion_same kinds) x.complete x.on_completion))))

method_same : (kinds : Kinds) (x : Method) → method.has_form (canonical_method kinds x) ≡ method.has_form x
unfolding method ending
method_same kinds x =
    and_same (list_same (nat_le 1) play.has_form (canonical_play kinds) (play_same kinds) x.plays)
    (ending_same unit_completion.has_form kinds (unit_completion_same kinds) x.complete x.on_completion)

-- ---- properties

restrictions_same : (kind : Kind) (x : Restrictions)
    → restrictions.has_form (canonical_restrictions kind x) ≡ restrictions.has_form x
unfolding restrictions
restrictions_same kind x =
    and_same (given_same anything (canonical_text kind) (λ _. refl) x.min_inclusive)
    (and_same (given_same anything (canonical_text kind) (λ _. refl) x.max_inclusive)
    (next_same (if_given (number 0 4096).has_form x.min_length)
    (next_same (if_given (number 0 4096).has_form x.max_length)
    (and_same (and_same (ap (λ n. nat_le n 100) (length-map x.enumeration (canonical_text kind)))
    (all_same anything (canonical_text kind) (λ _. refl) x.enumeration)) refl))))

property_by_same : (x : Property) → (property_by (Some x.kind)).has_form (canonical_property x)
    ≡ (property_by (Some x.kind)).has_form x
unfolding property_by owner_and_values
property_by_same x =
    next_same (identifier.has_form x.identifier)
    (next_same (anything x.kind)
    (next_same (datatype.has_form x.datatype)
    (next_same (if_given title.has_form x.title)
    (next_same ((role_by (Some x.kind)).shape.has_form x.role)
    (next_same ((uri_by (Some x.kind)).shape.has_form x.uri)
    (and_same (given_same anything (canonical_text x.datatype) (λ _. refl) x.initial)
    (given_same restrictions.has_form (canonical_restrictions x.datatype) (restrictions_same x.datatype) x.restrictions)))))))

property_same : (x : Property) → property.has_form (canonical_property x) ≡ property.has_form x
unfolding property
property_same x = property_by_same x

-- ---- conditions

action_same : (x : Action) → action.has_form (canonical_action x) ≡ action.has_form x
unfolding action
action_same (Show things) = refl
action_same (Hide things) = refl
action_same (Change one) = or_same (change_same one)
action_same (Notify one) = refl

condition_same : (x : Condition) → condition.has_form (canonical_condition x) ≡ condition.has_form x
unfolding condition
condition_same x = and_same (test_same x.test)
    (and_same (list_same (nat_le 1) action.has_form canonical_action action_same x.yes)
    (list_same (nat_le 0) action.has_form canonical_action action_same x.no))

-- ---- the unit

-- It is well-formed exactly where the unit is.
pub unit_same : (x : Unit) → is_well_formed (canonical x) ≡ is_well_formed x
unfolding is_well_formed unit canonical parts method_documents properties_document activities_document conditions_document head content_members
unit_same x =
    let kinds = kinds_of x.properties in
    and_same
    (next_same (roles_document.has_form x.roles)
    (and_same (list_same (nat_le 0) property.has_form canonical_property property_same x.properties)
    (next_same (environments_document.has_form x.environments) (and_same (list_same (nat_le 0) activity.has_form (canonical_activity kinds) (activity_same kinds) x.activities) refl))))
    (and_same
    (next_same (format.has_form x.format)
    (next_same (identifier.has_form x.identifier)
    (next_same (anything x.level)
    (next_same (if_given title.has_form x.title)
    (next_same ((number 1 256).has_form x.turns)
    (next_same (if_given (text 0 4096).has_form x.metadata)
    (next_same ((list_of 0 item).has_form x.learning_objectives)
    (next_same ((list_of 0 item).has_form x.prerequisites)
    (method_same kinds x.method)))))))))
    (list_same (nat_le 0) condition.has_form canonical_condition condition_same x.conditions))
