-- Value texts as they are printed: once more changes nothing, and just equal values have equal texts.
use Rattle.std.proofs.Common.{◌≡◌, ℕ, List, [], ◌∷◌, map, Option, Some, None, option_map, bytes_eq, cond, Bool, true, false, refl, ap, sym, ◌∙◌}
use Rattle.ld_value.proofs.Laws.{printed_back}
use Rattle.ld_value.specs.Datum.{Datum}
use Rattle.ld_value.specs.Values.{value_of, text_of}
use Rattle.ld_value.specs.declared.kind.Kind.{Kind}
use Rattle.ld_model.specs.Expressions.{TermOf, TermsOf, property_term, literal_term, list_term, pair_term, now_term, opened_term, started_term, no_term, term_and, TestOf, TestsOf, compare_test, all_test, any_test, not_test, no_value_test, member_test, users_test, done_test, no_test, test_and}
use Rattle.ld_model.specs.declared.activity.Activity.{Activity}
use Rattle.ld_model.specs.declared.completion.Change.{Change as ChangeOf}
use Rattle.ld_model.specs.declared.completion.Completion.{Completion}
use Rattle.ld_model.specs.declared.completion.Completion.TheVariants.{UserChoice, TimeLimit, WhenPropertyValueIsSet, WhenRolePartCompleted, WhenConditionTrue, WhenLastActCompleted, WhenPlayCompleted}
use Rattle.ld_model.specs.declared.completion.OnCompletion.{OnCompletion}
use Rattle.ld_model.specs.declared.condition.Action.{Action}
use Rattle.ld_model.specs.declared.condition.Action.TheVariants.{Show, Hide, Change, Notify}
use Rattle.ld_model.specs.declared.condition.Condition.{Condition}
use Rattle.ld_model.specs.declared.method.Act.{Act}
use Rattle.ld_model.specs.declared.method.Method.{Method}
use Rattle.ld_model.specs.declared.method.Play.{Play}
use Rattle.ld_model.specs.declared.property.Property.{Property}
use Rattle.ld_model.specs.declared.property.Restrictions.{Restrictions}
use Rattle.ld_model.specs.declared.unit.Unit.{Unit}
use Rattle.ld_canon.specs.Canonical.{text_or, canonical_text, Kinds, kinds_of, canonical_of, canonical_term, canonical_terms, canonical_test, canonical_tests, canonical_change, canonical_follows, canonical_completion, canonical_restrictions, canonical_property, canonical_action, canonical_condition, canonical_activity, canonical_act, canonical_play, canonical_method, canonical}

-- ---- texts

again_by : (kind : Kind) (text : List ℕ) (o : Option Datum) → value_of kind text ≡ o
    → canonical_text kind (text_or text o) ≡ text_or text o
again_by kind text None is = ap (text_or text) is
again_by kind text (Some value) is = ap (text_or (text_of value)) (printed_back kind text value is)

-- A text that is printed is printed as itself.
pub text_again : (kind : Kind) (text : List ℕ) → canonical_text kind (canonical_text kind text) ≡ canonical_text kind text
text_again kind text = again_by kind text (value_of kind text) refl

of_again : (kind : Option Kind) (text : List ℕ) → canonical_of kind (canonical_of kind text) ≡ canonical_of kind text
of_again None text = refl
of_again (Some kind) text = text_again kind text

-- Texts of one datatype that have values are printed alike exactly where the values are one.
pub same_texts : (kind : Kind) (a b : List ℕ) (x y : Datum) → value_of kind a ≡ Some x → value_of kind b ≡ Some y
    → canonical_text kind a ≡ canonical_text kind b → x ≡ y
same_texts kind a b x y is_x is_y same =
    let texts : text_of x ≡ text_of y = sym (ap (text_or a) is_x) ∙ same ∙ ap (text_or b) is_y in
    let values : Some x ≡ Some y = sym (printed_back kind a x is_x) ∙ ap (value_of kind) texts ∙ printed_back kind b y is_y in
    cc

pub texts_of_same : (kind : Kind) (a b : List ℕ) (x : Datum) → value_of kind a ≡ Some x → value_of kind b ≡ Some x
    → canonical_text kind a ≡ canonical_text kind b
texts_of_same kind a b x is_a is_b = ap (text_or a) is_a ∙ sym (ap (text_or b) is_b)

-- ---- once more, through lists and what may be absent

map_again : {A : Type 0} (f : A → A) → ((x : A) → f (f x) ≡ f x) → (xs : List A) → map f (map f xs) ≡ map f xs
map_again f law [] = refl
map_again f law (x ∷ xs) = λ i. law x i ∷ map_again f law xs i

given_again : {A : Type 0} (f : A → A) → ((x : A) → f (f x) ≡ f x) → (o : Option A)
    → option_map f (option_map f o) ≡ option_map f o
given_again f law None = refl
given_again f law (Some x) = ap Some (law x)

mutual
  term_again : (t : TermOf) → canonical_term (canonical_term t) ≡ canonical_term t
  term_again (property_term id) = refl
  term_again (literal_term kind text) = ap (literal_term kind) (text_again kind text)
  term_again (list_term operator terms) = ap (list_term operator) (terms_again terms)
  term_again (pair_term operator a b) = λ i. pair_term operator (term_again a i) (term_again b i)
  term_again now_term = refl
  term_again (opened_term id) = refl
  term_again started_term = refl

  terms_again : (ts : TermsOf) → canonical_terms (canonical_terms ts) ≡ canonical_terms ts
  terms_again no_term = refl
  terms_again (term_and t ts) = λ i. term_and (term_again t i) (terms_again ts i)

mutual
  test_again : (t : TestOf) → canonical_test (canonical_test t) ≡ canonical_test t
  test_again (compare_test comparison a b) = λ i. compare_test comparison (term_again a i) (term_again b i)
  test_again (all_test tests) = ap all_test (tests_again tests)
  test_again (any_test tests) = ap any_test (tests_again tests)
  test_again (not_test test) = ap not_test (test_again test)
  test_again (no_value_test property) = refl
  test_again (member_test role) = refl
  test_again (users_test role test) = ap (users_test role) (test_again test)
  test_again (done_test thing) = refl

  tests_again : (ts : TestsOf) → canonical_tests (canonical_tests ts) ≡ canonical_tests ts
  tests_again no_test = refl
  tests_again (test_and t ts) = λ i. test_and (test_again t i) (tests_again ts i)

change_again : (x : ChangeOf) → canonical_change (canonical_change x) ≡ canonical_change x
change_again x = λ i. record { property = x.property; value = term_again x.value i }

follows_again : (x : OnCompletion) → canonical_follows (canonical_follows x) ≡ canonical_follows x
follows_again x = λ i. record { feedback = x.feedback; change = map_again canonical_change change_again x.change i; notify = x.notify }

completion_again : (kinds : Kinds) (x : Completion)
    → canonical_completion kinds (canonical_completion kinds x) ≡ canonical_completion kinds x
completion_again kinds UserChoice = refl
completion_again kinds (TimeLimit span) = refl
completion_again kinds (WhenPropertyValueIsSet property value) =
    ap (WhenPropertyValueIsSet property) (given_again (canonical_of (kinds property)) (of_again (kinds property)) value)
completion_again kinds (WhenRolePartCompleted parts) = refl
completion_again kinds (WhenConditionTrue role test) = ap (WhenConditionTrue role) (test_again test)
completion_again kinds WhenLastActCompleted = refl
completion_again kinds (WhenPlayCompleted plays) = refl

restrictions_again : (kind : Kind) (x : Restrictions)
    → canonical_restrictions kind (canonical_restrictions kind x) ≡ canonical_restrictions kind x
restrictions_again kind x = λ i. record {
  min_inclusive = given_again (canonical_text kind) (text_again kind) x.min_inclusive i;
  max_inclusive = given_again (canonical_text kind) (text_again kind) x.max_inclusive i;
  min_length = x.min_length;
  max_length = x.max_length;
  enumeration = map_again (canonical_text kind) (text_again kind) x.enumeration i;
}

property_again : (x : Property) → canonical_property (canonical_property x) ≡ canonical_property x
property_again x = λ i. record x {
  initial = given_again (canonical_text x.datatype) (text_again x.datatype) x.initial i;
  restrictions = given_again (canonical_restrictions x.datatype) (restrictions_again x.datatype) x.restrictions i;
}

action_again : (x : Action) → canonical_action (canonical_action x) ≡ canonical_action x
action_again (Show things) = refl
action_again (Hide things) = refl
action_again (Change one) = ap Change (change_again one)
action_again (Notify one) = refl

condition_again : (x : Condition) → canonical_condition (canonical_condition x) ≡ canonical_condition x
condition_again x = λ i. record {
  test = test_again x.test i;
  yes = map_again canonical_action action_again x.yes i;
  no = map_again canonical_action action_again x.no i;
}

activity_again : (kinds : Kinds) (x : Activity)
    → canonical_activity kinds (canonical_activity kinds x) ≡ canonical_activity kinds x
activity_again kinds x = λ i. record x {
  complete = given_again (canonical_completion kinds) (completion_again kinds) x.complete i;
  on_completion = given_again canonical_follows follows_again x.on_completion i;
}

act_again : (kinds : Kinds) (x : Act) → canonical_act kinds (canonical_act kinds x) ≡ canonical_act kinds x
act_again kinds x = λ i. record x {
  complete = given_again (canonical_completion kinds) (completion_again kinds) x.complete i;
  on_completion = given_again canonical_follows follows_again x.on_completion i;
}

play_again : (kinds : Kinds) (x : Play) → canonical_play kinds (canonical_play kinds x) ≡ canonical_play kinds x
play_again kinds x = λ i. record x {
  acts = map_again (canonical_act kinds) (act_again kinds) x.acts i;
  complete = given_again (canonical_completion kinds) (completion_again kinds) x.complete i;
  on_completion = given_again canonical_follows follows_again x.on_completion i;
}

method_again : (kinds : Kinds) (x : Method) → canonical_method kinds (canonical_method kinds x) ≡ canonical_method kinds x
method_again kinds x = λ i. record {
  plays = map_again (canonical_play kinds) (play_again kinds) x.plays i;
  complete = given_again (canonical_completion kinds) (completion_again kinds) x.complete i;
  on_completion = given_again canonical_follows follows_again x.on_completion i;
}

-- ---- the datatypes stay

found_kind : (test : Bool) (property : Property) (o p : Option Property)
    → option_map (λ (x : Property). x.datatype) o ≡ option_map (λ (x : Property). x.datatype) p
    → option_map (λ (x : Property). x.datatype) (cond test (Some (canonical_property property)) o)
    ≡ option_map (λ (x : Property). x.datatype) (cond test (Some property) p)
found_kind true property o p same = refl
found_kind false property o p same = same

kinds_stay : (properties : List Property) (id : List ℕ)
    → kinds_of (map canonical_property properties) id ≡ kinds_of properties id
kinds_stay [] id = refl
kinds_stay (property ∷ properties) id =
    found_kind (bytes_eq property.identifier id) property _ _ (kinds_stay properties id)

-- A canonical unit is canonical.
pub unit_again : (unit : Unit) → canonical (canonical unit) ≡ canonical unit
unfolding canonical
unit_again unit =
    let kinds = kinds_of unit.properties in
    let same : kinds_of (map canonical_property unit.properties) ≡ kinds = λ i id. kinds_stay unit.properties id i in
    (λ i. record unit {
      properties = map_again canonical_property property_again unit.properties i;
      activities = map (canonical_activity (same i)) (map (canonical_activity kinds) unit.activities);
      method = canonical_method (same i) (canonical_method kinds unit.method);
      conditions = map_again canonical_condition condition_again unit.conditions i;
    })
    ∙ (λ i. record unit {
      properties = map canonical_property unit.properties;
      activities = map_again (canonical_activity kinds) (activity_again kinds) unit.activities i;
      method = method_again kinds unit.method i;
      conditions = map canonical_condition unit.conditions;
    })
