-- The unit with each value text as it is printed. Two units are the same where these are equal.
-- (docs/FORMATS.md, "Canonical documents")
use Rattle.std.specs.Prelude.{◌≡◌, ℕ, List, map, Option, Some, None, option_map, find}
use Rattle.std.specs.Str.{bytes_eq}
use Rattle.ld_model.specs.Expressions.{TermOf, TermsOf, property_term, literal_term, list_term, pair_term, now_term, opened_term, started_term, no_term, term_and, TestOf, TestsOf, compare_test, all_test, any_test, not_test, no_value_test, member_test, users_test, done_test, no_test, test_and}
use Rattle.ld_model.specs.declared.activity.Activity.{Activity}
use Rattle.ld_model.specs.declared.completion.Change.{Change as ChangeOf}
use Rattle.ld_model.specs.declared.completion.Completion.{Completion}
use Rattle.ld_model.specs.declared.completion.Completion.TheVariants.{UserChoice, TimeLimit, WhenPropertyValueIsSet, WhenRolePartCompleted, WhenConditionTrue, WhenLastActCompleted, WhenPlayCompleted}
use Rattle.ld_model.specs.declared.completion.OnCompletion.{OnCompletion}
use Rattle.ld_model.specs.declared.condition.Action.{Action}
use Rattle.ld_model.specs.declared.condition.Action.TheVariants.{Show, Hide, Change, Notify}
use Rattle.ld_model.specs.declared.condition.Condition.{Condition}
use Rattle.ld_model.specs.declared.method.Act.{Act}
use Rattle.ld_model.specs.declared.method.Method.{Method}
use Rattle.ld_model.specs.declared.method.Play.{Play}
use Rattle.ld_model.specs.declared.property.Property.{Property}
use Rattle.ld_model.specs.declared.property.Restrictions.{Restrictions}
use Rattle.ld_model.specs.declared.unit.Unit.{Unit}
use Rattle.ld_value.specs.Datum.{Datum}
use Rattle.ld_value.specs.Values.{value_of, text_of}
use Rattle.ld_value.specs.declared.kind.Kind.{Kind}

-- ---- texts

-- The text of the value, or else this one.
abbrev pub text_or : List ℕ → Option Datum → List ℕ
text_or text None = text
text_or text (Some value) = text_of value

-- The text as its value is printed; one that has no value stays as it is.
abbrev pub canonical_text : Kind → List ℕ → List ℕ
canonical_text kind text = text_or text (value_of kind text)

-- The datatype of each property, by its identifier.
abbrev pub Kinds : Type 0
Kinds = List ℕ → Option Kind

-- The datatypes of these properties.
abbrev pub kinds_of : List Property → Kinds
kinds_of properties id = option_map (λ property. property.datatype)
    (find (λ property. bytes_eq property.identifier id) properties)

-- The text as a value of a property; where there is no such property it stays as it is.
abbrev pub canonical_of : Option Kind → List ℕ → List ℕ
canonical_of None text = text
canonical_of (Some kind) text = canonical_text kind text

-- ---- expressions

-- A canonical term, whose literals are as their values are printed, and canonical terms.
abbrev mutual
  pub canonical_term : TermOf → TermOf
  canonical_term (property_term id) = property_term id
  canonical_term (literal_term kind text) = literal_term kind (canonical_text kind text)
  canonical_term (list_term operator terms) = list_term operator (canonical_terms terms)
  canonical_term (pair_term operator a b) = pair_term operator (canonical_term a) (canonical_term b)
  canonical_term now_term = now_term
  canonical_term (opened_term id) = opened_term id
  canonical_term started_term = started_term

  pub canonical_terms : TermsOf → TermsOf
  canonical_terms no_term = no_term
  canonical_terms (term_and term terms) = term_and (canonical_term term) (canonical_terms terms)

-- A canonical test, of canonical terms, and canonical tests.
abbrev mutual
  pub canonical_test : TestOf → TestOf
  canonical_test (compare_test comparison a b) = compare_test comparison (canonical_term a) (canonical_term b)
  canonical_test (all_test tests) = all_test (canonical_tests tests)
  canonical_test (any_test tests) = any_test (canonical_tests tests)
  canonical_test (not_test test) = not_test (canonical_test test)
  canonical_test (no_value_test property) = no_value_test property
  canonical_test (member_test role) = member_test role
  canonical_test (users_test role test) = users_test role (canonical_test test)
  canonical_test (done_test thing) = done_test thing

  pub canonical_tests : TestsOf → TestsOf
  canonical_tests no_test = no_test
  canonical_tests (test_and test tests) = test_and (canonical_test test) (canonical_tests tests)

-- ---- what is completed, and what follows

-- A change to a canonical term.
abbrev pub canonical_change : ChangeOf → ChangeOf
canonical_change x = record { property = x.property; value = canonical_term x.value }

-- What follows, with canonical changes.
abbrev pub canonical_follows : OnCompletion → OnCompletion
canonical_follows x = record { feedback = x.feedback; change = map canonical_change x.change; notify = x.notify }

-- What completes a thing, with a canonical test; the value that a property is to have is as it is printed.
abbrev pub canonical_completion : Kinds → Completion → Completion
canonical_completion kinds UserChoice = UserChoice
canonical_completion kinds (TimeLimit span) = TimeLimit span
canonical_completion kinds (WhenPropertyValueIsSet property value) =
    WhenPropertyValueIsSet property (option_map (canonical_of (kinds property)) value)
canonical_completion kinds (WhenRolePartCompleted parts) = WhenRolePartCompleted parts
canonical_completion kinds (WhenConditionTrue role test) = WhenConditionTrue role (canonical_test test)
canonical_completion kinds WhenLastActCompleted = WhenLastActCompleted
canonical_completion kinds (WhenPlayCompleted plays) = WhenPlayCompleted plays

-- ---- properties

-- Restrictions of a property of this datatype, whose texts are as their values are printed.
abbrev pub canonical_restrictions : Kind → Restrictions → Restrictions
canonical_restrictions kind x = record {
  min_inclusive = option_map (canonical_text kind) x.min_inclusive;
  max_inclusive = option_map (canonical_text kind) x.max_inclusive;
  min_length = x.min_length;
  max_length = x.max_length;
  enumeration = map (canonical_text kind) x.enumeration;
}

-- A property, whose first value is as it is printed, with canonical restrictions.
abbrev pub canonical_property : Property → Property
canonical_property x = record x {
  initial = option_map (canonical_text x.datatype) x.initial;
  restrictions = option_map (canonical_restrictions x.datatype) x.restrictions;
}

-- ---- the rest

-- What a condition does, with a canonical change.
abbrev pub canonical_action : Action → Action
canonical_action (Show things) = Show things
canonical_action (Hide things) = Hide things
canonical_action (Change one) = Change (canonical_change one)
canonical_action (Notify one) = Notify one

-- A condition, with a canonical test and canonical actions.
abbrev pub canonical_condition : Condition → Condition
canonical_condition x = record {
  test = canonical_test x.test;
  yes = map canonical_action x.yes;
  no = map canonical_action x.no;
}

-- An activity, with what completes it and what follows canonical.
abbrev pub canonical_activity : Kinds → Activity → Activity
canonical_activity kinds x = record x {
  complete = option_map (canonical_completion kinds) x.complete;
  on_completion = option_map canonical_follows x.on_completion;
}

-- An act, with what completes it and what follows canonical.
abbrev pub canonical_act : Kinds → Act → Act
canonical_act kinds x = record x {
  complete = option_map (canonical_completion kinds) x.complete;
  on_completion = option_map canonical_follows x.on_completion;
}

-- A play of canonical acts, with what completes it and what follows canonical.
abbrev pub canonical_play : Kinds → Play → Play
canonical_play kinds x = record x {
  acts = map (canonical_act kinds) x.acts;
  complete = option_map (canonical_completion kinds) x.complete;
  on_completion = option_map canonical_follows x.on_completion;
}

-- A method of canonical plays, with what completes the unit and what follows canonical.
abbrev pub canonical_method : Kinds → Method → Method
canonical_method kinds x = record {
  plays = map (canonical_play kinds) x.plays;
  complete = option_map (canonical_completion kinds) x.complete;
  on_completion = option_map canonical_follows x.on_completion;
}

-- The unit with each value text as its value is printed.
unfoldable pub canonical : Unit → Unit
canonical unit =
    let kinds = kinds_of unit.properties in
    record unit {
      properties = map canonical_property unit.properties;
      activities = map (canonical_activity kinds) unit.activities;
      method = canonical_method kinds unit.method;
      conditions = map canonical_condition unit.conditions;
    }

-- The units agree in every member, value texts being compared by the values that they have.
abbrev pub SameUnits : Unit → Unit → Type 0
SameUnits a b = canonical a ≡ canonical b
