-- That in a valid unit no test of the marks of members completes an activity.
use Rattle.std.proofs.Common.{◌≡◌, refl, subst, ℕ, zero, suc, List, [], ◌∷◌, length, slice_get, Option, None, Some, Bool, true, false, ◌&&◌, nat_le, codes}
use Rattle.std.proofs.lemmas.Bool.{and_parts}
use Rattle.std.specs.List.{list_all}
use Rattle.ld_formats.specs.Activities.{Content, activity, activity_by, activity_words, content_by, doing, supports_by}
use Rattle.ld_formats.specs.Changes.{on_completion}
use Rattle.ld_formats.specs.Completions.{activity_completion, common_cases}
use Rattle.ld_formats.specs.Environments.{environments_document}
use Rattle.ld_formats.specs.Items.{item}
use Rattle.ld_formats.specs.Properties.{properties_document}
use Rattle.ld_formats.specs.Roles.{roles_document}
use Rattle.ld_formats.specs.Structures.{activities_document}
use Rattle.ld_formats.specs.Units.{is_well_formed, unit as unit_shape, parts, method_documents, declared_parts, head_and_conditions}
use Rattle.ld_shape.specs.Forms.{identifier, title, flag}
use Rattle.ld_shape.specs.Lists.{list}
use Rattle.ld_shape.specs.Objects.{given}
use Rattle.ld_shape.specs.Words.{one_of}
use Rattle.ld_model.specs.declared.activity.Activity.{Activity}
use Rattle.ld_model.specs.declared.activity.ActivityKind.{ActivityKind}
use Rattle.ld_model.specs.declared.completion.Completion.{Completion}
use Rattle.ld_model.specs.declared.completion.Completion.TheVariants.{UserChoice, TimeLimit, WhenPropertyValueIsSet, WhenRolePartCompleted, WhenConditionTrue, WhenLastActCompleted, WhenPlayCompleted}
use Rattle.ld_model.specs.declared.unit.Unit.{Unit}
use Rattle.ld_state.proofs.Elements.{none_is_some, some_same}

-- The person's choice, a span of time, or a value of a property.
abbrev pub asks_no_mark : Completion → Bool
asks_no_mark UserChoice = true
asks_no_mark (TimeLimit _) = true
asks_no_mark (WhenPropertyValueIsSet _ _) = true
asks_no_mark (WhenRolePartCompleted _) = false
asks_no_mark (WhenConditionTrue _ _) = false
asks_no_mark WhenLastActCompleted = false
asks_no_mark (WhenPlayCompleted _) = false

last_of : (a b c d rest : Bool) → (a && (b && (c && (d && rest)))) ≡ true → rest ≡ true
last_of a b c d rest all =
    (and_parts d rest (and_parts c (d && rest) (and_parts b (c && (d && rest)) (and_parts a (b && (c && (d && rest))) all).1).1).1).1

middle : (a b c : Bool) → (a && (b && c)) ≡ true → b ≡ true
middle a b c all = (and_parts b c (and_parts a (b && c) all).1).0

completion_formed : (completion : Completion) → activity_completion.has_form completion ≡ true
    → asks_no_mark completion ≡ true
unfolding activity_completion common_cases
completion_formed UserChoice formed = refl
completion_formed (TimeLimit _) formed = refl
completion_formed (WhenPropertyValueIsSet _ _) formed = refl
completion_formed (WhenRolePartCompleted _) formed = formed
completion_formed (WhenConditionTrue _ _) formed = formed
completion_formed WhenLastActCompleted formed = formed
completion_formed (WhenPlayCompleted _) formed = formed

given_formed : (completion : Option Completion) (one : Completion) → completion ≡ Some one
    → (given activity_completion).has_form completion ≡ true → asks_no_mark one ≡ true
given_formed None one is formed = none_is_some is
given_formed (Some completion) one is formed =
    subst (λ c. asks_no_mark c ≡ true) (some_same is) (completion_formed completion formed)

completion_given : (kind : ActivityKind) (x : Activity) → (activity_by kind).has_form x ≡ true
    → (given activity_completion).has_form x.complete ≡ true
unfolding activity_by content_by doing
completion_given kind x formed =
    let content_of : Content = (x.learning_objectives, (x.prerequisites, (x.supports, (x.environments, (x.items, (x.complete, x.on_completion)))))) in
    let content = last_of (identifier.has_form x.identifier) ((one_of activity_words).has_form x.kind)
    ((given title).has_form x.title) (flag.has_form x.visible) ((content_by kind).shape.has_form content_of) formed in
    let done = last_of ((list (codes "learning-objectives") item).shape.has_form x.learning_objectives)
    ((list (codes "prerequisites") item).shape.has_form x.prerequisites) ((supports_by kind).shape.has_form x.supports)
    ((list (codes "environments") identifier).shape.has_form x.environments)
    (doing.shape.has_form (x.items, (x.complete, x.on_completion))) content in
    middle ((list (codes "items") item).shape.has_form x.items) ((given activity_completion).has_form x.complete)
    ((given on_completion).has_form x.on_completion) done

activity_formed : (x : Activity) → activity.has_form x ≡ true → (given activity_completion).has_form x.complete ≡ true
unfolding activity
activity_formed x formed = completion_given x.kind x formed

activities_formed : (x : Unit) → is_well_formed x ≡ true → list_all activity.has_form x.activities ≡ true
unfolding is_well_formed unit_shape parts activities_document
activities_formed x formed =
    let all = and_parts (parts.has_form (declared_parts x)) (method_documents.has_form (head_and_conditions x)) formed in
    let documents = and_parts (environments_document.has_form x.environments) (activities_document.has_form (x.activities, x.structures))
    (and_parts (properties_document.has_form x.properties) (environments_document.has_form x.environments && activities_document.has_form (x.activities, x.structures))
    (and_parts (roles_document.has_form x.roles) (properties_document.has_form x.properties && (environments_document.has_form x.environments && activities_document.has_form (x.activities, x.structures))) all.0).1).1 in
    let lists = and_parts _ _ documents.1 in
    (and_parts (nat_le 0 (length x.activities)) (list_all activity.has_form x.activities) lists.0).1

formed_at : (xs : List Activity) (a : ℕ) (x : Activity) → list_all activity.has_form xs ≡ true
    → slice_get xs a ≡ Some x → activity.has_form x ≡ true
formed_at [] a x all at = none_is_some at
formed_at (y ∷ ys) zero x all at =
    subst (λ z. activity.has_form z ≡ true) (some_same at) (and_parts (activity.has_form y) (list_all activity.has_form ys) all).0
formed_at (y ∷ ys) (suc a) x all at =
    formed_at ys a x (and_parts (activity.has_form y) (list_all activity.has_form ys) all).1 at

-- What completes an activity of a well-formed unit, if something does, asks for no mark.
pub activity_asks_no_mark : (unit : Unit) (a : ℕ) (x : Activity) (completion : Completion)
    → is_well_formed unit ≡ true → slice_get unit.activities a ≡ Some x → x.complete ≡ Some completion
    → asks_no_mark completion ≡ true
activity_asks_no_mark unit a x completion formed at is =
    given_formed x.complete completion is
    (activity_formed x (formed_at unit.activities a x (activities_formed unit formed) at))
