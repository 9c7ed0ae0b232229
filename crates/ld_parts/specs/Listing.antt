-- What stands in the documents of a unit, in document order: an object before its parts, these in the
-- order of its members.
use Rattle.std.specs.Prelude.{ℕ, List, [], ◌∷◌, ◌++◌, map, Bool, true, false, Option, Some, None, is_some, codes}
use Rattle.ld_json.specs.declared.file.FileNo.TheVariants as file
use Rattle.ld_model.specs.declared.activity.Activity.{Activity as ActivityOf}
use Rattle.ld_model.specs.declared.activity.Structure.{Structure as StructureOf}
use Rattle.ld_model.specs.declared.completion.Completion.{Completion}
use Rattle.ld_model.specs.declared.completion.Completion.TheVariants.{UserChoice, TimeLimit, WhenPropertyValueIsSet, WhenRolePartCompleted, WhenConditionTrue, WhenLastActCompleted, WhenPlayCompleted}
use Rattle.ld_model.specs.declared.completion.OnCompletion.{OnCompletion}
use Rattle.ld_model.specs.declared.condition.Action.{Action}
use Rattle.ld_model.specs.declared.condition.Action.TheVariants as action
use Rattle.ld_model.specs.declared.condition.Condition.{Condition}
use Rattle.ld_model.specs.declared.environment.Environment.{Environment as EnvironmentOf}
use Rattle.ld_model.specs.declared.environment.LearningObject.{LearningObject}
use Rattle.ld_model.specs.declared.environment.Service.{Service as ServiceOf}
use Rattle.ld_model.specs.declared.environment.ServiceKind.{ServiceKind}
use Rattle.ld_model.specs.declared.environment.ServiceKind.TheVariants.{SendMail, Conference, Monitor, IndexSearch}
use Rattle.ld_model.specs.declared.method.Act.{Act as ActOf}
use Rattle.ld_model.specs.declared.method.Method.{Method as MethodOf}
use Rattle.ld_model.specs.declared.method.Play.{Play as PlayOf}
use Rattle.ld_model.specs.declared.method.RolePart.{RolePart as RolePartOf}
use Rattle.ld_model.specs.declared.property.Property.{Property as PropertyOf}
use Rattle.ld_model.specs.declared.unit.Level.{Level}
use Rattle.ld_model.specs.declared.unit.Level.TheVariants.{A, B, C}
use Rattle.ld_model.specs.declared.unit.Unit.{Unit}
use Rattle.ld_model.specs.Counting.{each_numbered}
use Rattle.ld_model.specs.Expressions.{TestOf}
use Rattle.ld_model.specs.Roles.{roles_of}
use Rattle.ld_model.specs.RoleRows.{RoleRow}
use Rattle.ld_walk.specs.declared.kind.Kind.{Kind}
use Rattle.ld_walk.specs.declared.kind.Kind.TheVariants as kind
use Rattle.ld_walk.specs.declared.kind.Wanted.{Wanted}
use Rattle.ld_walk.specs.declared.kind.Wanted.TheVariants as wanted
use Rattle.ld_walk.specs.declared.place.Place.TheVariants.{Play, Act, RolePart, Activity, Structure, Environment, Object, Service}
use Rattle.ld_walk.specs.CommonParts.{shown_part, unshown_part, items_parts, reference_part, optional_reference_parts, references_parts, change_parts, notice_parts, nth_change_parts, nth_notice_parts}
use Rattle.ld_walk.specs.ExpressionParts.{plain_part, test_parts}
use Rattle.ld_walk.specs.Parts.{Declared, ValueOf, OfRun, Tested, Declares, Shares, Completes, Follows, Judges, Leaf, Types, Other, Part}
use Rattle.ld_walk.specs.Places.{At, root, member, nth}

-- ---- completions

-- Level A has no properties, which two ways of completion read.
abbrev pub completion_level : Completion → Level
completion_level UserChoice = A
completion_level (TimeLimit _) = A
completion_level (WhenPropertyValueIsSet _ _) = B
completion_level (WhenRolePartCompleted _) = A
completion_level (WhenConditionTrue _ _) = B
completion_level WhenLastActCompleted = A
completion_level (WhenPlayCompleted _) = A

-- The run as a whole has acts, plays and the unit done; each person has activities done.
abbrev pub is_of_run : Kind → Bool
is_of_run (kind.Thing (Activity _)) = false
is_of_run _ = true

-- At `property`: where the flag says so, the property has to be one of the run.
abbrev pub of_run_parts : At → Bool → List ℕ → List Part
of_run_parts at false property = []
of_run_parts at true property = plain_part (member at (codes "property")) (Types (OfRun property)) ∷ []

-- The text at `value`, which is to be a value of the property, if it is given.
abbrev pub value_parts : At → List ℕ → Option (List ℕ) → List Part
value_parts at property None = []
value_parts at property (Some text) = plain_part (member at (codes "value")) (Types (ValueOf property text)) ∷ []

-- A property and perhaps the text of its value.
unfoldable pub value_set_parts : At → Bool → List ℕ → Option (List ℕ) → List Part
value_set_parts at by_run property value =
    plain_part at (Leaf false)
    ∷ reference_part at (codes "property") wanted.Property property
    ∷ (of_run_parts at by_run property ++ value_parts at property value)

-- A role, and a test that is asked of each of its members.
unfoldable pub condition_true_parts : At → List ℕ → TestOf → List Part
condition_true_parts at role test =
    reference_part at (codes "role") wanted.Role role
    ∷ plain_part (member at (codes "expression")) (Types (Tested test))
    ∷ test_parts (member at (codes "expression")) true test

-- The role-parts to which a completion may refer are those of the act; no other thing has such.
abbrev pub wanted_parts : Kind → Wanted
wanted_parts (kind.Thing (Act p a)) = wanted.PartOf p a
wanted_parts _ = wanted.PartOf 0 0

-- What stands in `complete` of a thing; the place is that of `complete`.
unfoldable pub completed_parts : At → Kind → Completion → List Part
completed_parts at thing UserChoice = []
completed_parts at thing (TimeLimit _) = []
completed_parts at thing (WhenPropertyValueIsSet property value) = value_set_parts (member at (codes "when-property-value-is-set")) (is_of_run thing) property value
completed_parts at thing (WhenRolePartCompleted parts) = references_parts at (codes "when-role-part-completed") (wanted_parts thing) parts
completed_parts at thing (WhenConditionTrue role test) = condition_true_parts (member at (codes "when-condition-true")) role test
completed_parts at thing WhenLastActCompleted = []
completed_parts at thing (WhenPlayCompleted plays) = references_parts at (codes "when-play-completed") wanted.Play plays

-- `complete` of a thing at the place, or of the unit.
unfoldable pub completion_parts : At → Kind → Option Completion → List Part
completion_parts at thing None = []
completion_parts at thing (Some complete) =
    record { at = member at (codes "complete"); level = completion_level complete; what = Completes thing }
    ∷ completed_parts (member at (codes "complete")) thing complete

-- What has this level stands at the member of this name, where there is any.
abbrev pub list_level_parts : {A : Type 0} → At → List ℕ → Level → List A → List Part
list_level_parts at name level [] = []
list_level_parts at name level (_ ∷ _) = record { at = member at name; level = level; what = Other } ∷ []

-- What follows a completion, at the place of `on-completion`: feedback, changes and notices.
unfoldable pub follows_parts : At → Bool → Bool → OnCompletion → List Part
follows_parts at by_run completes follows =
    plain_part at (Follows completes)
    ∷ (items_parts at (codes "feedback") follows.feedback
    ++ (list_level_parts at (codes "change") B follows.change
    ++ (each_numbered (nth_change_parts at by_run) follows.change
    ++ (list_level_parts at (codes "notify") C follows.notify
    ++ each_numbered (nth_notice_parts at) follows.notify))))

-- `on-completion` of a thing at the place, of which it is said, or not, when it is completed.
unfoldable pub on_completion_parts : At → Kind → Bool → Option OnCompletion → List Part
on_completion_parts at thing completes None = []
on_completion_parts at thing completes (Some follows) = follows_parts (member at (codes "on-completion")) (is_of_run thing) completes follows

-- ---- roles and properties

-- The place of a role, by the way to it from this one: its number in each list of roles.
abbrev pub role_at : At → List ℕ → At
role_at at [] = at
role_at at (n ∷ path) = role_at (nth at (codes "roles") n) path

-- A role, seen from a place above it.
unfoldable pub role_part : At → RoleRow → Part
role_part at role = plain_part (role_at at role.path) (Declares kind.Role role.identifier None)

-- The name of the value that all runs share, where there is one.
abbrev pub shared_parts : At → Option (List ℕ) → List Part
shared_parts at None = []
shared_parts at (Some uri) = plain_part at (Shares uri) ∷ []

-- A property at the place: its shared name, its types, and the role whose it is.
unfoldable pub property_parts_at : At → PropertyOf → List Part
property_parts_at at property =
    record { at = at; level = B; what = Declares kind.Property property.identifier None }
    ∷ (shared_parts at property.uri
    ++ (plain_part at (Types (Declared property))
    ∷ optional_reference_parts at (codes "role") wanted.Role property.role))

-- The property of this number in the list at `properties`.
abbrev pub property_parts : At → ℕ → PropertyOf → List Part
property_parts at i property = property_parts_at (nth at (codes "properties") i) property

-- ---- environments

-- A learning object at the place, by the numbers of its environment and of itself there, and its items.
unfoldable pub object_parts_at : At → ℕ → ℕ → LearningObject → List Part
object_parts_at at e o object = shown_part at (Object e o) object.identifier object.visible ∷ items_parts at (codes "items") object.items

-- The learning object of the second number in the list of an environment, which has the first number.
abbrev pub object_parts : At → ℕ → ℕ → LearningObject → List Part
object_parts at e o object = object_parts_at (nth at (codes "learning-objects") o) e o object

-- Level A has no services that monitor.
abbrev pub service_level : ServiceKind → Level
service_level SendMail = A
service_level Conference = A
service_level Monitor = B
service_level IndexSearch = A

-- The service of the second number in the list of an environment, which has the first number.
unfoldable pub service_parts : At → ℕ → ℕ → ServiceOf → List Part
service_parts at e s service =
    record { at = nth at (codes "services") s; level = service_level service.kind; what = Declares (kind.Thing (Service e s)) service.identifier (Some service.visible) } ∷ []

-- An environment of this number at the place: its objects, its services, and those to which it refers.
unfoldable pub environment_parts_at : At → ℕ → EnvironmentOf → List Part
environment_parts_at at e environment =
    shown_part at (Environment e) environment.identifier environment.visible
    ∷ (each_numbered (object_parts at e) environment.learning_objects
    ++ (each_numbered (service_parts at e) environment.services
    ++ references_parts at (codes "environments") wanted.Environment environment.environments))

-- The environment of this number in the list at `environments`.
abbrev pub environment_parts : At → ℕ → EnvironmentOf → List Part
environment_parts at e environment = environment_parts_at (nth at (codes "environments") e) e environment

-- ---- activities and structures

-- The objectives, the prerequisites and the references.
unfoldable pub parts_before_items : At → ActivityOf → List Part
parts_before_items at activity =
    items_parts at (codes "learning-objectives") activity.learning_objectives
    ++ (items_parts at (codes "prerequisites") activity.prerequisites
    ++ (references_parts at (codes "supports") wanted.Role activity.supports
    ++ references_parts at (codes "environments") wanted.Environment activity.environments))

-- When something is completed, and what follows.
unfoldable pub ending_parts : At → Kind → Option Completion → Option OnCompletion → List Part
ending_parts at thing complete follows = completion_parts at thing complete ++ on_completion_parts at thing (is_some complete) follows

-- An activity of this number at the place: its items, its references, when it is completed, what follows.
unfoldable pub activity_parts_at : At → ℕ → ActivityOf → List Part
activity_parts_at at a activity =
    shown_part at (Activity a) activity.identifier activity.visible
    ∷ (parts_before_items at activity
    ++ (items_parts at (codes "items") activity.items
    ++ ending_parts at (kind.Thing (Activity a)) activity.complete activity.on_completion))

-- The activity of this number in the list at `activities`.
abbrev pub activity_parts : At → ℕ → ActivityOf → List Part
activity_parts at a activity = activity_parts_at (nth at (codes "activities") a) a activity

-- A structure of this number at the place: the environments and the children to which it refers.
unfoldable pub structure_parts_at : At → ℕ → StructureOf → List Part
structure_parts_at at s structure =
    shown_part at (Structure s) structure.identifier structure.visible
    ∷ (references_parts at (codes "environments") wanted.Environment structure.environments
    ++ references_parts at (codes "children") wanted.Child structure.children)

-- The structure of this number in the list at `structures`.
abbrev pub structure_parts : At → ℕ → StructureOf → List Part
structure_parts at s structure = structure_parts_at (nth at (codes "structures") s) s structure

-- ---- the unit's own document

-- A role-part at the place, by the numbers of play, act and itself: its role, and what it refers to.
unfoldable pub role_part_parts_at : At → ℕ → ℕ → ℕ → RolePartOf → List Part
role_part_parts_at at p a r part =
    unshown_part at (RolePart p a r) part.identifier
    ∷ reference_part at (codes "role") wanted.Role part.role
    ∷ reference_part at (codes "ref") wanted.Target part.target
    ∷ []

-- The role-part of the last number in the list of an act, which has the numbers of its play and its own.
abbrev pub role_part_parts : At → ℕ → ℕ → ℕ → RolePartOf → List Part
role_part_parts at p a r part = role_part_parts_at (nth at (codes "role-parts") r) p a r part

-- An act at the place, by the numbers of its play and of itself: its role-parts, and how it ends.
unfoldable pub act_parts_at : At → ℕ → ℕ → ActOf → List Part
act_parts_at at p a act =
    unshown_part at (Act p a) act.identifier
    ∷ (each_numbered (role_part_parts at p a) act.role_parts
    ++ ending_parts at (kind.Thing (Act p a)) act.complete act.on_completion)

-- The act of the second number in the list of a play, which has the first number.
abbrev pub act_parts : At → ℕ → ℕ → ActOf → List Part
act_parts at p a act = act_parts_at (nth at (codes "acts") a) p a act

-- A play of this number at the place: its acts, and how it ends.
unfoldable pub play_parts_at : At → ℕ → PlayOf → List Part
play_parts_at at p play =
    shown_part at (Play p) play.identifier play.visible
    ∷ (each_numbered (act_parts at p) play.acts
    ++ ending_parts at (kind.Thing (Play p)) play.complete play.on_completion)

-- The play of this number in the list at `plays`.
abbrev pub play_parts : At → ℕ → PlayOf → List Part
play_parts at p play = play_parts_at (nth at (codes "plays") p) p play

-- The place of the method.
abbrev pub method_at : At
method_at = member (root file.Unit) (codes "method")

-- What stands in the method: the plays, when the unit is completed, and what follows.
unfoldable pub method_parts : MethodOf → List Part
method_parts method =
    each_numbered (play_parts method_at) method.plays
    ++ ending_parts method_at kind.Unit method.complete method.on_completion

-- What stands in unit.json: the unit, its objectives and prerequisites, and its method.
unfoldable pub unit_parts : Unit → List Part
unit_parts unit =
    plain_part (root file.Unit) (Declares kind.Unit unit.identifier None)
    ∷ (items_parts (root file.Unit) (codes "learning-objectives") unit.learning_objectives
    ++ (items_parts (root file.Unit) (codes "prerequisites") unit.prerequisites
    ++ method_parts unit.method))

-- ---- conditions

-- An action at the place: the things that it shows or hides, its change, or its notice.
unfoldable pub action_parts : At → Action → List Part
action_parts at (action.Show things) = references_parts at (codes "show") wanted.Shown things
action_parts at (action.Hide things) = references_parts at (codes "hide") wanted.Shown things
action_parts at (action.Change change) = change_parts (member at (codes "change")) false change
action_parts at (action.Notify notice) = record { at = at; level = C; what = Other } ∷ notice_parts (member at (codes "notify")) notice

-- The action of this number in the list at the member of this name.
abbrev pub nth_action_parts : At → List ℕ → ℕ → Action → List Part
nth_action_parts at name i one = action_parts (nth at name i) one

-- A condition of this number at the place: its test, and what is done where that holds and where not.
unfoldable pub condition_parts_at : At → ℕ → Condition → List Part
condition_parts_at at c condition =
    record { at = at; level = B; what = Judges c }
    ∷ plain_part (member at (codes "if")) (Types (Tested condition.test))
    ∷ (test_parts (member at (codes "if")) false condition.test
    ++ (each_numbered (nth_action_parts at (codes "then")) condition.yes
    ++ each_numbered (nth_action_parts at (codes "else")) condition.no))

-- The condition of this number in the list at `conditions`.
abbrev pub condition_parts : At → ℕ → Condition → List Part
condition_parts at c condition = condition_parts_at (nth at (codes "conditions") c) c condition

-- ---- the whole

-- The documents of properties, environments and activities.
unfoldable pub middle_parts : Unit → List Part
middle_parts unit =
    each_numbered (property_parts (root file.Properties)) unit.properties
    ++ (each_numbered (environment_parts (root file.Environments)) unit.environments
    ++ (each_numbered (activity_parts (root file.Activities)) unit.activities
    ++ each_numbered (structure_parts (root file.Activities)) unit.structures))

-- All that stands in the documents of the unit.
unfoldable pub parts_of : Unit → List Part
parts_of unit = map (role_part (root file.Roles)) (roles_of unit) ++ (middle_parts unit ++ (unit_parts unit ++ each_numbered (condition_parts (root file.Conditions)) unit.conditions))
