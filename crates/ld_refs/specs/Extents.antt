-- The check of sizes: what role-parts and the unit expand to. (docs/FORMATS.md, "Sizes")
use Rattle.std.specs.Prelude.{ℕ, ◌+◌, List, [], ◌++◌, Option, Some, None, Bool, true, false, ◌&&◌, nat_lt, length, map, flat_map, slice_get}
use Rattle.std.specs.List.{sum_by}
use Rattle.ld_base.specs.Maybe.{◌>>=◌}
use Rattle.ld_json.specs.declared.code.Code.TheVariants.{TooBig}
use Rattle.ld_json.specs.Fault.{Told}
use Rattle.ld_model.specs.declared.activity.Activity.{Activity}
use Rattle.ld_model.specs.declared.activity.Structure.{Structure}
use Rattle.ld_model.specs.declared.completion.OnCompletion.{OnCompletion}
use Rattle.ld_model.specs.declared.environment.Environment.{Environment}
use Rattle.ld_model.specs.declared.environment.LearningObject.{LearningObject}
use Rattle.ld_model.specs.declared.method.Act.{Act}
use Rattle.ld_model.specs.declared.method.Play.{Play}
use Rattle.ld_model.specs.declared.method.RolePart.{RolePart}
use Rattle.ld_model.specs.declared.unit.Unit.{Unit}
use Rattle.ld_walk.specs.declared.kind.Kind.{Kind}
use Rattle.ld_walk.specs.declared.kind.Kind.TheVariants as kind
use Rattle.ld_walk.specs.declared.place.Place.TheVariants as place
use Rattle.ld_parts.specs.Listing.{method_at}
use Rattle.ld_names.specs.Names.{NameTable}
use Rattle.ld_walk.specs.Parts.{What, Declares, Part}
use Rattle.ld_types.specs.Faults.{fault_if}
use Rattle.ld_refs.specs.Reaching.{environment_graph, structure_graph}
use Rattle.ld_refs.specs.Targets.{kind_by}
use Rattle.ld_cycles.specs.Graphs.{expanded_sizes, number_or_zero_at}

-- The sizes of environments, of activities and of structures, each by its number.
pub record Sizes : Type 0 where
  pub environments : List ℕ
  pub activities : List ℕ
  pub structures : List ℕ

-- The size of what is of this kind; 0 where it is none of the three.
abbrev pub size_of_kind : Sizes → Option Kind → ℕ
size_of_kind sizes (Some (kind.Thing (place.Environment e))) = number_or_zero_at sizes.environments e
size_of_kind sizes (Some (kind.Thing (place.Activity a))) = number_or_zero_at sizes.activities a
size_of_kind sizes (Some (kind.Thing (place.Structure s))) = number_or_zero_at sizes.structures s
size_of_kind sizes _ = 0

-- The size of what the identifier names.
abbrev pub size_named : Sizes → NameTable → List ℕ → ℕ
size_named sizes names id = size_of_kind sizes (kind_by names id)

-- The sum of the sizes of what the identifiers name.
abbrev pub sizes_named : Sizes → NameTable → List (List ℕ) → ℕ
sizes_named sizes names ids = sum_by (size_named sizes names) ids

-- How many items are shown as feedback, where something follows a completion.
abbrev pub feedback_size : Option OnCompletion → ℕ
feedback_size None = 0
feedback_size (Some follows) = length follows.feedback

-- ---- environments

-- The size of a learning object: 1 and its items.
abbrev pub object_size : LearningObject → ℕ
object_size object = 1 + length object.items

-- An environment without those to which it refers.
abbrev pub own_environment_size : Environment → ℕ
own_environment_size environment = 1 + (length environment.services + sum_by object_size environment.learning_objects)

-- The sizes of all environments, each with those to which it refers, and theirs, and so on.
abbrev pub environment_sizes : Unit → NameTable → List ℕ
environment_sizes unit names = expanded_sizes (map own_environment_size unit.environments) (environment_graph unit names)

-- The sizes of environments alone.
abbrev pub first_sizes : Unit → NameTable → Sizes
first_sizes unit names = record { environments = environment_sizes unit names; activities = []; structures = [] }

-- ---- activities

-- The size of an activity: 1, its items, its feedback items, and the sizes of its environments.
abbrev pub activity_size : Sizes → NameTable → Activity → ℕ
activity_size sizes names activity =
    1 + (length activity.items + (feedback_size activity.on_completion + sizes_named sizes names activity.environments))

-- The sizes of all activities, in their order.
abbrev pub activity_sizes : Unit → NameTable → List ℕ
activity_sizes unit names = map (activity_size (first_sizes unit names) names) unit.activities

-- The sizes of environments and activities.
abbrev pub leaf_sizes : Unit → NameTable → Sizes
leaf_sizes unit names = record { environments = environment_sizes unit names; activities = activity_sizes unit names; structures = [] }

-- ---- structures

-- A structure without those that are its children.
abbrev pub own_structure_size : Sizes → NameTable → Structure → ℕ
own_structure_size sizes names structure = 1 + (sizes_named sizes names structure.environments + sizes_named sizes names structure.children)

-- The sizes of all structures, each with its children, and theirs, and so on.
abbrev pub structure_sizes : Unit → NameTable → List ℕ
structure_sizes unit names = expanded_sizes (map (own_structure_size (leaf_sizes unit names) names) unit.structures) (structure_graph unit names)

-- The sizes of all environments, activities and structures of the unit.
abbrev pub sizes_of : Unit → NameTable → Sizes
sizes_of unit names = record { environments = environment_sizes unit names; activities = activity_sizes unit names; structures = structure_sizes unit names }

-- ---- role-parts and the unit

-- The play of this number.
abbrev pub play_at : Unit → ℕ → Option Play
play_at unit p = slice_get unit.method.plays p

-- The act of the second number in the play of the first.
abbrev pub act_at : Unit → ℕ → ℕ → Option Act
act_at unit p a = play_at unit p >>= λ play. slice_get play.acts a

-- The role-part of the third number, in the act of the second, in the play of the first.
abbrev pub role_part_at : Unit → ℕ → ℕ → ℕ → Option RolePart
role_part_at unit p a r = act_at unit p a >>= λ act. slice_get act.role_parts r

-- A role-part with what it names.
abbrev pub part_size : Sizes → NameTable → Option RolePart → ℕ
part_size sizes names None = 0
part_size sizes names (Some part) = 1 + size_named sizes names part.target

-- What an object counts in the size of the unit: a role-part what it expands to; an act, a play and the
-- unit the feedback on their completion.
abbrev pub size_counted : Unit → Sizes → NameTable → Kind → ℕ
size_counted unit sizes names (kind.Thing (place.RolePart p a r)) = part_size sizes names (role_part_at unit p a r)
size_counted unit sizes names (kind.Thing (place.Act p a)) = feedback_size (act_at unit p a >>= λ act. act.on_completion)
size_counted unit sizes names (kind.Thing (place.Play p)) = feedback_size (play_at unit p >>= λ play. play.on_completion)
size_counted unit sizes names kind.Unit = feedback_size unit.method.on_completion
size_counted unit sizes names _ = 0

-- What a part counts in the size of the unit: nothing where it declares nothing.
abbrev pub size_in : Unit → Sizes → NameTable → What → ℕ
size_in unit sizes names (Declares kind _ _) = size_counted unit sizes names kind
size_in unit sizes names _ = 0

-- The size of the unit: the sum of what its parts count.
abbrev pub unit_size : Unit → Sizes → NameTable → List Part → ℕ
unit_size unit sizes names parts = sum_by (λ part. size_in unit sizes names part.what) parts

-- ---- faults

-- A role-part stands there.
abbrev pub is_role_part : What → Bool
is_role_part (Declares (kind.Thing (place.RolePart _ _ _)) _ _) = true
is_role_part _ = false

-- A role-part of more than 20,000.
abbrev pub part_size_faults : Unit → Sizes → NameTable → Part → List Told
part_size_faults unit sizes names part =
    fault_if (is_role_part part.what && nat_lt 20000 (size_in unit sizes names part.what)) TooBig part.at

-- A unit of more than 200,000.
abbrev pub unit_size_faults : ℕ → List Told
unit_size_faults size = fault_if (nat_lt 200000 size) TooBig method_at

-- The faults of sizes: those of role-parts in document order, and then that of the unit.
abbrev pub size_faults_with : Unit → Sizes → NameTable → List Part → List Told
size_faults_with unit sizes names parts =
    flat_map (part_size_faults unit sizes names) parts ++ unit_size_faults (unit_size unit sizes names parts)

-- The same with the sizes of the unit's own environments, activities and structures.
unfoldable pub size_faults : Unit → NameTable → List Part → List Told
size_faults unit names parts = size_faults_with unit (sizes_of unit names) names parts
