-- The checks of levels, of what is left out, and of limits. (docs/FORMATS.md, "Levels", "What is left out", "Limits")
use Rattle.std.specs.Prelude.{ℕ, List, ◌++◌, Bool, true, false, ◌||◌, not, nat_lt, length, drop, map, flat_map}
use Rattle.std.specs.List.{filter}
use Rattle.ld_json.specs.declared.code.Code.TheVariants.{AboveLevel, NotInProfile, TooMany}
use Rattle.ld_json.specs.Fault.{Told}
use Rattle.ld_model.specs.declared.unit.Level.{Level}
use Rattle.ld_model.specs.declared.unit.Level.TheVariants.{A, B, C}
use Rattle.ld_walk.specs.declared.kind.Kind.{Kind}
use Rattle.ld_walk.specs.Kinds.{is_role, is_property_kind, is_environment, is_object_or_service, is_item, is_activity_kind, is_structure}
use Rattle.ld_parts.specs.Listing.{method_at}
use Rattle.ld_walk.specs.Parts.{What, Declares, Follows, Leaf, LeftOut, Part}
use Rattle.ld_walk.specs.Places.{fault_at}
use Rattle.ld_names.specs.Names.{NameTable}
use Rattle.ld_refs.specs.declared.checks.limits.Counted.{Counted}
use Rattle.ld_refs.specs.declared.checks.limits.Counted.TheVariants as counted
use Rattle.ld_types.specs.Faults.{fault_if}

-- ---- levels

-- The place of the level among the three, the lowest of which is 0.
abbrev pub level_number : Level → ℕ
level_number A = 0
level_number B = 1
level_number C = 2

-- The second level is higher than the first.
abbrev pub is_above : Level → Level → Bool
is_above level other = nat_lt (level_number level) (level_number other)

-- The fault of a part that only units of a higher level have.
abbrev pub level_faults_of : Level → Part → List Told
level_faults_of level part = fault_if (is_above level part.level) AboveLevel part.at

-- What stands there has a higher level than the unit.
abbrev pub level_faults : Level → List Part → List Told
level_faults level parts = flat_map (level_faults_of level) parts

-- ---- what is left out

-- Something follows the completion of a thing of which it is not said when it is completed; or it is a
-- use of an element that this engine leaves out.
abbrev pub is_left_out : What → Bool
is_left_out (Follows completes) = not completes
is_left_out LeftOut = true
is_left_out _ = false

-- The fault of a part that is left out, at its place.
abbrev pub profile_faults_of : Part → List Told
profile_faults_of part = fault_if (is_left_out part.what) NotInProfile part.at

-- The faults of all parts that are left out, in document order.
abbrev pub profile_faults : List Part → List Told
profile_faults parts = flat_map profile_faults_of parts

-- ---- limits

-- An object stands there, of a kind that passes the test.
abbrev pub declares : (Kind → Bool) → What → Bool
declares test (Declares kind _ _) = test kind
declares test _ = false

-- The objects of a kind that stand behind the first ones, of which this many are allowed.
abbrev pub beyond : ℕ → (Kind → Bool) → List Part → List Told
beyond limit test parts = map (λ part. fault_at TooMany part.at) (drop limit (filter (λ part. declares test part.what) parts))

-- What is counted together.
abbrev pub is_counted : Counted → Kind → Bool
is_counted counted.Roles kind = is_role kind
is_counted counted.Properties kind = is_property_kind kind
is_counted counted.Environments kind = is_environment kind
is_counted counted.ObjectsAndServices kind = is_object_or_service kind
is_counted counted.Items kind = is_item kind
is_counted counted.ActivitiesAndStructures kind = is_activity_kind kind || is_structure kind

-- At most 60 roles, 300 properties, 400 environments, 1,000 learning objects and services together,
-- 4,000 items, 400 activities and structures together.
unfoldable pub object_limit_faults : List Part → List Told
object_limit_faults parts =
    beyond 60 (is_counted counted.Roles) parts
    ++ (beyond 300 (is_counted counted.Properties) parts
    ++ (beyond 400 (is_counted counted.Environments) parts
    ++ (beyond 1000 (is_counted counted.ObjectsAndServices) parts
    ++ (beyond 4000 (is_counted counted.Items) parts
    ++ beyond 400 (is_counted counted.ActivitiesAndStructures) parts))))

-- A leaf of an expression. Where the flag says so, only one that is asked of each member of a role.
abbrev pub is_leaf : Bool → What → Bool
is_leaf of_members_only (Leaf of_members) = not of_members_only || of_members
is_leaf of_members_only _ = false

-- How many such leaves the parts have.
abbrev pub leaves_in : Bool → List Part → ℕ
leaves_in of_members_only parts = length (filter (λ part. is_leaf of_members_only part.what) parts)

-- The unit as a whole has more than `limit`.
abbrev pub over : ℕ → ℕ → List Told
over limit count = fault_if (nat_lt limit count) TooMany method_at

-- At most 600 rules, 4,000 leaves of expressions, 100 leaves that are asked of each member of a role.
unfoldable pub count_faults : NameTable → List Part → List Told
count_faults names parts =
    over 600 (length names.rules) ++ (over 4000 (leaves_in false parts) ++ over 100 (leaves_in true parts))
