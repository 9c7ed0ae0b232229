-- Sizes that stand still at a million, or of which the parts do so.
use Rattle.std.proofs.Common.{◌≡◌, ℕ, ◌+◌, ◌<◌, min, length, drop, slice_get, List, [], ◌∷◌, map, flat_map, Option, Some, None, Bool, true, false, refl, ap, ◌∙◌, arith}
use Rattle.std.proofs.lemmas.Bool.{ltb-true, ltb-false}
use Rattle.std.specs.Bool.{nat_lt}
use Rattle.ld_json.specs.Fault.{Told}
use Rattle.ld_model.specs.declared.activity.Activity.{Activity}
use Rattle.ld_model.specs.declared.activity.Structure.{Structure}
use Rattle.ld_model.specs.declared.method.RolePart.{RolePart}
use Rattle.ld_model.specs.declared.unit.Unit.{Unit}
use Rattle.ld_walk.specs.declared.kind.Kind.{Kind}
use Rattle.ld_walk.specs.declared.kind.Kind.TheVariants as kind
use Rattle.ld_walk.specs.declared.place.Place.TheVariants as place
use Rattle.ld_names.specs.Names.{NameTable}
use Rattle.ld_walk.specs.Parts.{What, Declares, Refers, Lists, Shares, Completes, Follows, Judges, Leaf, LeftOut, Types, Other, Part}
use Rattle.ld_refs.specs.Extents.{Sizes, size_of_kind, size_named, sizes_named, activity_size, own_structure_size, part_size, role_part_at, size_counted, size_in, unit_size, part_size_faults, size_faults_with}
use Rattle.ld_refs.specs.SizeView.{capped}
use Rattle.std.proofs.lemmas.List.Sums.{sum_by-cons}
use Rattle.ld_types.proofs.Stops.{parts_from}
use Rattle.ld_cycles.proofs.Rounds.{own_capped, sums_alike}

-- The two stand still at one place.
abbrev pub Alike : ℕ → ℕ → Type 0
Alike x y = min 1000000 x ≡ min 1000000 y

still : (n : ℕ) → Alike (min 1000000 n) n
still n = omega arith

pub kind_alike : (s : Sizes) (kind : Option Kind) → size_of_kind (capped s) kind ≡ min 1000000 (size_of_kind s kind)
kind_alike s (Some (kind.Thing (place.Environment e))) = own_capped s.environments e
kind_alike s (Some (kind.Thing (place.Activity a))) = own_capped s.activities a
kind_alike s (Some (kind.Thing (place.Structure t))) = own_capped s.structures t
kind_alike s (Some (kind.Thing (place.Play _))) = refl
kind_alike s (Some (kind.Thing (place.Act _ _))) = refl
kind_alike s (Some (kind.Thing (place.RolePart _ _ _))) = refl
kind_alike s (Some (kind.Thing (place.Object _ _))) = refl
kind_alike s (Some (kind.Thing (place.Service _ _))) = refl
kind_alike s (Some (kind.Thing place.Item)) = refl
kind_alike s (Some kind.Unit) = refl
kind_alike s (Some kind.Role) = refl
kind_alike s (Some kind.Property) = refl
kind_alike s None = refl

named_alike : (s : Sizes) (names : NameTable) (id : List ℕ) → Alike (size_named (capped s) names id) (size_named s names id)
named_alike s names id = ap (min 1000000) (kind_alike s _) ∙ still (size_named s names id)

all_alike : (s : Sizes) (names : NameTable) (ids : List (List ℕ)) → Alike (sizes_named (capped s) names ids) (sizes_named s names ids)
all_alike s names ids =
    let sums = sums_alike (size_named (capped s) names) (size_named s names) 0 0 ids refl (named_alike s names) in
    omega (arith, sums)

activity_alike : (s : Sizes) (names : NameTable) (activity : Activity) → Alike (activity_size (capped s) names activity) (activity_size s names activity)
activity_alike s names activity = omega (arith, all_alike s names activity.environments)

structure_alike : (s : Sizes) (names : NameTable) (structure : Structure) → Alike (own_structure_size (capped s) names structure) (own_structure_size s names structure)
structure_alike s names structure = omega (arith, all_alike s names structure.environments, all_alike s names structure.children)

maps_alike : {A : Type 0} (f h : A → ℕ) (xs : List A) → ((x : A) → Alike (f x) (h x)) → map (min 1000000) (map f xs) ≡ map (min 1000000) (map h xs)
maps_alike f h [] each = refl
maps_alike f h (x ∷ xs) each = rw (each x, maps_alike f h xs each) refl

pub activities_alike : (s : Sizes) (names : NameTable) (activities : List Activity) → map (min 1000000) (map (activity_size (capped s) names) activities) ≡ map (min 1000000) (map (activity_size s names) activities)
activities_alike s names activities = maps_alike (activity_size (capped s) names) (activity_size s names) activities (activity_alike s names)

pub structures_alike : (s : Sizes) (names : NameTable) (structures : List Structure) → map (min 1000000) (map (own_structure_size (capped s) names) structures) ≡ map (min 1000000) (map (own_structure_size s names) structures)
structures_alike s names structures = maps_alike (own_structure_size (capped s) names) (own_structure_size s names) structures (structure_alike s names)

-- ---- role-parts and the unit

role_part_alike : (s : Sizes) (names : NameTable) (part : Option RolePart) → Alike (part_size (capped s) names part) (part_size s names part)
role_part_alike s names None = refl
role_part_alike s names (Some part) = omega (arith, named_alike s names part.target)

counted_alike : (unit : Unit) (s : Sizes) (names : NameTable) (kind : Kind) → Alike (size_counted unit (capped s) names kind) (size_counted unit s names kind)
counted_alike unit s names (kind.Thing (place.RolePart p a r)) = role_part_alike s names (role_part_at unit p a r)
counted_alike unit s names (kind.Thing (place.Act _ _)) = refl
counted_alike unit s names (kind.Thing (place.Play _)) = refl
counted_alike unit s names (kind.Thing (place.Activity _)) = refl
counted_alike unit s names (kind.Thing (place.Structure _)) = refl
counted_alike unit s names (kind.Thing (place.Environment _)) = refl
counted_alike unit s names (kind.Thing (place.Object _ _)) = refl
counted_alike unit s names (kind.Thing (place.Service _ _)) = refl
counted_alike unit s names (kind.Thing place.Item) = refl
counted_alike unit s names kind.Unit = refl
counted_alike unit s names kind.Role = refl
counted_alike unit s names kind.Property = refl

size_alike : (unit : Unit) (s : Sizes) (names : NameTable) (what : What) → Alike (size_in unit (capped s) names what) (size_in unit s names what)
size_alike unit s names (Declares kind _ _) = counted_alike unit s names kind
size_alike unit s names (Refers _ _) = refl
size_alike unit s names (Lists _ _) = refl
size_alike unit s names (Shares _) = refl
size_alike unit s names (Completes _) = refl
size_alike unit s names (Follows _) = refl
size_alike unit s names (Judges _) = refl
size_alike unit s names (Leaf _) = refl
size_alike unit s names LeftOut = refl
size_alike unit s names (Types _) = refl
size_alike unit s names Other = refl

-- What stands still at one place is over a limit below a million alike.
over_alike : (limit x y : ℕ) → nat_lt limit 1000000 ≡ true → Alike x y → nat_lt limit x ≡ nat_lt limit y
over_alike limit x y low alike = by (nat_lt limit x) (nat_lt limit y) refl refl
  where
    by : (b d : Bool) → nat_lt limit x ≡ b → nat_lt limit y ≡ d → b ≡ d
    by true true is_x is_y = refl
    by false false is_x is_y = refl
    by true false is_x is_y = absurd (omega (arith, alike, ltb-true limit 1000000 low, ltb-true limit x is_x, ltb-false limit y is_y))
    by false true is_x is_y = absurd (omega (arith, alike, ltb-true limit 1000000 low, ltb-false limit x is_x, ltb-true limit y is_y))

same_faults : (f h : Part → List Told) (parts : List Part) → ((part : Part) → f part ≡ h part) → flat_map f parts ≡ flat_map h parts
same_faults f h [] each = refl
same_faults f h (part ∷ parts) each = rw (each part, same_faults f h parts each) refl

pub faults_alike : (unit : Unit) (s : Sizes) (names : NameTable) (parts : List Part) → size_faults_with unit (capped s) names parts ≡ size_faults_with unit s names parts
faults_alike unit s names parts =
    let each = same_faults (part_size_faults unit (capped s) names) (part_size_faults unit s names) parts (λ part. rw (over_alike 20000 (size_in unit (capped s) names part.what) (size_in unit s names part.what) refl (size_alike unit s names part.what)) refl) in
    let sums = sums_alike (λ part. size_in unit (capped s) names part.what) (λ part. size_in unit s names part.what) 0 0 parts refl (λ part. size_alike unit s names part.what) in
    let whole : Alike (unit_size unit (capped s) names parts) (unit_size unit s names parts) = omega (arith, sums) in
    rw (each, over_alike 200000 (unit_size unit (capped s) names parts) (unit_size unit s names parts) refl whole) refl

-- The size of the parts from one on.
pub unit_size_more : (unit : Unit) (s : Sizes) (names : NameTable) (parts : List Part) (i : ℕ) (part : Part) → i < length parts → slice_get parts i ≡ Some part → unit_size unit s names (drop i parts) ≡ size_in unit s names part.what + unit_size unit s names (drop (i + 1) parts)
unit_size_more unit s names parts i part within here =
    rw (parts_from parts i part within here) (sum_by-cons (λ p. size_in unit s names p.what) part (drop (i + 1) parts))
