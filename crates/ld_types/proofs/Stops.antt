-- Loops that stop at the first fault of a list.
use Rattle.std.proofs.Common.{◌≡◌, ℕ, ◌+◌, ◌<◌, List, [], ◌∷◌, drop, length, get_or, flat_map, Option, Some, None, slice_get, refl, sym, ap, ◌∙◌, add-one}
use Rattle.std.proofs.Math.Seq.{drop-cons}
use Rattle.std.proofs.lemmas.Option.{slice_get-get_or}
use Rattle.std.specs.Option.{option_map}
use Rattle.ld_json.proofs.First.{says_more}
use Rattle.ld_json.specs.declared.fault.ReadFault.{ReadFault}
use Rattle.ld_json.specs.declared.fault.ReadFault.TheVariants.{Refused, NoMemory}
use Rattle.ld_json.specs.Fault.{Told, Says, SaysFirst}
use Rattle.ld_model.specs.declared.unit.Level.{Level}
use Rattle.ld_model.specs.Counting.{each_numbered_from}
use Rattle.ld_walk.specs.Parts.{What, Part}
use Rattle.ld_walk.specs.Places.{At}

pub says_one : (told : Told) (fault : ReadFault) → Says told fault → SaysFirst (told ∷ []) fault
says_one told NoMemory says = tt
says_one told (Refused refused) says = ap Some (sym says)

pub from_here : {A : Type 0} (xs : List A) (i : ℕ) (d : A) → i < length xs → drop i xs ≡ get_or xs i d ∷ drop (i + 1) xs
from_here xs i d within = drop-cons xs i d within ∙ rw (add-one i) refl

-- ---- elements by their numbers

pub stop_numbered : {A : Type 0} (f : ℕ → A → List Told) (xs : List A) (i : ℕ) (d : A) (total : List Told) (fault : ReadFault) → i < length xs → each_numbered_from f i (drop i xs) ≡ total → SaysFirst (f i (get_or xs i d)) fault → SaysFirst total fault
stop_numbered f xs i d total fault within is says =
    let cut = rw (from_here xs i d within) at is in
    rw (sym cut) (says_more (f i (get_or xs i d)) (each_numbered_from f (i + 1) (drop (i + 1) xs)) fault says)

pub pass_numbered : {A : Type 0} (f : ℕ → A → List Told) (xs : List A) (i : ℕ) (d : A) (total : List Told) → i < length xs → each_numbered_from f i (drop i xs) ≡ total → f i (get_or xs i d) ≡ [] → each_numbered_from f (i + 1) (drop (i + 1) xs) ≡ total
pass_numbered f xs i d total within is none = rw none at (rw (from_here xs i d within) at is)

-- ---- parts

-- The part of which the place, the level and what stands there are known.
pub part_with : (found : Option Part) (at : At) (level : Level) (what : What) → option_map (λ part. part.at) found ≡ Some at → option_map (λ part. part.level) found ≡ Some level → option_map (λ part. part.what) found ≡ Some what → found ≡ Some (record { at = at; level = level; what = what })
part_with None at level what is_at is_level is_what = cc
part_with (Some part) at level what is_at is_level is_what =
    let a : part.at ≡ at = cc in
    let l : part.level ≡ level = cc in
    let w : part.what ≡ what = cc in
    rw (← a, ← l, ← w) refl

-- The parts from this one on.
pub parts_from : (parts : List Part) (i : ℕ) (part : Part) → i < length parts → slice_get parts i ≡ Some part → drop i parts ≡ part ∷ drop (i + 1) parts
parts_from parts i part within is =
    let at = from_here parts i part within in
    let same : Some (get_or parts i part) ≡ Some part = sym (slice_get-get_or parts i part within) ∙ is in
    let one : get_or parts i part ≡ part = cc in
    rw one at at

pub stop_parts : (f : Part → List Told) (parts : List Part) (i : ℕ) (part : Part) (total : List Told) (fault : ReadFault) → i < length parts → slice_get parts i ≡ Some part → flat_map f (drop i parts) ≡ total → SaysFirst (f part) fault → SaysFirst total fault
stop_parts f parts i part total fault within here is says =
    let cut = rw (parts_from parts i part within here) at is in
    rw (sym cut) (says_more (f part) (flat_map f (drop (i + 1) parts)) fault says)

pub pass_parts : (f : Part → List Told) (parts : List Part) (i : ℕ) (part : Part) (total : List Told) → i < length parts → slice_get parts i ≡ Some part → flat_map f (drop i parts) ≡ total → f part ≡ [] → flat_map f (drop (i + 1) parts) ≡ total
pass_parts f parts i part total within here is none = rw none at (rw (parts_from parts i part within here) at is)

-- ---- parts by their numbers

-- The part of which the place and what stands there are known.
pub part_found : (found : Option Part) (at : At) (what : What) → option_map (λ part. part.at) found ≡ Some at → option_map (λ part. part.what) found ≡ Some what → (part : Part) × (found ≡ Some part) × (part.at ≡ at) × (part.what ≡ what)
part_found None at what is_at is_what = cc
part_found (Some part) at what is_at is_what = (part, refl, cc, cc)

pub stop_numbered_part : (f : ℕ → Part → List Told) (parts : List Part) (i : ℕ) (part : Part) (total : List Told) (fault : ReadFault) → i < length parts → slice_get parts i ≡ Some part → each_numbered_from f i (drop i parts) ≡ total → SaysFirst (f i part) fault → SaysFirst total fault
stop_numbered_part f parts i part total fault within here is says =
    let cut = rw (parts_from parts i part within here) at is in
    rw (sym cut) (says_more (f i part) (each_numbered_from f (i + 1) (drop (i + 1) parts)) fault says)

pub pass_numbered_part : (f : ℕ → Part → List Told) (parts : List Part) (i : ℕ) (part : Part) (total : List Told) → i < length parts → slice_get parts i ≡ Some part → each_numbered_from f i (drop i parts) ≡ total → f i part ≡ [] → each_numbered_from f (i + 1) (drop (i + 1) parts) ≡ total
pass_numbered_part f parts i part total within here is none = rw none at (rw (parts_from parts i part within here) at is)

-- The part of which is known what stands there.
pub what_found : (found : Option Part) (what : What) → option_map (λ part. part.what) found ≡ Some what → (part : Part) × (found ≡ Some part) × (part.what ≡ what)
what_found None what is_what = cc
what_found (Some part) what is_what = (part, refl, cc)
