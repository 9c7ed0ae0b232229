-- The persons as they are kept, and what is said of them.
use Rattle.std.proofs.Common.{◌≡◌, ℕ, zero, suc, arith, ◌+◌, ◌-◌, ◌<◌, List, [], ◌∷◌, ◌++◌, map, length, set, All, Bool, true, false, cond, Option, Some, None, option_map, slice_get, refl, sym, ap, ◌∙◌, get_or}
use Rattle.std.proofs.lemmas.List.{map-append}
use Rattle.std.proofs.lemmas.List.Elements.{All-cons, All-head, All-tail, All-get_or}
use Rattle.std.proofs.lemmas.Option.{slice_get_within, get_or_from_slice_get, slice_get-map}
use Rattle.std.proofs.lemmas.Iterator.Adapters.{position_from-zero}
use Rattle.std.specs.List.{position, position_from}
use Rattle.std.specs.Map.{keys_of, values_of}
use Rattle.std.specs.Str.{bytes_eq}
use Rattle.indexmap.specs.IndexMap.{insert_entry, set_value_at}
use Rattle.ld_roles.specs.Kept.{PersonRow, person_of, persons_of}
use Rattle.ld_roles.specs.Membership.{is_member_by, is_member_among}
use Rattle.ld_roles.specs.Persons.{changed_at, person_number}
use Rattle.ld_roles.specs.RoleBounds.{RoleBounds}
use Rattle.ld_expr.specs.Lookup.{is_some_and}
use Rattle.ld_roles.specs.Seats.{IsSeated, row_of, seated_in, with_held, is_member_with}
use Rattle.ld_roles.specs.declared.seat.Seat.{Seat}
use Rattle.ld_roles.proofs.Numbers.{noted_of}

-- Whoever is there is seated.
pub seated_at : {roles : List RoleBounds} (persons : List (List ℕ × Seat)) → All (λ each. IsSeated roles each.1) persons → (p : ℕ) (entry : List ℕ × Seat) → slice_get persons p ≡ Some entry → IsSeated roles entry.1
seated_at {roles} persons seated p entry there =
    let within : p < length persons = slice_get_within persons p entry there in
    let is : get_or persons p entry ≡ entry = get_or_from_slice_get persons p entry entry there in
    rw is at (All-get_or (λ each. IsSeated roles each.1) persons p entry within seated)

-- ---- the first person and the others

-- Who is added to the others is added last.
pub added_last : (first : Option (List ℕ × Seat)) (others more : List (List ℕ × Seat)) → seated_in first (others ++ more) ≡ seated_in first others ++ more
added_last None others more = refl
added_last (Some first) others more = refl

-- The others are numbered from 1.
pub other_at : (first : Option (List ℕ × Seat)) (others : List (List ℕ × Seat)) (p : ℕ) → (first ≡ None → others ≡ []) → (p ≡ 0 → ⊥) → slice_get (seated_in first others) p ≡ slice_get others (p - 1)
other_at None others p order other = rw (order refl) refl
other_at (Some first) others zero order other = absurd (other refl)
other_at (Some first) others (suc p) order other =
    let less : suc p - 1 ≡ p = omega arith in
    rw less refl

pub other_value : (first : Option (List ℕ × Seat)) (others : List (List ℕ × Seat)) (p : ℕ) → (first ≡ None → others ≡ []) → (p ≡ 0 → ⊥) → slice_get (values_of (seated_in first others)) p ≡ slice_get (values_of others) (p - 1)
other_value None others p order other = rw (order refl) refl
other_value (Some first) others zero order other = absurd (other refl)
other_value (Some first) others (suc p) order other =
    let less : suc p - 1 ≡ p = omega arith in
    rw less refl

pub other_set : (first : Option (List ℕ × Seat)) (others : List (List ℕ × Seat)) (p : ℕ) (seat : Seat) → (first ≡ None → others ≡ []) → (p ≡ 0 → ⊥) → seated_in first (set_value_at others (p - 1) seat) ≡ set_value_at (seated_in first others) p seat
other_set None others p seat order other = rw (order refl) refl
other_set (Some first) others zero seat order other = absurd (other refl)
other_set (Some first) others (suc p) seat order other =
    let less : suc p - 1 ≡ p = omega arith in
    rw less refl

-- What is left of none is none.
pub none_left : (others last : List (List ℕ × Seat)) → others ++ last ≡ [] → others ≡ []
none_left [] last none = refl
none_left (entry ∷ others) last none = cc

-- ---- by name

numbered_from : (name : List ℕ) (n : ℕ) (persons : List (List ℕ × Seat)) → position_from (bytes_eq name) n (keys_of persons) ≡ position_from (λ person. bytes_eq name person.name) n (persons_of (map row_of persons))
numbered_from name n [] = refl
numbered_from name n (entry ∷ persons) = ap (λ later. cond (bytes_eq name entry.0) (Some n) later) (numbered_from name (n + 1) persons)

numbered_later : (name : List ℕ) (n : ℕ) (persons : List (List ℕ × Seat)) → position_from (bytes_eq name) (n + 1) (keys_of persons) ≡ option_map (λ place. place + 1) (position_from (bytes_eq name) n (keys_of persons))
numbered_later name n [] = refl
numbered_later name n (entry ∷ persons) = by (bytes_eq name entry.0) (numbered_later name (n + 1) persons)
  where
    by : (same : Bool) → position_from (bytes_eq name) (n + 1 + 1) (keys_of persons) ≡ option_map (λ place. place + 1) (position_from (bytes_eq name) (n + 1) (keys_of persons)) → cond same (Some (n + 1)) (position_from (bytes_eq name) (n + 1 + 1) (keys_of persons)) ≡ option_map (λ place. place + 1) (cond same (Some n) (position_from (bytes_eq name) (n + 1) (keys_of persons)))
    by true later = refl
    by false later = later

-- A person is found by the name: the first one, or one of the others.
pub numbered : (name : List ℕ) (first : List ℕ × Seat) (others : List (List ℕ × Seat)) → person_number (persons_of (map row_of (first ∷ others))) name ≡ cond (bytes_eq name first.0) (Some 0) (option_map (λ place. place + 1) (position (bytes_eq name) (keys_of others)))
numbered name first others = ap (λ later. cond (bytes_eq name first.0) (Some 0) later) (sym (numbered_from name 1 others) ∙ numbered_later name 0 others ∙ ap (option_map (λ place. place + 1)) (sym (position_from-zero (bytes_eq name) (keys_of others))))

-- Who is not the first one is found among the others.
pub found_later : (name : List ℕ) (found : Option (List ℕ × Seat)) (first : List ℕ × Seat) (others : List (List ℕ × Seat)) (place : Option ℕ) → found ≡ Some first → bytes_eq name first.0 ≡ false → position (bytes_eq name) (keys_of others) ≡ place → person_number (persons_of (map row_of (seated_in found others))) name ≡ option_map (λ place. place + 1) place
found_later name found first others place is other at =
    ap (λ found. person_number (persons_of (map row_of (seated_in found others))) name) is
    ∙ numbered name first others
    ∙ ap (λ same. cond same (Some 0) (option_map (λ place. place + 1) (position (bytes_eq name) (keys_of others)))) other
    ∙ ap (option_map (λ place. place + 1)) at

pub none_of_none : (name : List ℕ) (others : List (List ℕ × Seat)) → length others ≡ 0 → position (bytes_eq name) (keys_of others) ≡ None
none_of_none name [] none = refl
none_of_none name (entry ∷ others) none = cc

last_from : (name : List ℕ) (seat : Seat) (n : ℕ) (persons : List (List ℕ × Seat)) → position_from (λ person. bytes_eq name person.name) n (persons_of (map row_of persons)) ≡ None → insert_entry bytes_eq persons name seat ≡ persons ++ (name, seat) ∷ []
last_from name seat n [] new = refl
last_from name seat n (entry ∷ persons) new = by (bytes_eq name entry.0) refl (last_from name seat (n + 1) persons)
  where
    by : (same : Bool) → bytes_eq name entry.0 ≡ same → (position_from (λ person. bytes_eq name person.name) (n + 1) (persons_of (map row_of persons)) ≡ None → insert_entry bytes_eq persons name seat ≡ persons ++ (name, seat) ∷ []) → insert_entry bytes_eq (entry ∷ persons) name seat ≡ entry ∷ persons ++ (name, seat) ∷ []
    by true same later = let found = rw same at new in cc
    by false same later = let none = rw same at new in rw same (ap (λ rest. entry ∷ rest) (later none))

-- A person with a new name goes last.
pub new_last : (name : List ℕ) (seat : Seat) (first : Option (List ℕ × Seat)) (others : List (List ℕ × Seat)) → person_number (persons_of (map row_of (seated_in first others))) name ≡ None → insert_entry bytes_eq others name seat ≡ others ++ (name, seat) ∷ []
new_last name seat None others new = last_from name seat 0 others new
new_last name seat (Some first) others new = by (bytes_eq name first.0) refl
  where
    by : (same : Bool) → bytes_eq name first.0 ≡ same → insert_entry bytes_eq others name seat ≡ others ++ (name, seat) ∷ []
    by true same = let found = rw same at new in cc
    by false same = last_from name seat 1 others (rw same at new)

pub rows_last : (persons : List (List ℕ × Seat)) (name : List ℕ) (seat : Seat) (row : PersonRow) → row_of (name, seat) ≡ row → map row_of (persons ++ (name, seat) ∷ []) ≡ map row_of persons ++ row ∷ []
rows_last persons name seat row is = map-append row_of persons ((name, seat) ∷ []) ∙ ap (λ last. map row_of persons ++ last ∷ []) is

-- ---- by number

-- What is written at a number is written there of the rows.
pub rows_set : (persons : List (List ℕ × Seat)) (p role : ℕ) (held : Bool) (old new : Seat) → slice_get (values_of persons) p ≡ Some old → new.holds.items ≡ set old.holds.items role held → map row_of (set_value_at persons p new) ≡ changed_at (with_held role held) p (map row_of persons)
rows_set [] p role held old new there is = refl
rows_set (entry ∷ persons) zero role held old new there is =
    let same : entry.1 ≡ old = cc in
    let own : row_of (entry.0, new) ≡ with_held role held (row_of entry) = ap (λ held. record { name = entry.0; held = held }) (is ∙ ap (λ seat. set seat.holds.items role held) (sym same)) in
    ap (λ row. row ∷ map row_of persons) own
rows_set (entry ∷ persons) (suc p) role held old new there is = ap (λ rows. row_of entry ∷ rows) (rows_set persons p role held old new there is)

pub length_set : (persons : List (List ℕ × Seat)) (p : ℕ) (seat : Seat) → length (set_value_at persons p seat) ≡ length persons
length_set [] p seat = refl
length_set (entry ∷ persons) zero seat = refl
length_set (entry ∷ persons) (suc p) seat = ap suc (length_set persons p seat)

pub seated_set : {roles : List RoleBounds} (persons : List (List ℕ × Seat)) (p : ℕ) (seat : Seat) → All (λ each. IsSeated roles each.1) persons → IsSeated roles seat → All (λ each. IsSeated roles each.1) (set_value_at persons p seat)
seated_set [] p seat all one = all
seated_set {roles} (entry ∷ persons) zero seat all one = All-cons (λ each. IsSeated roles each.1) (entry.0, seat) persons one (All-tail (λ each. IsSeated roles each.1) entry persons all)
seated_set {roles} (entry ∷ persons) (suc p) seat all one = All-cons (λ each. IsSeated roles each.1) entry (set_value_at persons p seat) (All-head (λ each. IsSeated roles each.1) entry persons all) (seated_set persons p seat (All-tail (λ each. IsSeated roles each.1) entry persons all) one)

-- The seat at a number is that of an entry.
pub entry_of : (persons : List (List ℕ × Seat)) (p : ℕ) (seat : Seat) → slice_get (values_of persons) p ≡ Some seat → (entry : List ℕ × Seat) × (slice_get persons p ≡ Some entry) × (entry.1 ≡ seat)
entry_of persons p seat there = by (slice_get persons p) refl
  where
    by : (found : Option (List ℕ × Seat)) → slice_get persons p ≡ found → (entry : List ℕ × Seat) × (slice_get persons p ≡ Some entry) × (entry.1 ≡ seat)
    by None found = let no : None ≡ Some seat = sym (slice_get-map (λ e. e.1) persons p ∙ ap (option_map (λ e. e.1)) found) ∙ there in cc
    by (Some entry) found =
        let is : Some entry.1 ≡ Some seat = sym (slice_get-map (λ e. e.1) persons p ∙ ap (option_map (λ e. e.1)) found) ∙ there in
        let same : entry.1 ≡ seat = cc in
        (entry, found, same)

pub seated_value : {roles : List RoleBounds} (persons : List (List ℕ × Seat)) → All (λ each. IsSeated roles each.1) persons → (p : ℕ) (seat : Seat) → slice_get (values_of persons) p ≡ Some seat → IsSeated roles seat
seated_value {roles} persons seated p seat there =
    let entry = entry_of persons p seat there in
    rw entry.2 at (seated_at persons seated p entry.0 entry.1)

-- What is noted at the seat is whether the person is a member.
pub noted_among : {roles : List RoleBounds} (rows : List PersonRow) (p role : ℕ) (entry : List ℕ × Seat) → IsSeated roles entry.1 → slice_get rows p ≡ Some (row_of entry) → role < length roles → slice_get entry.1.member.items role ≡ Some (is_member_among roles (persons_of rows) role p)
noted_among {roles} rows p role entry seated row within =
    let person : slice_get (persons_of rows) p ≡ Some (person_of (row_of entry)) = slice_get-map person_of rows p ∙ ap (option_map person_of) row in
    let is : is_member_among roles (persons_of rows) role p ≡ is_member_with roles entry.1.holds.items role = ap (is_some_and (λ each. is_member_by roles each role)) person in
    noted_of seated role within ∙ ap Some (sym is)
