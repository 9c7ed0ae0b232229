-- A walk that goes on keeps what it had.
use Rattle.std.proofs.Common.{◌≡◌, ℕ, ◌+◌, ◌<◌, List, [], ◌∷◌, ◌++◌, map, length, Bool, true, false, ◌&&◌, nat_lt, refl, ◌∙◌, arith}
use Rattle.std.proofs.lemmas.Bool.{ltb-true, lt-ltb}
use Rattle.std.proofs.lemmas.List.{append_assoc, get_or_append_left, get_or-append-add, map_push}
use Rattle.std.proofs.lemmas.List.{reverse-append}
use Rattle.ld_json.specs.declared.file.FileNo.TheVariants as file
use Rattle.ld_walk.specs.declared.part.PartRow.{PartRow}
use Rattle.ld_walk.specs.Places.{At, root}
use Rattle.ld_walk.specs.PlaceRows.{place_at}
use Rattle.ld_walk.specs.PartView.{part_by}
use Rattle.ld_walk.specs.Parts.{Part}
use Rattle.ld_walk.specs.Walks.{Walked, added, entered, walked_by, all_within, parts_within, IsKept}

first_of : (a b : Bool) → (a && b) ≡ true → a ≡ true
first_of true b both = refl
first_of false b both = cc

second_of : (a b : Bool) → (a && b) ≡ true → b ≡ true
second_of true b both = both
second_of false b both = cc

-- A number of a place stays one.
still_within : (n count : ℕ) → nat_lt n count ≡ true → nat_lt n (count + 1) ≡ true
still_within n count within = lt-ltb n (count + 1) (omega (arith, ltb-true n count within))

numbers_still : (count : ℕ) (numbers : List ℕ) → all_within count numbers ≡ true → all_within (count + 1) numbers ≡ true
numbers_still count [] all = refl
numbers_still count (n ∷ numbers) all =
    rw (still_within n count (first_of (nat_lt n count) (all_within count numbers) all)) (numbers_still count numbers (second_of (nat_lt n count) (all_within count numbers) all))

parts_still : (count : ℕ) (rows : List PartRow) → parts_within count rows ≡ true → parts_within (count + 1) rows ≡ true
parts_still count [] all = refl
parts_still count (row ∷ rows) all =
    rw (still_within row.at count (first_of (nat_lt row.at count) (parts_within count rows) all)) (parts_still count rows (second_of (nat_lt row.at count) (parts_within count rows) all))

numbers_more : (count : ℕ) (numbers : List ℕ) (n : ℕ) → all_within count numbers ≡ true → nat_lt n count ≡ true → all_within count (numbers ++ n ∷ []) ≡ true
numbers_more count [] n all last = rw last refl
numbers_more count (m ∷ numbers) n all last =
    rw (first_of (nat_lt m count) (all_within count numbers) all) (numbers_more count numbers n (second_of (nat_lt m count) (all_within count numbers) all) last)

-- The walk notes where to go back to.
pub kept_noted : (count at : ℕ) (back : List ℕ) (rows : List PartRow) → IsKept count at back rows → IsKept count at (back ++ at ∷ []) rows
kept_noted count at back rows kept = (kept.0, numbers_more count back at kept.1 (lt-ltb at count kept.0), kept.2)

-- The walk goes down.
pub kept_down : (count at : ℕ) (back : List ℕ) (rows : List PartRow) → IsKept count at back rows → IsKept (count + 1) count (back ++ at ∷ []) rows
kept_down count at back rows kept =
    let noted = kept_noted count at back rows kept in
    (omega arith, numbers_still count (back ++ at ∷ []) noted.1, parts_still count rows kept.2)

-- ---- what stands behind further places

place_still : (places : List At) (below : At) (n : ℕ) → n < length places → place_at (places ++ below ∷ []) n ≡ place_at places n
place_still places below n within = get_or_append_left places (below ∷ []) (root file.Roles) n within

places_still : (places : List At) (below : At) (numbers : List ℕ) → all_within (length places) numbers ≡ true → map (place_at (places ++ below ∷ [])) numbers ≡ map (place_at places) numbers
places_still places below [] all = refl
places_still places below (n ∷ numbers) all =
    let here = place_still places below n (ltb-true n (length places) (first_of (nat_lt n (length places)) (all_within (length places) numbers) all)) in
    let rest = places_still places below numbers (second_of (nat_lt n (length places)) (all_within (length places) numbers) all) in
    rw (here, rest) refl

listed_still : (places : List At) (below : At) (rows : List PartRow) → parts_within (length places) rows ≡ true → map (part_by (places ++ below ∷ [])) rows ≡ map (part_by places) rows
listed_still places below [] all = refl
listed_still places below (row ∷ rows) all =
    let here = place_still places below row.at (ltb-true row.at (length places) (first_of (nat_lt row.at (length places)) (parts_within (length places) rows) all)) in
    let rest = listed_still places below rows (second_of (nat_lt row.at (length places)) (parts_within (length places) rows) all) in
    rw (here, rest) refl

-- The walk that went down to a further place.
pub walked_down : (places : List At) (below : At) (at : ℕ) (back : List ℕ) (rows : List PartRow) → IsKept (length places) at back rows → walked_by (places ++ below ∷ []) (length places) (back ++ at ∷ []) rows ≡ entered (walked_by places at back rows) below
walked_down places below at back rows kept =
    let same : length places + 0 ≡ length places = omega arith in
    let here = rw same at (get_or-append-add places (below ∷ []) 0 (root file.Roles)) in
    let above = place_still places below at kept.0 in
    let ways = places_still places below back kept.1 in
    let parts = listed_still places below rows kept.2 in
    let noted = map_push (place_at (places ++ below ∷ [])) back at in
    let turned = reverse-append (map (place_at places) back) (place_at places at ∷ []) in
    rw (here, parts, noted, ways, above, turned) refl

-- A walk that listed parts, and then further ones.
pub added_twice : (walk : Walked) (first second : List Part) → added (added walk first) second ≡ added walk (first ++ second)
added_twice walk first second = rw (append_assoc walk.parts first second) refl

pub added_thrice : (walk : Walked) (a b c : List Part) → added (added (added walk a) b) c ≡ added walk (a ++ (b ++ c))
added_thrice walk a b c = added_twice (added walk a) b c ∙ added_twice walk a (b ++ c)

pub added_in_four : (walk : Walked) (a b c d : List Part) → added (added (added (added walk a) b) c) d ≡ added walk (a ++ (b ++ (c ++ d)))
added_in_four walk a b c d = added_thrice (added walk a) b c d ∙ added_twice walk a (b ++ (c ++ d))
