-- Lists of places: a further one changes none before it, and each is a step down from an earlier one.
use Rattle.std.proofs.Common.{◌≡◌, ℕ, zero, suc, ◌+◌, ◌<◌, ◌≤◌, List, [], ◌∷◌, ◌++◌, slice_get, length, Bool, true, false, ◌&&◌, Some, refl, sym, ap, ◌∙◌, arith, length-append}
use Rattle.std.proofs.lemmas.Bool.{ltb-true}
use Rattle.std.proofs.lemmas.Grind.{common_steps}
use Rattle.std.proofs.lemmas.List.{get_or_past, get_or_append_left, get_or-append-add}
use Rattle.ld_walk.specs.Places.{At, root, member, nth}
use Rattle.ld_json.specs.declared.file.FileNo.TheVariants as file
use Rattle.ld_walk.specs.PlaceRows.{place_at, step_from, place_by, places_from, places_in, leads_down, is_below, are_below}
use Rattle.ld_walk.specs.declared.places.PlaceRow.{PlaceRow}
use Rattle.ld_walk.specs.declared.places.Down.{Down}
use Rattle.ld_walk.specs.declared.places.Down.TheVariants.{Whole, Member, Element}

pub count_from : (places : List At) (rows : List PlaceRow) → length (places_from places rows) ≡ length places + length rows
count_from places [] = omega arith
count_from places (row ∷ rows) = omega (arith, count_from (places ++ place_by places row ∷ []) rows, length-append places (place_by places row ∷ []))

-- There are as many places as rows.
pub count_places : (rows : List PlaceRow) → length (places_in rows) ≡ length rows
count_places rows = omega (arith, count_from [] rows)

more_from : (places : List At) (rows : List PlaceRow) (row : PlaceRow) → places_from places (rows ++ row ∷ []) ≡ places_from places rows ++ place_by (places_from places rows) row ∷ []
more_from places [] row = refl
more_from places (next ∷ rows) row = more_from (places ++ place_by places next ∷ []) rows row

-- A further row.
pub places_more : (rows : List PlaceRow) (row : PlaceRow) → places_in (rows ++ row ∷ []) ≡ places_in rows ++ place_by (places_in rows) row ∷ []
places_more rows row = more_from [] rows row

below_from : (n : ℕ) (rows : List PlaceRow) (row : PlaceRow) → are_below n rows ≡ true → is_below (n + length rows) row ≡ true → are_below n (rows ++ row ∷ []) ≡ true
below_from n [] row all last = let same : n + 0 ≡ n = omega arith in grind (arith, common_steps, same, last)
below_from n (next ∷ rows) row all last =
    let same : n + length (next ∷ rows) ≡ (n + 1) + length rows = omega arith in
    let rest = below_from (n + 1) rows row in
    grind (arith, common_steps, same, rest, all, last)

-- A further row stands below an earlier one too.
pub below_more : (rows : List PlaceRow) (row : PlaceRow) → are_below 0 rows ≡ true → is_below (length rows) row ≡ true → are_below 0 (rows ++ row ∷ []) ≡ true
below_more rows row all last = let same : 0 + length rows ≡ length rows = omega arith in below_from 0 rows row all (rw same last)

-- Places that stand before stay.
stays_from : (places : List At) (rows : List PlaceRow) (n : ℕ) → n < length places → place_at (places_from places rows) n ≡ place_at places n
stays_from places [] n within = refl
stays_from places (row ∷ rows) n within =
    let further = places ++ place_by places row ∷ [] in
    stays_from further rows n (omega (arith, within, length-append places (place_by places row ∷ []))) ∙ get_or_append_left places (place_by places row ∷ []) (root file.Roles) n within

-- A step leads to the same place behind further places.
same_step : (old new : List At) (above : ℕ) (step : Down) → leads_down (length old) above step ≡ true → ((n : ℕ) → n < length old → place_at new n ≡ place_at old n) → step_from (place_at new above) step ≡ step_from (place_at old above) step
same_step old new above (Whole file) below stays = refl
same_step old new above (Member name) below stays = ap (λ at. member at name.now) (stays above (ltb-true above (length old) below))
same_step old new above (Element name index) below stays = ap (λ at. nth at name.now index) (stays above (ltb-true above (length old) below))

first_of : (a b : Bool) → (a && b) ≡ true → a ≡ true
first_of true b both = refl
first_of false b both = cc

second_of : (a b : Bool) → (a && b) ≡ true → b ≡ true
second_of true b both = both
second_of false b both = cc

-- Each place is that of its row.
stands_from : (places : List At) (rows : List PlaceRow) (i : ℕ) (row : PlaceRow) → are_below (length places) rows ≡ true → slice_get rows i ≡ Some row → place_at (places_from places rows) (length places + i) ≡ place_by (places_from places rows) row
stands_from places [] i row all at = cc
stands_from places (next ∷ rows) zero row all at =
    let next_is : next ≡ row = cc in
    let own = place_by places next in
    let further = places ++ own ∷ [] in
    let longer : length further ≡ length places + 1 = length-append places (own ∷ []) in
    let whole = places_from further rows in
    let stays : (n : ℕ) → n < length places → place_at whole n ≡ place_at places n = λ n within. stays_from places (next ∷ rows) n within in
    let here : place_at whole (length places + 0) ≡ own = stays_from further rows (length places + 0) (omega (arith, longer)) ∙ get_or-append-add places (own ∷ []) 0 (root file.Roles) in
    here ∙ sym (same_step places whole next.above next.step (first_of (is_below (length places) next) (are_below (length places + 1) rows) all) stays) ∙ ap (place_by whole) next_is
stands_from places (next ∷ rows) (suc i) row all at =
    let own = place_by places next in
    let further = places ++ own ∷ [] in
    let longer : length further ≡ length places + 1 = length-append places (own ∷ []) in
    let rest = second_of (is_below (length places) next) (are_below (length places + 1) rows) all in
    let same : length further + i ≡ length places + suc i = omega (arith, longer) in
    rw same at (stands_from further rows i row (rw (sym longer) at rest) at)

-- Where the row of a place is there, the place is that of the row.
pub stands_at : (rows : List PlaceRow) (i : ℕ) (row : PlaceRow) → are_below 0 rows ≡ true → slice_get rows i ≡ Some row → place_at (places_in rows) i ≡ place_by (places_in rows) row
stands_at rows i row all at =
    let same : 0 + i ≡ i = omega arith in
    rw same at (stands_from [] rows i row all at)

-- Past the end stands the first document.
pub stands_past : (rows : List PlaceRow) (i : ℕ) → length rows ≤ i → place_at (places_in rows) i ≡ root file.Roles
stands_past rows i past = get_or_past (places_in rows) i (root file.Roles) (rw (count_places rows) past)

below_at_from : (n : ℕ) (rows : List PlaceRow) (i : ℕ) (row : PlaceRow) → are_below n rows ≡ true → slice_get rows i ≡ Some row → is_below (n + i) row ≡ true
below_at_from n [] i row all at = cc
below_at_from n (next ∷ rows) zero row all at =
    let next_is : next ≡ row = cc in
    let same : n + 0 ≡ n = omega arith in
    rw (same, sym next_is) (first_of (is_below n next) (are_below (n + 1) rows) all)
below_at_from n (next ∷ rows) (suc i) row all at =
    let same : (n + 1) + i ≡ n + suc i = omega arith in
    rw same at (below_at_from (n + 1) rows i row (second_of (is_below n next) (are_below (n + 1) rows) all) at)

-- The row of a place stands below an earlier one.
pub below_at : (rows : List PlaceRow) (i : ℕ) (row : PlaceRow) → are_below 0 rows ≡ true → slice_get rows i ≡ Some row → is_below i row ≡ true
below_at rows i row all at =
    let same : 0 + i ≡ i = omega arith in
    rw same at (below_at_from 0 rows i row all at)
