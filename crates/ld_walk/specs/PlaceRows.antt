-- How places are kept: each by the number of the place above it, which stands before it, and the step down.
use Rattle.std.specs.Prelude.{ℕ, ◌+◌, List, [], ◌∷◌, ◌++◌, get_or, Bool, true, ◌&&◌, nat_lt}
use Rattle.ld_json.specs.declared.file.FileNo.TheVariants as file
use Rattle.ld_walk.specs.Places.{At, root, member, nth}
use Rattle.ld_walk.specs.declared.places.Down.{Down}
use Rattle.ld_walk.specs.declared.places.Down.TheVariants.{Whole, Member, Element}
use Rattle.ld_walk.specs.declared.places.PlaceRow.{PlaceRow}

-- The place of this number; past the end the first document.
abbrev pub place_at : List At → ℕ → At
place_at places n = get_or places n (root file.Roles)

-- The place to which the step leads from the place above it.
abbrev pub step_from : At → Down → At
step_from above (Whole file) = root file
step_from above (Member name) = member above name.now
step_from above (Element name index) = nth above name.now index

-- The place of a row behind these places.
abbrev pub place_by : List At → PlaceRow → At
place_by places row = step_from (place_at places row.above) row.step

-- These places, and behind them those of the rows.
abbrev pub places_from : List At → List PlaceRow → List At
places_from places [] = places
places_from places (row ∷ rows) = places_from (places ++ place_by places row ∷ []) rows

-- The places of the rows.
abbrev pub places_in : List PlaceRow → List At
places_in rows = places_from [] rows

-- The place above has a lower number than this, where it matters.
abbrev pub leads_down : ℕ → ℕ → Down → Bool
leads_down n above (Whole _) = true
leads_down n above (Member _) = nat_lt above n
leads_down n above (Element _ _) = nat_lt above n

-- The row of this number stands below an earlier one, or is a whole document.
abbrev pub is_below : ℕ → PlaceRow → Bool
is_below n row = leads_down n row.above row.step

-- Each row, of which the first has this number, stands below an earlier one, or is a whole document.
abbrev pub are_below : ℕ → List PlaceRow → Bool
are_below n [] = true
are_below n (row ∷ rows) = is_below n row && are_below (n + 1) rows
