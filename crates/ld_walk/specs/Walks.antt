-- A walk through the documents of a unit.
use Rattle.std.specs.Prelude.{ℕ, List, [], ◌∷◌, ◌++◌, Bool, true, ◌≡◌, ◌<◌, nat_lt, map, reverse}
use Rattle.std.specs.List.{list_all}
use Rattle.ld_walk.specs.declared.part.PartRow.{PartRow}
use Rattle.ld_walk.specs.Parts.{Part}
use Rattle.ld_walk.specs.Places.{At}
use Rattle.ld_walk.specs.PlaceRows.{place_at}
use Rattle.ld_walk.specs.PartView.{part_by}

-- Where the walk stands, the places to which it goes back, the nearest first, and the parts that it listed.
pub record Walked : Type 0 where
  pub at : At
  pub back : List At
  pub parts : List Part

-- The walk that listed these parts further, and stands where it stood.
abbrev pub added : Walked → List Part → Walked
added walk parts = record { at = walk.at; back = walk.back; parts = walk.parts ++ parts }

-- The walk that went down to this place.
abbrev pub entered : Walked → At → Walked
entered walk at = record { at = at; back = walk.at ∷ walk.back; parts = walk.parts }

-- The nearest of the places to go back to; without one the walk stays where it is.
abbrev pub place_before : At → List At → At
place_before at [] = at
place_before at (above ∷ _) = above

-- The places to go back to behind the nearest.
abbrev pub rest_of : List At → List At
rest_of [] = []
rest_of (_ ∷ back) = back

-- The walk that went back from the place at which it stands.
abbrev pub left : Walked → Walked
left walk = record { at = place_before walk.at walk.back; back = rest_of walk.back; parts = walk.parts }

-- ---- how a walk is kept

-- The walk among these places, with the numbers of those to go back to, the nearest last.
abbrev pub walked_by : List At → ℕ → List ℕ → List PartRow → Walked
walked_by places at back rows = record { at = place_at places at; back = reverse (map (place_at places) back); parts = map (part_by places) rows }

-- The numbers are those of places.
abbrev pub all_within : ℕ → List ℕ → Bool
all_within count numbers = list_all (λ n. nat_lt n count) numbers

-- The numbers at which the parts stand are those of places.
abbrev pub parts_within : ℕ → List PartRow → Bool
parts_within count rows = list_all (λ row. nat_lt row.at count) rows

-- Of this many places, the walk stands at one, goes back to some, and has its parts at some.
abbrev pub IsKept : ℕ → ℕ → List ℕ → List PartRow → Type 0
IsKept count at back rows = (at < count) × (all_within count back ≡ true) × (parts_within count rows ≡ true)
