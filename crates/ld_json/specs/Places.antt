-- Places in a document: JSON pointers, as bytes. The place of the whole document is empty.
use Rattle.std.specs.Prelude.{ℕ, List, [], ◌∷◌, ◌++◌, ◌==◌, flat_map, decimal, if◌then◌else◌}

-- A byte of a name in a place: `~` stands as `~0` and `/` as `~1`.
abbrev pub escaped_byte : ℕ → List ℕ
escaped_byte b = if b == 126 then 126 ∷ 48 ∷ [] else (if b == 47 then 126 ∷ 49 ∷ [] else b ∷ [])

-- A name as it stands in a place.
abbrev pub escaped : List ℕ → List ℕ
escaped = flat_map escaped_byte

-- The place of the member of this name in the object at the place.
abbrev pub member_place : List ℕ → List ℕ → List ℕ
member_place place name = place ++ 47 ∷ escaped name

-- The place of an element, counted from 0, of the array at the place.
abbrev pub item_place : List ℕ → ℕ → List ℕ
item_place place index = place ++ 47 ∷ decimal index

-- How a place is printed: as it is, and that of the whole document as a dot.
abbrev pub printed_place : List ℕ → List ℕ
printed_place [] = 46 ∷ []
printed_place (b ∷ rest) = b ∷ rest
