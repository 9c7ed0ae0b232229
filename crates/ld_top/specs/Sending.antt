-- Bytes of which a part is on its way.
use Rattle.std.specs.Prelude.{ℕ, List, ◌++◌, ◌≡◌, Option}
use Rattle.ld_base.specs.Outside.{then_piece}

-- A beginning of the bytes was added, and the rest of them waits.
abbrev pub AddsFront : Option (List ℕ) → List ℕ → Option (List ℕ) → List ℕ → Type 0
AddsFront old bytes new rest = (front : List ℕ) × (bytes ≡ front ++ rest) × (new ≡ then_piece old front)
