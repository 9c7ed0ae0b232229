-- That nothing fires where the number of firings is none.
use Rattle.std.proofs.Common.{◌≡◌, refl, List, [], ◌∷◌, length, arith}

pub no_length : {A : Type 0} (xs : List A) → length xs ≡ 0 → xs ≡ []
no_length [] none = refl
no_length (x ∷ xs) none = absurd (omega (arith, none))
