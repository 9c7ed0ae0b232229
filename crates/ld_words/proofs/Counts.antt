-- How many words a verb takes, as `clap` counts them and as numbers.
use Rattle.std.proofs.Common.{◌≡◌, ◌∙◌, sym, ap, ℕ, suc, ◌==◌, Bool, true, false, [], ◌∷◌, nat_lt, refl, arith, if◌then◌else◌}
use Rattle.std.proofs.lemmas.Bool.Decides.{nat_tests}
use Rattle.clap.specs.Kinds.{range_kinds}
use Rattle.clap.specs.declared.error.kind.ErrorKind.TheVariants as kind
use Rattle.ld_words.specs.Forms.{is_up_to}

-- ---- from 1 to several

some_kinds : (none few many : Bool) → (if none then kind.InvalidValue ∷ [] else (if few then kind.TooFewValues ∷ []
    else (if many then kind.TooManyValues ∷ [] else []))) ≡ [] → (few ≡ false) × (many ≡ false)
some_kinds true few many is = cc
some_kinds false true many is = cc
some_kinds false false true is = cc
some_kinds false false false is = (refl, refl)

not_few : (n : ℕ) → nat_lt (suc n) 1 ≡ false
not_few n = grind (arith, nat_tests)

not_many : (most n : ℕ) → is_up_to most (suc n) ≡ true → nat_lt most (suc n) ≡ false
not_many most n is = grind (arith, nat_tests)

not_none : (n : ℕ) → (suc n == 0) ≡ false
not_none n = grind (arith, nat_tests)

from_many : (most n : ℕ) → nat_lt most (suc n) ≡ false → is_up_to most (suc n) ≡ true
from_many most n many = grind (arith, nat_tests)

-- As many words as are taken are not refused, ..
pub many_free : (most n : ℕ) → (1 == most) ≡ false → is_up_to most (suc n) ≡ true → range_kinds 1 most (suc n) ≡ []
many_free most n several is = rw (not_none n, several, not_few n, not_many most n is) refl

-- .. and no others.
pub free_many : (most n : ℕ) → (1 == most) ≡ false → range_kinds 1 most (suc n) ≡ [] → is_up_to most (suc n) ≡ true
free_many most n several is =
    from_many most n (some_kinds (suc n == 0) (nat_lt (suc n) 1) (nat_lt most (suc n)) (in_range is)).1
  where
    in_range : range_kinds 1 most (suc n) ≡ [] → (if suc n == 0 then kind.InvalidValue ∷ []
        else (if nat_lt (suc n) 1 then kind.TooFewValues ∷ []
        else (if nat_lt most (suc n) then kind.TooManyValues ∷ [] else []))) ≡ []
    in_range is = sym (ap (λ one. if suc n == 0 then kind.InvalidValue ∷ []
        else (if one then (if 1 == suc n then [] else kind.WrongNumberOfValues ∷ [])
        else (if nat_lt (suc n) 1 then kind.TooFewValues ∷ []
        else (if nat_lt most (suc n) then kind.TooManyValues ∷ [] else [])))) several) ∙ is

-- ---- just one

pub more_than_one : (n : ℕ) → is_up_to 1 (suc (suc n)) ≡ false
more_than_one n = grind (arith, nat_tests)
