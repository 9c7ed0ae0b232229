-- The kinds of bytes, as the table of `src/id.rt` has them.
use Rattle.std.proofs.Common.{◌≡◌, ℕ, zero, suc, ◌<◌, List, [], ◌∷◌, ◌++◌, length, length-append, get_or, Bool, true, false, if◌then◌else◌, ◌==◌, not, inl, inr, arith, refl, ap, ◌∙◌}
use Rattle.std.proofs.lemmas.Bool.{cases_lt}
use Rattle.std.proofs.lemmas.Bool.Decides.{nat_tests}
use Rattle.std.proofs.lemmas.List.{get_or_append_left, get_or_push}
use Rattle.ld_base.specs.Identifier.{begins_identifier, continues_identifier}

-- the values of f at 0 to n - 1
abbrev by_index : ℕ → (ℕ → ℕ) → List ℕ
by_index zero f = []
by_index (suc n) f = by_index n f ++ f n ∷ []

by_index_length : (n : ℕ) (f : ℕ → ℕ) → length (by_index n f) ≡ n
by_index_length zero f = refl
by_index_length (suc n) f = omega (arith, length-append (by_index n f) (f n ∷ []), by_index_length n f)

by_index_at : (n : ℕ) (f : ℕ → ℕ) (k : ℕ) → k < n → get_or (by_index n f) k 0 ≡ f k
by_index_at zero f k h = absurd (omega arith)
by_index_at (suc n) f k h =
    elim (cases_lt k n) [
      | inl under ↦ get_or_append_left (by_index n f) (f n ∷ []) 0 k (rw (by_index_length n f) under) ∙ by_index_at n f k under
      | inr over ↦
          let same : length (by_index n f) ≡ k = by_index_length n f ∙ (omega arith) in
          get_or_push (by_index n f) (f n) 0 k same ∙ ap f (omega arith)
    ]

-- 2 where an identifier may begin with the byte, 1 where it may only go on with it, else 0
abbrev kind : ℕ → ℕ
kind b = if begins_identifier b then 2 else (if continues_identifier b then 1 else 0)

abbrev pub kinds : List ℕ
kinds = 0 ∷ 0 ∷ 0 ∷ 0 ∷ 0 ∷ 0 ∷ 0 ∷ 0 ∷ 0 ∷ 0 ∷ 0 ∷ 0 ∷ 0 ∷ 0 ∷ 0 ∷ 0 ∷ 0 ∷ 0 ∷ 0 ∷ 0 ∷ 0 ∷ 0 ∷ 0 ∷ 0 ∷ 0 ∷ 0 ∷ 0 ∷ 0 ∷ 0 ∷ 0 ∷ 0 ∷ 0 ∷ 0 ∷ 0 ∷ 0 ∷ 0 ∷ 0 ∷ 0 ∷ 0 ∷ 0 ∷ 0 ∷ 0 ∷ 0 ∷ 0 ∷ 0 ∷ 1 ∷ 1 ∷ 0 ∷ 1 ∷ 1 ∷ 1 ∷ 1 ∷ 1 ∷ 1 ∷ 1 ∷ 1 ∷ 1 ∷ 1 ∷ 0 ∷ 0 ∷ 0 ∷ 0 ∷ 0 ∷ 0 ∷ 0 ∷ 2 ∷ 2 ∷ 2 ∷ 2 ∷ 2 ∷ 2 ∷ 2 ∷ 2 ∷ 2 ∷ 2 ∷ 2 ∷ 2 ∷ 2 ∷ 2 ∷ 2 ∷ 2 ∷ 2 ∷ 2 ∷ 2 ∷ 2 ∷ 2 ∷ 2 ∷ 2 ∷ 2 ∷ 2 ∷ 2 ∷ 0 ∷ 0 ∷ 0 ∷ 0 ∷ 2 ∷ 0 ∷ 2 ∷ 2 ∷ 2 ∷ 2 ∷ 2 ∷ 2 ∷ 2 ∷ 2 ∷ 2 ∷ 2 ∷ 2 ∷ 2 ∷ 2 ∷ 2 ∷ 2 ∷ 2 ∷ 2 ∷ 2 ∷ 2 ∷ 2 ∷ 2 ∷ 2 ∷ 2 ∷ 2 ∷ 2 ∷ 2 ∷ 0 ∷ 0 ∷ 0 ∷ 0 ∷ 0 ∷ 0 ∷ 0 ∷ 0 ∷ 0 ∷ 0 ∷ 0 ∷ 0 ∷ 0 ∷ 0 ∷ 0 ∷ 0 ∷ 0 ∷ 0 ∷ 0 ∷ 0 ∷ 0 ∷ 0 ∷ 0 ∷ 0 ∷ 0 ∷ 0 ∷ 0 ∷ 0 ∷ 0 ∷ 0 ∷ 0 ∷ 0 ∷ 0 ∷ 0 ∷ 0 ∷ 0 ∷ 0 ∷ 0 ∷ 0 ∷ 0 ∷ 0 ∷ 0 ∷ 0 ∷ 0 ∷ 0 ∷ 0 ∷ 0 ∷ 0 ∷ 0 ∷ 0 ∷ 0 ∷ 0 ∷ 0 ∷ 0 ∷ 0 ∷ 0 ∷ 0 ∷ 0 ∷ 0 ∷ 0 ∷ 0 ∷ 0 ∷ 0 ∷ 0 ∷ 0 ∷ 0 ∷ 0 ∷ 0 ∷ 0 ∷ 0 ∷ 0 ∷ 0 ∷ 0 ∷ 0 ∷ 0 ∷ 0 ∷ 0 ∷ 0 ∷ 0 ∷ 0 ∷ 0 ∷ 0 ∷ 0 ∷ 0 ∷ 0 ∷ 0 ∷ 0 ∷ 0 ∷ 0 ∷ 0 ∷ 0 ∷ 0 ∷ 0 ∷ 0 ∷ 0 ∷ 0 ∷ 0 ∷ 0 ∷ 0 ∷ 0 ∷ 0 ∷ 0 ∷ 0 ∷ 0 ∷ 0 ∷ 0 ∷ 0 ∷ 0 ∷ 0 ∷ 0 ∷ 0 ∷ 0 ∷ 0 ∷ 0 ∷ 0 ∷ 0 ∷ 0 ∷ 0 ∷ 0 ∷ 0 ∷ 0 ∷ 0 ∷ 0 ∷ 0 ∷ 0 ∷ 0 ∷ 0 ∷ 0 ∷ 0 ∷ 0 ∷ 0 ∷ 0 ∷ 0 ∷ []

kinds_are : kinds ≡ by_index 256 kind
unfolding begins_identifier continues_identifier
kinds_are = refl

kind_read : (b : ℕ) → b < 256 → get_or kinds b 0 ≡ kind b
kind_read b within = ap (λ (ks : List ℕ). get_or ks b 0) kinds_are ∙ by_index_at 256 kind b within

is_two : (x y : Bool) → ((if x then 2 else (if y then 1 else 0)) == 2) ≡ x
is_two true y = refl
is_two false true = refl
is_two false false = refl

pub begins_read : (b : ℕ) → b < 256 → (get_or kinds b 0 == 2) ≡ begins_identifier b
begins_read b within = rw (kind_read b within) (is_two (begins_identifier b) (continues_identifier b))

-- a byte with which an identifier may begin is one with which it may go on
begins_continues : (b : ℕ) → begins_identifier b ≡ true → continues_identifier b ≡ true
unfolding begins_identifier continues_identifier
begins_continues b h = grind (arith, nat_tests)

not_zero : (x y : Bool) → (x ≡ true → y ≡ true) → not ((if x then 2 else (if y then 1 else 0)) == 0) ≡ y
not_zero true y h = grind (arith, h refl)
not_zero false true h = refl
not_zero false false h = refl

pub continues_read : (b : ℕ) → b < 256 → not (get_or kinds b 0 == 0) ≡ continues_identifier b
continues_read b within = rw (kind_read b within) (not_zero (begins_identifier b) (continues_identifier b) (begins_continues b))
