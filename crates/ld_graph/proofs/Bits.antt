use Rattle.std.proofs.Common.{◌≡◌, ◌≢◌, ℕ, ◌+◌, ◌-◌, ◌*◌, ◌/◌, ◌%◌, ◌^◌, ◌<◌, ◌≤◌, inl, inr, true, false, List, ◌++◌, replicate, length, get_or, set, eqb, refl, sym, ◌∙◌, ap, arith, bit_and, bit_or}
use Rattle.std.proofs.lemmas.Bool.{cases_eq, cases_lt, eq-eqb}
use Rattle.std.proofs.lemmas.List.{get_or-set_same, get_or-set_other, get_or_past, get_or_append_left, get_or-append_right, get_or-replicate, length-replicate}
use Rattle.std.proofs.lemmas.Nat.Bits.{bit_at_set_same, bit_at_set_other, bit_at_clear_same, bit_at_clear_other, bit_at-zero, bit_at-lt, bit_at-trailing_zeros, bit_at_and, ones_shl, bit_at_mask_inside, bit_at_mask_below}
use Rattle.std.specs.Int.{bit_at, bit_not, trailing_zeros, w64}
use Rattle.ld_graph.specs.Words.{bit}

-- what a bit is, by the word that it stands in
pub bit_is : (words : List ℕ) (w k x n : ℕ) → n / 64 ≡ w → n % 64 ≡ k → get_or words w 0 ≡ x → bit words n ≡ eqb (bit_at x k) 1
unfolding bit
bit_is words w k x n ew ek ex = rw (ew, ek, ex) refl

-- a number by its word and its place there
pub place : (n m : ℕ) → n / 64 ≡ m / 64 → n % 64 ≡ m % 64 → n ≡ m
place n m a b = omega arith

-- one word changed
module _ (words : List ℕ) (at x : ℕ) (within : at / 64 < length words) where
  pub other_words : (n : ℕ) → n / 64 ≢ at / 64 → bit (set words (at / 64) x) n ≡ bit words n
  unfolding bit
  other_words n ne = rw (get_or-set_other words (at / 64) (n / 64) x 0 ne) refl

  pub own_word : (n : ℕ) → n / 64 ≡ at / 64 → bit (set words (at / 64) x) n ≡ eqb (bit_at x (n % 64)) 1
  own_word n e = bit_is (set words (at / 64) x) (at / 64) (n % 64) x n e refl (get_or-set_same words (at / 64) x 0 within)

  -- the word changed at one place alone
  pub others_kept : ((i : ℕ) → i < 64 → i ≢ at % 64 → bit_at x i ≡ bit_at (get_or words (at / 64) 0) i)
      → (n : ℕ) → n ≢ at → bit (set words (at / 64) x) n ≡ bit words n
  others_kept same n ne = elim (cases_eq (n / 64) (at / 64)) [
    | inl e ↦ own_word n e
        ∙ (ap (λ (y : ℕ). eqb y 1) (same (n % 64) (omega arith) (λ p. ne (place n at e p)))
        ∙ sym (bit_is words (at / 64) (n % 64) (get_or words (at / 64) 0) n e refl refl))
    | inr other ↦ other_words n other
  ]

pub below_64 : (n : ℕ) → n % 64 < 64
below_64 n = omega arith

pub set_own : (words : List ℕ) (at x : ℕ) → at / 64 < length words
    → bit (set words (at / 64) (bit_or x (1 * 2 ^ (at % 64) % 2 ^ 64))) at ≡ true
set_own words at x within =
    own_word words at (bit_or x (1 * 2 ^ (at % 64) % 2 ^ 64)) within at refl
    ∙ eq-eqb _ 1 (bit_at_set_same w64 x (at % 64) (below_64 at))

pub set_others : (words : List ℕ) (at x : ℕ) → at / 64 < length words → get_or words (at / 64) 0 ≡ x → (n : ℕ) → n ≢ at
    → bit (set words (at / 64) (bit_or x (1 * 2 ^ (at % 64) % 2 ^ 64))) n ≡ bit words n
set_others words at x within is =
    others_kept words at (bit_or x (1 * 2 ^ (at % 64) % 2 ^ 64)) within
    (λ i lt ne. bit_at_set_other w64 x (at % 64) (below_64 at) i ne ∙ ap (λ (y : ℕ). bit_at y i) (sym is))

pub clear_own : (words : List ℕ) (at x : ℕ) → at / 64 < length words
    → bit (set words (at / 64) (bit_and x (bit_not w64 (1 * 2 ^ (at % 64) % 2 ^ 64)))) at ≡ false
clear_own words at x within =
    own_word words at (bit_and x (bit_not w64 (1 * 2 ^ (at % 64) % 2 ^ 64))) within at refl
    ∙ ap (λ (y : ℕ). eqb y 1) (bit_at_clear_same w64 x (at % 64) (below_64 at))

pub clear_others : (words : List ℕ) (at x : ℕ) → at / 64 < length words → get_or words (at / 64) 0 ≡ x → (n : ℕ) → n ≢ at
    → bit (set words (at / 64) (bit_and x (bit_not w64 (1 * 2 ^ (at % 64) % 2 ^ 64)))) n ≡ bit words n
clear_others words at x within is =
    others_kept words at (bit_and x (bit_not w64 (1 * 2 ^ (at % 64) % 2 ^ 64))) within
    (λ i lt ne. bit_at_clear_other w64 x (at % 64) (below_64 at) i lt ne ∙ ap (λ (y : ℕ). bit_at y i) (sym is))

-- a word that is zero has no bit set
pub zero_word : (words : List ℕ) (w : ℕ) → get_or words w 0 ≡ 0 → (n : ℕ) → n / 64 ≡ w → bit words n ≡ false
zero_word words w zero n e = bit_is words w (n % 64) 0 n e refl zero ∙ ap (λ (y : ℕ). eqb y 1) (bit_at-zero (n % 64))

-- the number of a place in a word
pub at_word : (w k : ℕ) → k < 64 → ((w * 64 + k) / 64 ≡ w) × ((w * 64 + k) % 64 ≡ k)
at_word w k lt = (omega arith, omega arith)

-- a word that is not zero has one
pub full_word : (words : List ℕ) (w x : ℕ) → get_or words w 0 ≡ x → 0 < x → x < 2 ^ 64 → (n : ℕ) × (n / 64 ≡ w) × (bit words n ≡ true)
full_word words w x is some fits =
    let low = bit_at-trailing_zeros w64 x some fits in
    let k : ℕ = trailing_zeros w64 x in
    let there = at_word w k low.0 in
    (w * 64 + k, there.0, bit_is words w k x (w * 64 + k) there.0 there.1 is ∙ eq-eqb _ 1 low.1)

-- a bit that is set stands in the row
pub bit_within : (words : List ℕ) (n : ℕ) → bit words n ≡ true → n / 64 < length words
bit_within words n is = elim (cases_lt (n / 64) (length words)) [
  | inl lt ↦ lt
  | inr le ↦ absurd (let no : false ≡ true = sym (zero_word words (n / 64) (get_or_past words (n / 64) 0 le) n refl) ∙ is in cc)
]

pub bit_beyond : (words : List ℕ) (n : ℕ) → length words ≤ n / 64 → bit words n ≡ false
bit_beyond words n le = zero_word words (n / 64) (get_or_past words (n / 64) 0 le) n refl

-- the bits from a place on
module _ (words : List ℕ) (from x : ℕ) (is : get_or words (from / 64) 0 ≡ x) where
  rest_of : ℕ → ℕ
  rest_of k = bit_at (bit_and x ((2 ^ 64 - 1) * 2 ^ (from % 64) % 2 ^ 64)) k

  rest_above : (k : ℕ) → from % 64 ≤ k → k < 64 → rest_of k ≡ bit_at x k
  unfolding rest_of
  rest_above k le lt =
      let small = bit_at-lt x k in
      rw (ones_shl 64 (from % 64) (let b = below_64 from in omega arith), bit_at_and x (2 ^ 64 - 2 ^ (from % 64)) k, bit_at_mask_inside (from % 64) 64 k le lt)
      (omega arith)

  rest_below : (k : ℕ) → k < from % 64 → rest_of k ≡ 0
  unfolding rest_of
  rest_below k lt =
      rw (ones_shl 64 (from % 64) (let b = below_64 from in omega arith), bit_at_and x (2 ^ 64 - 2 ^ (from % 64)) k, bit_at_mask_below (from % 64) 64 k lt)
      (omega arith)

  pub rest_none : bit_and x ((2 ^ 64 - 1) * 2 ^ (from % 64) % 2 ^ 64) ≡ 0
      → (k : ℕ) → from ≤ k → k / 64 ≡ from / 64 → bit words k ≡ false
  unfolding rest_of
  rest_none zero k le e =
      let r : from % 64 ≤ k % 64 = omega arith in
      let at : bit_at x (k % 64) ≡ 0 = sym (rest_above (k % 64) r (below_64 k)) ∙ (ap (λ (y : ℕ). bit_at y (k % 64)) zero ∙ bit_at-zero (k % 64)) in
      bit_is words (from / 64) (k % 64) x k e refl is ∙ ap (λ (y : ℕ). eqb y 1) at

  -- the lowest bit of the rest
  pub record Lowest (n : ℕ) : Type 0 where
    pub after : from ≤ n
    pub here : n / 64 ≡ from / 64
    pub is_set : bit words n ≡ true
    pub least : (k : ℕ) → from ≤ k → k < n → bit words k ≡ false

  pub rest_some : (rest : ℕ) → bit_and x ((2 ^ 64 - 1) * 2 ^ (from % 64) % 2 ^ 64) ≡ rest → 0 < rest → rest < 2 ^ 64
      → Lowest (from / 64 * 64 + trailing_zeros w64 rest)
  unfolding rest_of
  rest_some rest e some fits =
      let low = bit_at-trailing_zeros w64 rest some fits in
      let t : ℕ = trailing_zeros w64 rest in
      let there = at_word (from / 64) t low.0 in
      let of_rest : (k : ℕ) → rest_of k ≡ bit_at rest k = λ k. ap (λ (y : ℕ). bit_at y k) e in
      let high : from % 64 ≤ t = elim (cases_lt t (from % 64)) [
        | inl lt ↦ absurd (let no : 0 ≡ 1 = sym (rest_below t lt) ∙ (of_rest t ∙ low.1) in cc)
        | inr le ↦ le
      ] in
      record {
        after = omega arith;
        here = there.0;
        is_set = bit_is words (from / 64) t x (from / 64 * 64 + t) there.0 there.1 is
            ∙ eq-eqb _ 1 (sym (rest_above t high low.0) ∙ (of_rest t ∙ low.1));
        least = λ k le lt.
            let same : k / 64 ≡ from / 64 = omega arith in
            let r : from % 64 ≤ k % 64 = omega arith in
            let small : k % 64 < t = omega arith in
            bit_is words (from / 64) (k % 64) x k same refl is
            ∙ ap (λ (y : ℕ). eqb y 1) (sym (rest_above (k % 64) r (below_64 k)) ∙ (of_rest (k % 64) ∙ low.2 (k % 64) small));
      }

zeros : (count i : ℕ) → get_or {A = ℕ} (replicate count 0) i 0 ≡ 0
zeros count i = elim (cases_lt i count) [
  | inl lt ↦ get_or-replicate count i 0 0 lt
  | inr le ↦ get_or_past (replicate count 0) i 0 (omega (arith, length-replicate {A = ℕ} count 0))
]

-- words that are zero at the end change no bit
pub bit_append : (words : List ℕ) (count n : ℕ) → bit (words ++ replicate count 0) n ≡ bit words n
unfolding bit
bit_append words count n = ap (λ (x : ℕ). eqb (bit_at x (n % 64)) 1) (elim (cases_lt (n / 64) (length words)) [
  | inl lt ↦ get_or_append_left words (replicate count 0) 0 (n / 64) lt
  | inr le ↦ get_or-append_right words (replicate count 0) (length words) (n / 64) 0 refl le
      ∙ (zeros count (n / 64 - length words) ∙ sym (get_or_past words (n / 64) 0 le))
])
