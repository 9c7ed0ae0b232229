use Rattle.std.proofs.Common.{◌≡◌, ◌≢◌, ℕ, ◌+◌, ◌*◌, ◌/◌, ◌^◌, ◌<◌, ◌≤◌, ◌⊎◌, inl, inr, Bool, true, false, List, [], ◌∷◌, length, get_or, set, replicate, refl, sym, ◌∙◌, ap, subst, arith}
use Rattle.std.proofs.lemmas.Bool.{cases_eq, cases_lt, false_from_ne_true}
use Rattle.std.proofs.lemmas.List.{get_or-set_same, get_or-set_other, length-set, get_or_past, ext_get_or, nil_from_length, length-replicate, get_or-replicate}
use Rattle.std.proofs.lemmas.List.FromFn.{get_or-map-range_with_len, length-map-range_with_len}
use Rattle.ld_graph.specs.Words.{bit, bits_of, Marks, AreLevels, IsTable, lowest}
use Rattle.ld_graph.specs.Table.{has}
use Rattle.ld_graph.proofs.Bits.{bit_within, bit_beyond}

-- a bit that is set is not the one that is clear
pub apart : (words : List ℕ) (n m : ℕ) → bit words n ≡ true → bit words m ≡ false → n ≡ m → ⊥
apart words n m a b e = let no : true ≡ false = sym a ∙ (ap (λ (x : ℕ). bit words x) e ∙ b) in cc

module _ {lower upper lower' : List ℕ} (at : ℕ) (m : Marks lower upper) (len : length lower' ≡ length lower) where
  -- a bit is set below, and the bit of its word above
  pub marks_set : {upper' : List ℕ} → length upper' ≡ length upper
      → bit lower' at ≡ true → ((n : ℕ) → n ≢ at → bit lower' n ≡ bit lower n)
      → bit upper' (at / 64) ≡ true → ((n : ℕ) → n ≢ at / 64 → bit upper' n ≡ bit upper n)
      → Marks lower' upper'
  marks_set {upper'} len' own others own' others' = record {
    covers = let a = m.covers in omega arith;
    marked = λ n is. elim (cases_eq (n / 64) (at / 64)) [
      | inl e ↦ ap (λ (x : ℕ). bit upper' x) e ∙ own'
      | inr ne ↦ others' (n / 64) ne ∙ m.marked n (sym (others n (λ e. ne (ap (λ (x : ℕ). x / 64) e))) ∙ is)
    ];
    full = λ w is. elim (cases_eq w (at / 64)) [
      | inl e ↦ (at, sym e, own)
      | inr ne ↦ let was = m.full w (sym (others' w ne) ∙ is) in
          (was.0, was.1, others was.0 (λ e. ne (sym was.1 ∙ ap (λ (x : ℕ). x / 64) e)) ∙ was.2)
    ];
  }

  -- a bit is cleared below, and its word is not zero
  pub marks_kept : bit lower' at ≡ false → ((n : ℕ) → n ≢ at → bit lower' n ≡ bit lower n)
      → (n : ℕ) × (n / 64 ≡ at / 64) × (bit lower' n ≡ true) → Marks lower' upper
  marks_kept own others some = record {
    covers = let a = m.covers in omega arith;
    marked = λ n is. m.marked n (sym (others n (apart lower' n at is own)) ∙ is);
    full = λ w is. elim (cases_eq w (at / 64)) [
      | inl e ↦ (some.0, some.1 ∙ sym e, some.2)
      | inr ne ↦ let was = m.full w is in
          (was.0, was.1, others was.0 (λ e. ne (sym was.1 ∙ ap (λ (x : ℕ). x / 64) e)) ∙ was.2)
    ];
  }

  -- a bit is cleared below, its word is zero, and the bit of its word is cleared above
  pub marks_gone : {upper' : List ℕ} → length upper' ≡ length upper → ((n : ℕ) → n ≢ at → bit lower' n ≡ bit lower n)
      → ((n : ℕ) → n / 64 ≡ at / 64 → bit lower' n ≡ false)
      → bit upper' (at / 64) ≡ false → ((n : ℕ) → n ≢ at / 64 → bit upper' n ≡ bit upper n)
      → Marks lower' upper'
  marks_gone {upper'} len' others zero own' others' = record {
    covers = let a = m.covers in omega arith;
    marked = λ n is.
        let ne : n / 64 ≢ at / 64 = λ e. apart lower' n n is (zero n e) refl in
        others' (n / 64) ne ∙ m.marked n (sym (others n (λ e. ne (ap (λ (x : ℕ). x / 64) e))) ∙ is);
    full = λ w is.
        let ne : w ≢ at / 64 = apart upper' w (at / 64) is own' in
        let was = m.full w (sym (others' w ne) ∙ is) in
        (was.0, was.1, others was.0 (λ e. ne (sym was.1 ∙ ap (λ (x : ℕ). x / 64) e)) ∙ was.2);
  }

-- the same bits, and room for them
pub marks_same : {lower upper lower' upper' : List ℕ} → Marks lower upper → length lower' ≤ 64 * length upper'
    → ((n : ℕ) → bit lower' n ≡ bit lower n) → ((n : ℕ) → bit upper' n ≡ bit upper n) → Marks lower' upper'
marks_same m covers low up = record {
  covers = covers;
  marked = λ n is. up (n / 64) ∙ m.marked n (sym (low n) ∙ is);
  full = λ w is. let was = m.full w (sym (up w) ∙ is) in (was.0, was.1, low was.0 ∙ was.2);
}

-- the row above got longer
pub marks_more : {lower upper upper' : List ℕ} → Marks lower upper → length upper ≤ length upper'
    → ((n : ℕ) → bit upper' n ≡ bit upper n) → Marks lower upper'
marks_more m more up = marks_same m (let a = m.covers in omega arith) (λ _. refl) up

-- no bit is set in a word that is not marked
pub unmarked : {lower upper : List ℕ} → Marks lower upper → (k : ℕ) → bit upper (k / 64) ≡ false → bit lower k ≡ false
unmarked {lower} {upper} m k gone = false_from_ne_true (bit lower k) (λ is. apart upper (k / 64) (k / 64) (m.marked k is) gone refl)

-- a word that is marked stands in the row
pub marked_within : {lower upper : List ℕ} → Marks lower upper → (w : ℕ) → bit upper w ≡ true → w < length lower
marked_within {lower} m w is =
    let was = m.full w is in
    subst (λ (x : ℕ). x < length lower) was.1 (bit_within lower was.0 was.2)

-- the table of a row's bits
pub has_below : (words : List ℕ) (range n : ℕ) → n < range → has (bits_of words range) n ≡ bit words n
has_below words range n lt = get_or-map-range_with_len (bit words) 0 range n n false lt (omega arith)

pub length_bits : (words : List ℕ) (range : ℕ) → length (bits_of words range) ≡ range
length_bits words range = length-map-range_with_len (bit words) 0 range

pub has_bits : (words : List ℕ) (range : ℕ) → ((n : ℕ) → range ≤ n → bit words n ≡ false) → (n : ℕ)
    → has (bits_of words range) n ≡ bit words n
has_bits words range beyond n = elim (cases_lt n range) [
  | inl lt ↦ has_below words range n lt
  | inr le ↦ get_or_past (bits_of words range) n false (let e = length_bits words range in omega arith) ∙ sym (beyond n le)
]

-- one bit changed is one entry changed
pub bits_set : (words words' : List ℕ) (range at : ℕ) (v : Bool) → bit words' at ≡ v
    → ((n : ℕ) → n ≢ at → bit words' n ≡ bit words n) → bits_of words' range ≡ set (bits_of words range) at v
bits_set words words' range at v own others =
    ext_get_or false (bits_of words' range) (set (bits_of words range) at v)
    (length_bits words' range ∙ sym (length-set (bits_of words range) at v ∙ length_bits words range))
    (λ i lt.
    let l = length_bits words' range in
    let m = length_bits words range in
    let within : i < range = omega arith in
    has_below words' range i within ∙ elim (cases_eq i at) [
      | inl e ↦ ap (λ (x : ℕ). bit words' x) e ∙ (own ∙ sym (ap (λ (x : ℕ). get_or (set (bits_of words range) at v) x false) e
          ∙ get_or-set_same (bits_of words range) at v false (omega arith)))
      | inr ne ↦ others i ne ∙ (sym (has_below words range i within) ∙ sym (get_or-set_other (bits_of words range) at i v false ne))
    ])

-- a table with no number
pub none_had : (table : List Bool) → ((n : ℕ) → has table n ≡ false) → table ≡ replicate (length table) false
none_had table none =
    ext_get_or false table (replicate (length table) false) (sym (length-replicate (length table) false))
    (λ i lt. none i ∙ sym (get_or-replicate (length table) i false false lt))

-- one bit changed in a table
pub table_changed : {levels levels' : List (List ℕ)} {range : ℕ} → IsTable levels range → (at : ℕ) → at < range → AreLevels levels'
    → length levels' ≡ length levels → length (lowest levels') ≡ length (lowest levels)
    → ((n : ℕ) → n ≢ at → bit (lowest levels') n ≡ bit (lowest levels) n) → IsTable levels' range
table_changed t at lt are count len others = record {
  levels_there = let a = t.levels_there in omega arith;
  are_levels = are;
  fits = t.fits;
  covers = let a = t.covers in omega arith;
  none_beyond = λ n le. others n (λ e. omega arith) ∙ t.none_beyond n le;
}

-- a site of the range has its word
pub word_within : {levels : List (List ℕ)} {range : ℕ} → IsTable levels range → (site : ℕ) → site < range
    → site / 64 < length (lowest levels)
word_within t site lt = let a = t.covers in omega arith

-- levels with more words
pub table_grown : {levels levels' : List (List ℕ)} {range : ℕ} → IsTable levels range → (sites : ℕ) → range ≤ sites → sites < 2 ^ 32
    → AreLevels levels' → length levels' ≡ length levels → sites / 64 + 1 ≤ length (lowest levels')
    → ((n : ℕ) → bit (lowest levels') n ≡ bit (lowest levels) n) → IsTable levels' sites
table_grown t sites le fits are count enough same = record {
  levels_there = let a = t.levels_there in omega arith;
  are_levels = are;
  fits = fits;
  covers = omega arith;
  none_beyond = λ n l. same n ∙ t.none_beyond n (omega arith);
}

-- no word, no bit
no_bit : (n : ℕ) → bit [] n ≡ false
no_bit n = bit_beyond [] n (omega arith)

no_marks : Marks [] []
no_marks = record {
  covers = omega arith;
  marked = λ n is. absurd (apart [] n n is (no_bit n) refl);
  full = λ w is. absurd (apart [] w w is (no_bit w) refl);
}

-- a row is marked by the row above it, which has words, or neither has any
pub marks_before : {lower upper : List ℕ} → (0 < length upper → Marks lower upper)
    → (0 < length upper) ⊎ ((length lower ≡ 0) × (length upper ≡ 0)) → Marks lower upper
marks_before marks (inl some) = marks some
marks_before {lower} {upper} marks (inr none) =
    rw (nil_from_length lower none.0, nil_from_length upper none.1) no_marks

-- where the first of the levels has words there is one
pub some_levels : (levels : List (List ℕ)) → 0 < length (lowest levels) → 0 < length levels
some_levels [] some = some
some_levels (level ∷ above) some = omega arith

-- no bit is set where there is no word
pub no_bits : (n : ℕ) → bit [] n ≡ false
no_bits n = no_bit n

pub empty_table : IsTable ([] ∷ [] ∷ []) 0
empty_table = record {
  levels_there = omega arith;
  are_levels = (omega arith, λ _. no_marks, (omega arith, λ _. no_marks, tt));
  fits = omega arith;
  covers = omega arith;
  none_beyond = λ n _. no_bit n;
}

-- what a table shows of its levels
pub table_length : (levels : List (List ℕ)) (range : ℕ) (table : List Bool) → bits_of (lowest levels) range ≡ table → length table ≡ range
table_length levels range table is = ap (λ (x : List Bool). length x) (sym is) ∙ length_bits (lowest levels) range

pub table_has : {levels : List (List ℕ)} {range : ℕ} → IsTable levels range → (table : List Bool) → bits_of (lowest levels) range ≡ table
    → (n : ℕ) → has table n ≡ bit (lowest levels) n
table_has {levels} {range} t table is n = ap (λ (x : List Bool). has x n) (sym is) ∙ has_bits (lowest levels) range t.none_beyond n
