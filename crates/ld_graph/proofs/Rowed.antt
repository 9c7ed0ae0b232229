use Rattle.std.proofs.Common.{◌≡◌, ◌≢◌, ℕ, zero, suc, ◌+◌, ◌<◌, ◌≤◌, inl, inr, cond, eqb, List, [], ◌∷◌, ◌++◌, length, get_or, set, Contains, refl, sym, ◌∙◌, ap, subst, arith}
use Rattle.std.proofs.lemmas.Bool.{cases_eq, cond-true, cond-false, eq-eqb, ne_eqb}
use Rattle.std.proofs.lemmas.List.{get_or-set_same, get_or-set_other, length-set, ext_get_or, get_or_past}
use Rattle.std.proofs.lemmas.List.FromFn.{get_or-map-range_with_len, length-map-range_with_len}
use Rattle.std.proofs.lemmas.List.Sums.{sum_by-set, sum_by-cons}
use Rattle.ld_graph.specs.Linked.{none_at, Among, slots_of_site, rows_of, free_count}

-- the two words for a number in a list
among_at : (xs : List ℕ) (x k : ℕ) → k < length xs → get_or xs k x ≡ x → Among xs x
among_at [] x k lt e = absurd (omega arith)
among_at (y ∷ ys) x zero lt e = inl e
among_at (y ∷ ys) x (suc k) lt e = inr (among_at ys x k (omega arith) e)

pub contains_among : (xs : List ℕ) (x : ℕ) → Contains xs x → Among xs x
contains_among xs x h = among_at xs x h.0 h.1 h.2

pub among_contains : (xs : List ℕ) (x : ℕ) → Among xs x → Contains xs x
among_contains [] x h = absurd h
among_contains (y ∷ ys) x h = elim h [
  | inl e ↦ (zero, omega arith, e)
  | inr r ↦ let c = among_contains ys x r in let l = c.1 in (suc c.0, omega arith, c.2)
]

-- a row by its first edge
pub row_yes : (s : ℕ) (slots : List ℕ) (t : ℕ) (sites : List ℕ) (i : ℕ) → t ≡ i → slots_of_site (s ∷ slots) (t ∷ sites) i ≡ s ∷ slots_of_site slots sites i
row_yes s slots t sites i e = cond-true (eqb t i) (s ∷ slots_of_site slots sites i) (slots_of_site slots sites i) (eq-eqb t i e)

pub row_no : (s : ℕ) (slots : List ℕ) (t : ℕ) (sites : List ℕ) (i : ℕ) → (t ≡ i → ⊥) → slots_of_site (s ∷ slots) (t ∷ sites) i ≡ slots_of_site slots sites i
row_no s slots t sites i ne = cond-false (eqb t i) (s ∷ slots_of_site slots sites i) (slots_of_site slots sites i) (ne_eqb t i ne)

-- the slots of a row are those of the edges of the site
pub row_edge : (slots sites : List ℕ) (i k : ℕ) → Among (slots_of_site slots sites i) k
    → (e : ℕ) × (e < length slots) × (e < length sites) × (get_or sites e none_at ≡ i) × (get_or slots e none_at ≡ k)
row_edge [] sites i k h = absurd h
row_edge (s ∷ slots) [] i k h = absurd h
row_edge (s ∷ slots) (t ∷ sites) i k h = elim (cases_eq t i) [
  | inl e ↦ elim (subst (λ (z : List ℕ). Among z k) (row_yes s slots t sites i e) h) [
    | inl here ↦ (zero, omega arith, omega arith, e, here)
    | inr rest ↦ let r = row_edge slots sites i k rest in let a = r.1 in let b = r.2 in (suc r.0, omega arith, omega arith, r.3, r.4)
  ]
  | inr ne ↦ let r = row_edge slots sites i k (subst (λ (z : List ℕ). Among z k) (row_no s slots t sites i ne) h) in
      let a = r.1 in let b = r.2 in (suc r.0, omega arith, omega arith, r.3, r.4)
]

pub edge_row : (slots sites : List ℕ) (i e : ℕ) → e < length slots → e < length sites → get_or sites e none_at ≡ i
    → Among (slots_of_site slots sites i) (get_or slots e none_at)
edge_row [] sites i e a b is = absurd (omega arith)
edge_row (s ∷ slots) [] i e a b is = absurd (omega arith)
edge_row (s ∷ slots) (t ∷ sites) i zero a b is = subst (λ (z : List ℕ). Among z s) (sym (row_yes s slots t sites i is)) (inl refl)
edge_row (s ∷ slots) (t ∷ sites) i (suc e) a b is =
    let r = edge_row slots sites i e (omega arith) (omega arith) is in
    elim (cases_eq t i) [
      | inl q ↦ subst (λ (z : List ℕ). Among z (get_or slots e none_at)) (sym (row_yes s slots t sites i q)) (inr r)
      | inr ne ↦ subst (λ (z : List ℕ). Among z (get_or slots e none_at)) (sym (row_no s slots t sites i ne)) r
    ]

-- an edge changes that is not of the site, before and after
pub row_kept : (slots sites : List ℕ) (e s t i : ℕ) → (get_or sites e none_at ≡ i → ⊥) → (t ≡ i → ⊥)
    → slots_of_site (set slots e s) (set sites e t) i ≡ slots_of_site slots sites i
row_kept [] sites e s t i was is = refl
row_kept (s0 ∷ slots) [] zero s t i was is = refl
row_kept (s0 ∷ slots) [] (suc e) s t i was is = refl
row_kept (s0 ∷ slots) (t0 ∷ sites) zero s t i was is = row_no s slots t sites i is ∙ sym (row_no s0 slots t0 sites i was)
row_kept (s0 ∷ slots) (t0 ∷ sites) (suc e) s t i was is =
    let r = row_kept slots sites e s t i was is in
    elim (cases_eq t0 i) [
      | inl q ↦ row_yes s0 (set slots e s) t0 (set sites e t) i q ∙ (ap (λ (z : List ℕ). s0 ∷ z) r ∙ sym (row_yes s0 slots t0 sites i q))
      | inr ne ↦ row_no s0 (set slots e s) t0 (set sites e t) i ne ∙ (r ∙ sym (row_no s0 slots t0 sites i ne))
    ]

-- an edge of the site goes
pub row_less : (slots sites : List ℕ) (e s t i : ℕ) → e < length slots → e < length sites → get_or sites e none_at ≡ i → (t ≡ i → ⊥)
    → length (slots_of_site (set slots e s) (set sites e t) i) + 1 ≡ length (slots_of_site slots sites i)
row_less [] sites e s t i a b was is = absurd (omega arith)
row_less (s0 ∷ slots) [] e s t i a b was is = absurd (omega arith)
row_less (s0 ∷ slots) (t0 ∷ sites) zero s t i a b was is =
    let l = ap (λ (z : List ℕ). length z) (row_no s slots t sites i is) in
    let m = ap (λ (z : List ℕ). length z) (row_yes s0 slots t0 sites i was) in
    omega arith
row_less (s0 ∷ slots) (t0 ∷ sites) (suc e) s t i a b was is =
    let r = row_less slots sites e s t i (omega arith) (omega arith) was is in
    elim (cases_eq t0 i) [
      | inl q ↦
          let l = ap (λ (z : List ℕ). length z) (row_yes s0 (set slots e s) t0 (set sites e t) i q) in
          let m = ap (λ (z : List ℕ). length z) (row_yes s0 slots t0 sites i q) in
          omega arith
      | inr ne ↦
          let l = ap (λ (z : List ℕ). length z) (row_no s0 (set slots e s) t0 (set sites e t) i ne) in
          let m = ap (λ (z : List ℕ). length z) (row_no s0 slots t0 sites i ne) in
          omega arith
    ]

-- an edge of the site comes
pub row_more : (slots sites : List ℕ) (e s t i : ℕ) → e < length slots → e < length sites → (get_or sites e none_at ≡ i → ⊥) → t ≡ i
    → length (slots_of_site (set slots e s) (set sites e t) i) ≡ length (slots_of_site slots sites i) + 1
row_more [] sites e s t i a b was is = absurd (omega arith)
row_more (s0 ∷ slots) [] e s t i a b was is = absurd (omega arith)
row_more (s0 ∷ slots) (t0 ∷ sites) zero s t i a b was is =
    let l = ap (λ (z : List ℕ). length z) (row_yes s slots t sites i is) in
    let m = ap (λ (z : List ℕ). length z) (row_no s0 slots t0 sites i was) in
    omega arith
row_more (s0 ∷ slots) (t0 ∷ sites) (suc e) s t i a b was is =
    let r = row_more slots sites e s t i (omega arith) (omega arith) was is in
    elim (cases_eq t0 i) [
      | inl q ↦
          let l = ap (λ (z : List ℕ). length z) (row_yes s0 (set slots e s) t0 (set sites e t) i q) in
          let m = ap (λ (z : List ℕ). length z) (row_yes s0 slots t0 sites i q) in
          omega arith
      | inr ne ↦
          let l = ap (λ (z : List ℕ). length z) (row_no s0 (set slots e s) t0 (set sites e t) i ne) in
          let m = ap (λ (z : List ℕ). length z) (row_no s0 slots t0 sites i ne) in
          omega arith
    ]

-- an edge of no site at the end
pub row_append : (slots sites : List ℕ) (s t i : ℕ) → length sites ≡ length slots → (t ≡ i → ⊥)
    → slots_of_site (slots ++ s ∷ []) (sites ++ t ∷ []) i ≡ slots_of_site slots sites i
row_append [] [] s t i same ne = row_no s [] t [] i ne
row_append [] (t0 ∷ sites) s t i same ne = absurd (omega arith)
row_append (s0 ∷ slots) [] s t i same ne = absurd (omega arith)
row_append (s0 ∷ slots) (t0 ∷ sites) s t i same ne =
    let r = row_append slots sites s t i (omega arith) ne in
    elim (cases_eq t0 i) [
      | inl q ↦ row_yes s0 (slots ++ s ∷ []) t0 (sites ++ t ∷ []) i q ∙ (ap (λ (z : List ℕ). s0 ∷ z) r ∙ sym (row_yes s0 slots t0 sites i q))
      | inr other ↦ row_no s0 (slots ++ s ∷ []) t0 (sites ++ t ∷ []) i other ∙ (r ∙ sym (row_no s0 slots t0 sites i other))
    ]

-- rows by their number
pub rows_at : (slots sites : List ℕ) (count i : ℕ) → i < count → get_or (rows_of slots sites count) i [] ≡ slots_of_site slots sites i
rows_at slots sites count i lt = get_or-map-range_with_len (slots_of_site slots sites) 0 count i i [] lt (omega arith)

pub rows_length : (slots sites : List ℕ) (count : ℕ) → length (rows_of slots sites count) ≡ count
rows_length slots sites count = length-map-range_with_len (slots_of_site slots sites) 0 count

pub rows_past : (slots sites : List ℕ) (count i : ℕ) → count ≤ i → get_or (rows_of slots sites count) i [] ≡ []
rows_past slots sites count i le = get_or_past (rows_of slots sites count) i [] (let e = rows_length slots sites count in omega arith)

-- rows of which one changed
pub rows_set : (slots sites slots' sites' : List ℕ) (count i : ℕ) → ((j : ℕ) → j < count → (j ≡ i → ⊥) → slots_of_site slots' sites' j ≡ slots_of_site slots sites j)
    → rows_of slots' sites' count ≡ set (rows_of slots sites count) i (slots_of_site slots' sites' i)
rows_set slots sites slots' sites' count i others =
    ext_get_or [] (rows_of slots' sites' count) (set (rows_of slots sites count) i (slots_of_site slots' sites' i))
    (rows_length slots' sites' count ∙ sym (length-set (rows_of slots sites count) i (slots_of_site slots' sites' i) ∙ rows_length slots sites count))
    (λ j lt.
    let l = rows_length slots' sites' count in
    let m = rows_length slots sites count in
    let within : j < count = omega arith in
    rows_at slots' sites' count j within ∙ elim (cases_eq j i) [
      | inl e ↦ ap (λ (z : ℕ). slots_of_site slots' sites' z) e ∙ sym (ap (λ (z : ℕ). get_or (set (rows_of slots sites count) i (slots_of_site slots' sites' i)) z []) e
          ∙ get_or-set_same (rows_of slots sites count) i (slots_of_site slots' sites' i) [] (omega arith))
      | inr ne ↦ others j within ne ∙ (sym (rows_at slots sites count j within)
          ∙ sym (get_or-set_other (rows_of slots sites count) i j (slots_of_site slots' sites' i) [] ne))
    ])

-- the same rows
pub rows_same : (slots sites slots' sites' : List ℕ) (count : ℕ) → ((j : ℕ) → j < count → slots_of_site slots' sites' j ≡ slots_of_site slots sites j)
    → rows_of slots' sites' count ≡ rows_of slots sites count
rows_same slots sites slots' sites' count same =
    ext_get_or [] (rows_of slots' sites' count) (rows_of slots sites count) (rows_length slots' sites' count ∙ sym (rows_length slots sites count))
    (λ j lt.
    let l = rows_length slots' sites' count in
    rows_at slots' sites' count j (omega arith) ∙ (same j (omega arith) ∙ sym (rows_at slots sites count j (omega arith))))

-- how many edges are free, after one changes
pub free_less : (sites : List ℕ) (e t : ℕ) → e < length sites → get_or sites e none_at ≡ none_at → t ≢ none_at
    → free_count (set sites e t) + 1 ≡ free_count sites
free_less sites e t lt was is =
    let s = sum_by-set (λ (t : ℕ). cond (eqb t none_at) 1 0) sites e t none_at lt in
    let a = cond-true {A = ℕ} (eqb (get_or sites e none_at) none_at) 1 0 (eq-eqb (get_or sites e none_at) none_at was) in
    let b = cond-false {A = ℕ} (eqb t none_at) 1 0 (ne_eqb t none_at is) in
    omega arith

pub free_more : (sites : List ℕ) (e : ℕ) → e < length sites → get_or sites e none_at ≢ none_at
    → free_count (set sites e none_at) ≡ free_count sites + 1
free_more sites e lt was =
    let s = sum_by-set (λ (t : ℕ). cond (eqb t none_at) 1 0) sites e none_at none_at lt in
    let a = cond-false {A = ℕ} (eqb (get_or sites e none_at) none_at) 1 0 (ne_eqb (get_or sites e none_at) none_at was) in
    omega arith

free_first : (t : ℕ) (sites : List ℕ) → free_count (t ∷ sites) ≡ cond (eqb t none_at) 1 0 + free_count sites
free_first t sites = sum_by-cons (λ (t : ℕ). cond (eqb t none_at) 1 0) t sites

pub free_within : (sites : List ℕ) → free_count sites ≤ length sites
free_within [] = omega arith
free_within (t ∷ sites) = let r = free_within sites in let f = free_first t sites in elim (cases_eq t none_at) [
  | inl e ↦ let c = cond-true {A = ℕ} (eqb t none_at) 1 0 (eq-eqb t none_at e) in omega arith
  | inr ne ↦ let c = cond-false {A = ℕ} (eqb t none_at) 1 0 (ne_eqb t none_at ne) in omega arith
]

pub free_some : (sites : List ℕ) → 0 < free_count sites → (e : ℕ) × (e < length sites) × (get_or sites e none_at ≡ none_at)
free_some [] some = absurd (omega arith)
free_some (t ∷ sites) some = elim (cases_eq t none_at) [
  | inl e ↦ (zero, omega arith, e)
  | inr ne ↦
      let c = cond-false {A = ℕ} (eqb t none_at) 1 0 (ne_eqb t none_at ne) in
      let f = free_first t sites in
      let r = free_some sites (omega arith) in
      let l = r.1 in
      (suc r.0, omega arith, r.2)
]
