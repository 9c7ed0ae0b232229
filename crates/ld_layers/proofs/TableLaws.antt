-- Tables of the nodes that lead to the start by exactly this many steps.
use Rattle.std.proofs.Common.{◌≡◌, ℕ, zero, suc, ◌+◌, ◌<◌, inl, inr, List, [], ◌∷◌, ◌++◌, map, length, get_or, slice_get, Bool, true, false, ◌||◌, nat_eq, Option, Some, None, refl, sym, ap, ap₂, subst, append_assoc, ◌∙◌, arith, add-one}
use Rattle.std.proofs.lemmas.Bool.{cases_lt, cases_eq, or_cases, false≢true, ne_eqb}
use Rattle.std.proofs.lemmas.List.{length-map, length-append, map-append, get_or-map, get_or_append_left}
use Rattle.std.proofs.lemmas.List.FromFn.{get_or-map-range_with_len, length-map-range_with_len}
use Rattle.std.proofs.Math.Seq.{get_or-append_seam}
use Rattle.std.proofs.lemmas.Option.{slice_get-map, slice_get-get_or, slice_get_past}
use Rattle.std.specs.List.{list_any}
use Rattle.std.specs.Option.{unwrap_or, option_map}
use Rattle.ld_base.specs.Numbers.{numbers_below}
use Rattle.ld_cycles.specs.Graphs.{Graph, next_of, nodes_or_none, leads_within}
use Rattle.ld_layers.specs.Loops.{way_in, next_towards, first_way}
use Rattle.ld_layers.specs.Tables.{Names}
use Rattle.ld_layers.proofs.LoopLaws.{any_with, any_at}

-- No step leads from the start alone to itself.
pub names_first : (g : Graph) (start n : ℕ) → start < n
    → Names g 0 start (map (λ a. nat_eq a start) (numbers_below n))
names_first g start n within a = elim (cases_lt a n) [
  | inl below ↦
      ap (λ o. unwrap_or o false) (slice_get-get_or (map (λ k. nat_eq k start) (numbers_below n)) a false
      (omega (arith, below, length-map-range_with_len (λ k. nat_eq k start) 0 n)))
      ∙ get_or-map-range_with_len (λ k. nat_eq k start) 0 n a a false below (omega arith)
  | inr past ↦
      ap (λ o. unwrap_or o false) (slice_get_past (map (λ k. nat_eq k start) (numbers_below n)) a
      (omega (arith, past, length-map-range_with_len (λ k. nat_eq k start) 0 n)))
      ∙ sym (ne_eqb a start (λ same. absurd (omega (arith, same, past, within))))
]

same_any : (p q : ℕ → Bool) (xs : List ℕ) → ((x : ℕ) → p x ≡ q x) → list_any p xs ≡ list_any q xs
same_any p q [] same = refl
same_any p q (x ∷ xs) same = rw (same x, same_any p q xs same) refl

-- One step more.
pub names_next : {X : Type 0} (items : X → List ℕ) (xs : List X) (table more : List Bool) (k start : ℕ)
    → Names (map items xs) k start table
    → more ≡ map (λ x. list_any (λ c. unwrap_or (slice_get table c) false) (items x)) xs
    → Names (map items xs) (k + 1) start more
names_next {X} items xs table more k start names is a =
    ap (λ (list : List Bool). unwrap_or (slice_get list a) false) is
    ∙ ap (λ o. unwrap_or o false) (slice_get-map (λ x. list_any (λ c. unwrap_or (slice_get table c) false) (items x)) xs a)
    ∙ by (slice_get xs a)
    ∙ ap (λ o. list_any (λ c. way_in (map items xs) k c start) (nodes_or_none o)) (sym (slice_get-map items xs a))
    ∙ ap (λ n. way_in (map items xs) n a start) (sym (add-one k))
  where
    by : (x : Option X)
        → unwrap_or (option_map (λ x. list_any (λ c. unwrap_or (slice_get table c) false) (items x)) x) false ≡ list_any (λ c. way_in (map items xs) k c start) (nodes_or_none (option_map items x))
    by None = refl
    by (Some x) =
        same_any (λ c. unwrap_or (slice_get table c) false) (λ c. way_in (map items xs) k c start) (items x) names

-- What holds of each of the lists, and of one more.
pub each_more : {X : Type 0} (items : X → List Bool) (lists more : List X) (x : X) (n : ℕ) (P : ℕ → List Bool → Type 0)
    → more ≡ lists ++ x ∷ [] → length (map items lists) ≡ n
    → ((k : ℕ) → k < n → P k (get_or (map items lists) k [])) → P n (items x)
    → (k : ℕ) → k < n + 1 → P k (get_or (map items more) k [])
each_more items lists more x n P are count each last k below =
    let all = map items lists in
    let whole : map items more ≡ all ++ items x ∷ [] = ap (map items) are ∙ map-append items lists (x ∷ []) in
    subst (λ (tables : List (List Bool)). P k (get_or tables k [])) (sym whole)
    (elim (cases_eq k n) [
      | inl same ↦ (let at : get_or (all ++ items x ∷ []) k [] ≡ items x =
          ap (λ m. get_or (all ++ items x ∷ []) m []) (same ∙ sym count) ∙ get_or-append_seam all (items x) [] [] in
          subst (λ (list : List Bool). P k list) (sym at) (subst (λ m. P m (items x)) (sym same) last))
      | inr other ↦ (let within : k < length all = omega (arith, below, other, count) in
          subst (λ (list : List Bool). P k list) (sym (get_or_append_left all (items x ∷ []) [] k within))
          (each k (omega (arith, below, other))))
    ])

pub one_more_list : {X : Type 0} (items : X → List Bool) (lists more : List X) (x : X) (n : ℕ)
    → more ≡ lists ++ x ∷ [] → length (map items lists) ≡ n → length (map items more) ≡ n + 1
one_more_list items lists more x n are count =
    omega (arith, length-map lists items, length-map more items, ap length are, length-append lists (x ∷ []), count)

-- What leads within this many steps does so by some number of steps.
pub by_steps : (g : Graph) (n a b : ℕ) → leads_within g n a b ≡ true
    → (k : ℕ) × (k < n) × (way_in g (suc k) a b ≡ true)
by_steps g zero a b leads = absurd (false≢true leads)
by_steps g (suc n) a b leads =
    let found = any_with (λ c. nat_eq c b || leads_within g n c b) (next_of g a) leads in
    elim (or_cases (nat_eq found.0 b) (leads_within g n found.0 b) found.2) [
      | inl same ↦ (0, omega arith, any_at (λ c. way_in g 0 c b) (next_of g a) found.0 found.1 same)
      | inr further ↦ (let rest = by_steps g n found.0 b further in
          (suc rest.0, omega (arith, rest.1), any_at (λ c. way_in g (suc rest.0) c b) (next_of g a) found.0 found.1 rest.2))
    ]

-- ---- the way that is taken

-- A table, as it is read from the tables.
pub table_read : {X : Type 0} (items : X → List Bool) (tables : List X) (m : ℕ) (x : X) → m < length tables
    → x ≡ get_or tables m x → get_or (map items tables) m [] ≡ items x
table_read items tables m x within is = get_or-map items tables m x [] within ∙ ap items (sym is)

pub step_taken : (g : Graph) (way more : List ℕ) (left m at next start : ℕ) (whole : List ℕ) → left ≡ suc m
    → more ≡ way ++ at ∷ [] → next ≡ next_towards g m at start → way ++ first_way g left at start ≡ whole
    → more ++ first_way g m next start ≡ whole
step_taken g way more left m at next start whole one pushed is before =
    ap₂ (λ xs n. xs ++ first_way g m n start) pushed is
    ∙ append_assoc way (at ∷ []) (first_way g m (next_towards g m at start) start)
    ∙ ap (λ n. way ++ first_way g n at start) (sym one)
    ∙ before
