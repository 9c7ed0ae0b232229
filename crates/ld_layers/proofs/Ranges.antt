-- Lists of numbers that grow at their end.
use Rattle.std.proofs.Common.{◌≡◌, ℕ, zero, suc, ◌+◌, ◌<◌, List, [], ◌∷◌, ◌++◌, filter, map, take, length, get_or, Bool, true, false, cond, ◌&&◌, Some, refl, sym, ap, ap₂, ◌∙◌, arith, add-one}
use Rattle.std.proofs.lemmas.List.Elements.{filter-append}
use Rattle.std.proofs.lemmas.List.{map-append, map_more}
use Rattle.std.proofs.lemmas.List.FromFn.{map-range_with_len_more}
use Rattle.std.proofs.lemmas.Option.{slice_get-get_or, slice_get-map}
use Rattle.std.specs.List.{range_with_len}
use Rattle.std.specs.Option.{option_map}
use Rattle.ld_cycles.specs.Graphs.{next_of, nodes_or_none}
use Rattle.ld_layers.specs.Layers.{before}

range_more : (n a : ℕ) → range_with_len a (suc n) ≡ range_with_len a n ++ (a + n) ∷ []
range_more zero a = ap (λ k. k ∷ []) (omega arith)
range_more (suc n) a =
    let rest = range_more n (a + 1) in
    let last : (a + 1) + n ≡ a + suc n = omega arith in
    ap (λ xs. a ∷ xs) (rest ∙ ap (λ k. range_with_len (a + 1) n ++ k ∷ []) last)

pub filter_range_more : (p : ℕ → Bool) (n : ℕ)
    → filter p (range_with_len 0 (n + 1)) ≡ filter p (range_with_len 0 n) ++ cond (p n) (n ∷ []) []
filter_range_more p n =
    let last : 0 + n ≡ n = omega arith in
    ap (λ k. filter p (range_with_len 0 k)) (add-one n)
    ∙ ap (filter p) (range_more n 0 ∙ ap (λ k. range_with_len 0 n ++ k ∷ []) last)
    ∙ filter-append p (range_with_len 0 n) (n ∷ [])

pub swapped : (a b : Bool) → (a && b) ≡ (b && a)
swapped true true = refl
swapped true false = refl
swapped false true = refl
swapped false false = refl

-- ---- lists that grow

-- The nodes to which a node leads, as they are read from the edges.
pub next_read : {X : Type 0} (items : X → List ℕ) (edges : List X) (n : ℕ) (x : X) → n < length edges
    → x ≡ get_or edges n x → next_of (map items edges) n ≡ items x
next_read items edges n x within is =
    ap nodes_or_none (slice_get-map items edges n ∙ ap (option_map items) (slice_get-get_or edges n x within ∙ ap Some (sym is)))

pub rows_more : {X : Type 0} (items : X → List ℕ) (f : ℕ → List ℕ) (n : ℕ) (rows more : List X) (row : X)
    → map items rows ≡ map f (range_with_len 0 n) → more ≡ rows ++ row ∷ [] → items row ≡ f n
    → map items more ≡ map f (range_with_len 0 (n + 1))
rows_more items f n rows more row so are is =
    ap (map items) are ∙ map-append items rows (row ∷ [])
    ∙ ap₂ (λ xs x. xs ++ x ∷ []) so is
    ∙ sym (map-range_with_len_more f 0 n n (omega arith))

-- One more of what is given for the elements of a list.
pub given_more : {X Y : Type 0} (f : X → Y) (xs : List X) (i : ℕ) (x : X) (given : List Y) (y : Y) → i < length xs
    → x ≡ get_or xs i x → given ≡ map f (take i xs) → y ≡ f x → given ++ y ∷ [] ≡ map f (take (i + 1) xs)
given_more f xs i x given y within at before is =
    rw (before, is) (sym (map_more f xs i x within ∙ rw (sym at) refl))
