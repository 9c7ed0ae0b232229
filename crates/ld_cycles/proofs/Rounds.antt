-- Sizes that stand still at the greatest: those of one round, and those of all rounds after it.
use Rattle.std.proofs.Common.{◌≡◌, ℕ, zero, suc, ◌+◌, ◌-◌, ◌<◌, ◌≤◌, min, List, [], ◌∷◌, map, replicate, length, Bool, true, false, Option, Some, None, slice_get, get_or, refl, sym, ap, ◌∙◌, arith, add-one}
use Rattle.std.proofs.lemmas.Bool.{ltb-true, ltb-false}
use Rattle.std.proofs.lemmas.List.{get_or-map, length-map}
use Rattle.std.proofs.lemmas.List.FromFn.{get_or-map-range_with_len, length-map-range_with_len}
use Rattle.std.proofs.lemmas.List.Sums.{sum_by-cons}
use Rattle.std.proofs.lemmas.Option.{slice_get-map, slice_get-get_or, slice_get_past}
use Rattle.std.specs.Bool.{nat_lt}
use Rattle.std.specs.List.{sum_by, range_with_len}
use Rattle.std.specs.Option.{option_map}
use Rattle.ld_base.specs.Numbers.{numbers_below}
use Rattle.ld_cycles.specs.Graphs.{Graph, next_of, number_or_zero, number_or_zero_at, expanded_within, expanded_size, expanded_sizes}

-- The sizes after this many rounds, those above the greatest being the greatest.
abbrev pub capped : List ℕ → Graph → ℕ → List ℕ
capped own g k = map (min 1000000) (map (expanded_within own g k) (numbers_below (length g)))

abbrev size_in : List ℕ → ℕ → ℕ
size_in sizes a = number_or_zero (slice_get sizes a)

-- The size of a node, where those of the nodes to which it leads are given.
abbrev pub size_after : List ℕ → Graph → List ℕ → ℕ → ℕ
size_after own g sizes a = min 1000000 (number_or_zero (slice_get own a) + sum_by (size_in sizes) (next_of g a))

abbrev round_after : List ℕ → Graph → List ℕ → List ℕ
round_after own g sizes = map (size_after own g sizes) (numbers_below (length g))

-- A sum stands still at the same place where its terms do so.
capped_sum : (f h : ℕ → ℕ) (x : ℕ) (xs : List ℕ) → ((a : ℕ) → f a ≡ min 1000000 (h a)) → min 1000000 (x + sum_by f xs) ≡ min 1000000 (x + sum_by h xs)
capped_sum f h x [] each = refl
capped_sum f h x (a ∷ xs) each =
    let terms = sum_by-cons f a xs in
    let wholes = sum_by-cons h a xs in
    let one = each a in
    let rest = capped_sum f h (x + f a) xs each in
    omega (arith, terms, wholes, one, rest)

-- A number that is no node expands to nothing.
pub past_all : (own : List ℕ) (g : Graph) (k a : ℕ) → length own ≡ length g → length g ≤ a → expanded_within own g k a ≡ 0
past_all own g zero a same past = refl
past_all own g (suc k) a same past = rw (slice_get_past own a (omega (arith, same, past)), slice_get_past g a past) refl

pub count_capped : (own : List ℕ) (g : Graph) (k : ℕ) → length (capped own g k) ≡ length g
count_capped own g k = length-map (map (expanded_within own g k) (numbers_below (length g))) (min 1000000) ∙ length-map-range_with_len (expanded_within own g k) 0 (length g)

size_capped : (own : List ℕ) (g : Graph) (k a : ℕ) → length own ≡ length g → size_in (capped own g k) a ≡ min 1000000 (expanded_within own g k a)
size_capped own g k a same = by (nat_lt a (length g)) refl
  where
    by : (b : Bool) → nat_lt a (length g) ≡ b → size_in (capped own g k) a ≡ min 1000000 (expanded_within own g k a)
    by true is =
        let within = ltb-true a (length g) is in
        let count = count_capped own g k in
        let whole = length-map-range_with_len (expanded_within own g k) 0 (length g) in
        let least = get_or-map (min 1000000) (map (expanded_within own g k) (numbers_below (length g))) a 0 0 (omega (arith, within, whole)) in
        let value = get_or-map-range_with_len (expanded_within own g k) 0 (length g) a a 0 within (omega arith) in
        ap number_or_zero (slice_get-get_or (capped own g k) a 0 (omega (arith, within, count))) ∙ least ∙ ap (min 1000000) value
    by false is =
        let past = ltb-false a (length g) is in
        rw (slice_get_past (capped own g k) a (omega (arith, past, count_capped own g k)), past_all own g k a same past) refl

-- The next round is made of the sizes of this one.
pub size_next : (own : List ℕ) (g : Graph) (k a : ℕ) → length own ≡ length g → size_after own g (capped own g k) a ≡ min 1000000 (expanded_within own g (suc k) a)
size_next own g k a same = capped_sum (size_in (capped own g k)) (expanded_within own g k) (number_or_zero (slice_get own a)) (next_of g a) (λ c. size_capped own g k c same)

same_maps : (f h : ℕ → ℕ) (xs : List ℕ) → ((a : ℕ) → f a ≡ min 1000000 (h a)) → map f xs ≡ map (min 1000000) (map h xs)
same_maps f h [] each = refl
same_maps f h (a ∷ xs) each = rw (each a, same_maps f h xs each) refl

pub round_next : (own : List ℕ) (g : Graph) (k : ℕ) → length own ≡ length g → round_after own g (capped own g k) ≡ capped own g (suc k)
round_next own g k same = same_maps (size_after own g (capped own g k)) (expanded_within own g (suc k)) (numbers_below (length g)) (λ a. size_next own g k a same)

-- Where a round changes nothing, no later one does.
still_after : (own : List ℕ) (g : Graph) (k more : ℕ) → length own ≡ length g → capped own g (suc k) ≡ capped own g k → capped own g (more + k) ≡ capped own g k
still_after own g k zero same still = let none : 0 + k ≡ k = omega arith in ap (capped own g) none
still_after own g k (suc more) same still =
    let one : suc more + k ≡ suc (more + k) = omega arith in
    ap (capped own g) one
    ∙ sym (round_next own g (more + k) same)
    ∙ ap (round_after own g) (still_after own g k more same still)
    ∙ round_next own g k same
    ∙ still

pub still_at : (own : List ℕ) (g : Graph) (k n : ℕ) → length own ≡ length g → capped own g (k + 1) ≡ capped own g k → k ≤ n → capped own g k ≡ capped own g n
still_at own g k n same still within =
    let more : (n - k) + k ≡ n = omega (arith, within) in
    sym (ap (capped own g) (sym more) ∙ still_after own g k (n - k) same (ap (capped own g) (sym (add-one k)) ∙ still))

-- The size of the next node, as it is read from the edges.
pub size_read : {X : Type 0} (items : X → List ℕ) (own : List ℕ) (edges : List X) (sizes : List ℕ) (n : ℕ) (x : X) → n < length own → n < length edges → x ≡ get_or edges n x → min 1000000 (get_or own n 0 + sum_by (size_in sizes) (items x)) ≡ size_after own (map items edges) sizes n
size_read items own edges sizes n x there within is =
    let node : slice_get (map items edges) n ≡ Some (items x) = slice_get-map items edges n ∙ ap (option_map items) (slice_get-get_or edges n x within ∙ ap (λ y. Some y) (sym is)) in
    rw (slice_get-get_or own n 0 there, node) refl

-- The sizes of all nodes, each from those of the round before.
pub round_done : (own : List ℕ) (g : Graph) (sizes next : List ℕ) (k n : ℕ) → length own ≡ length g → n ≡ length g → sizes ≡ capped own g k → next ≡ map (size_after own g sizes) (range_with_len 0 n) → next ≡ capped own g (k + 1)
round_done own g sizes next k n same all are made = rw (made, all, are, add-one k) (round_next own g k same)

zeros : (own : List ℕ) (g : Graph) (a n : ℕ) → map (min 1000000) (map (expanded_within own g zero) (range_with_len a n)) ≡ replicate n 0
zeros own g a zero = refl
zeros own g a (suc n) = ap (λ rest. 0 ∷ rest) (zeros own g (a + 1) n)

-- Before the first round all sizes are 0.
pub none_before : (own : List ℕ) (g : Graph) → capped own g 0 ≡ replicate (length g) 0
none_before own g = zeros own g 0 (length g)

-- ---- own sizes that stand still at the greatest

-- Where the terms stand still at one place, so do the sums.
pub sums_alike : {A : Type 0} (f h : A → ℕ) (x y : ℕ) (xs : List A) → min 1000000 x ≡ min 1000000 y → ((a : A) → min 1000000 (f a) ≡ min 1000000 (h a)) → min 1000000 (x + sum_by f xs) ≡ min 1000000 (y + sum_by h xs)
sums_alike f h x y [] same each = omega (arith, same)
sums_alike f h x y (a ∷ xs) same each =
    let terms = sum_by-cons f a xs in
    let wholes = sum_by-cons h a xs in
    let one = each a in
    let first : min 1000000 (x + f a) ≡ min 1000000 (y + h a) = omega (arith, one, same) in
    let rest = sums_alike f h (x + f a) (y + h a) xs first each in
    omega (arith, terms, wholes, rest)

maps_alike : (f h : ℕ → ℕ) (xs : List ℕ) → ((a : ℕ) → min 1000000 (f a) ≡ min 1000000 (h a)) → map (min 1000000) (map f xs) ≡ map (min 1000000) (map h xs)
maps_alike f h [] each = refl
maps_alike f h (a ∷ xs) each = rw (each a, maps_alike f h xs each) refl

least_number : (o : Option ℕ) → number_or_zero (option_map (min 1000000) o) ≡ min 1000000 (number_or_zero o)
least_number None = refl
least_number (Some n) = refl

pub own_capped : (own : List ℕ) (a : ℕ) → number_or_zero_at (map (min 1000000) own) a ≡ min 1000000 (number_or_zero_at own a)
own_capped own a = ap number_or_zero (slice_get-map (min 1000000) own a) ∙ least_number (slice_get own a)

within_alike : (own : List ℕ) (g : Graph) (n a : ℕ) → min 1000000 (expanded_within (map (min 1000000) own) g n a) ≡ min 1000000 (expanded_within own g n a)
within_alike own g zero a = refl
within_alike own g (suc n) a =
    let still : min 1000000 (min 1000000 (number_or_zero_at own a)) ≡ min 1000000 (number_or_zero_at own a) = omega arith in
    sums_alike (expanded_within (map (min 1000000) own) g n) (expanded_within own g n) (number_or_zero_at (map (min 1000000) own) a) (number_or_zero_at own a) (next_of g a) (ap (min 1000000) (own_capped own a) ∙ still) (λ b. within_alike own g n b)

-- What nodes expand to stands still at one place whether their own sizes do so or not.
pub expanded_alike : (own : List ℕ) (g : Graph) → map (min 1000000) (expanded_sizes (map (min 1000000) own) g) ≡ map (min 1000000) (expanded_sizes own g)
expanded_alike own g = maps_alike (expanded_size (map (min 1000000) own) g) (expanded_size own g) (numbers_below (length g)) (λ a. within_alike own g (length g) a)
