-- The layers of a graph without cycles.
use Rattle.std.proofs.Common.{◌≡◌, ℕ, zero, suc, ◌+◌, ◌<◌, ◌≤◌, inl, inr, List, [], ◌∷◌, filter, length, Bool, true, false, cond, ◌||◌, nat_eq, None, refl, sym, ap, ◌∙◌, arith}
use Rattle.std.proofs.lemmas.Bool.{cases_lt, cases_eq, or_left, or_right, false≢true, eq-eqb}
use Rattle.std.proofs.lemmas.List.FromFn.{get_or-map-range_with_len, length-map-range_with_len}
use Rattle.std.proofs.lemmas.Option.{slice_get-get_or, slice_get_past}
use Rattle.std.specs.List.{range_with_len}
use Rattle.ld_base.specs.Numbers.{numbers_below}
use Rattle.ld_cycles.specs.Graphs.{Graph, IsNext, leads_within, is_on_cycle, first_on_cycle, number_or_zero, number_or_zero_at}
use Rattle.ld_cycles.proofs.Counted.{count, at_most, more_with}
use Rattle.ld_cycles.proofs.CycleLaws.{none_passes, one_step_on}
use Rattle.ld_cycles.proofs.Bounded.{no_more_steps}
use Rattle.ld_layers.specs.Layers.{leads_on, before, greatest, layer_within, layers_of, AreLayers}

-- ---- the greatest of the elements that pass a test

pub same_greatest : (f h : ℕ → ℕ) (test : ℕ → Bool) (xs : List ℕ) → ((x : ℕ) → test x ≡ true → f x ≡ h x)
    → greatest f (filter test xs) ≡ greatest h (filter test xs)
same_greatest f h test [] same = refl
same_greatest f h test (x ∷ xs) same = by (same_greatest f h test xs same) (test x) refl
  where
    by : greatest f (filter test xs) ≡ greatest h (filter test xs) → (b : Bool) → test x ≡ b
        → greatest f (cond b (x ∷ filter test xs) (filter test xs)) ≡ greatest h (cond b (x ∷ filter test xs) (filter test xs))
    by rest true is = rw (same x is, rest) refl
    by rest false is = rest

at_least : (f : ℕ → ℕ) (test : ℕ → Bool) (n from a : ℕ) → from ≤ a → a < from + n → test a ≡ true
    → f a ≤ greatest f (filter test (range_with_len from n))
at_least f test zero from a above below passes = absurd (omega (arith, above, below))
at_least f test (suc n) from a above below passes =
    by (λ other. at_least f test n (from + 1) a (omega (arith, above, other)) (omega (arith, below)) passes) (test from) refl
  where
    by : ((from ≡ a → ⊥) → f a ≤ greatest f (filter test (range_with_len (from + 1) n))) → (b : Bool) → test from ≡ b
        → f a ≤ greatest f (cond b (from ∷ filter test (range_with_len (from + 1) n)) (filter test (range_with_len (from + 1) n)))
    by rest true is = elim (cases_eq from a) [
      | inl same ↦ (let first = ap f same in omega (arith, first))
      | inr other ↦ (let later = rest other in omega (arith, later))
    ]
    by rest false is = rest (λ same. false≢true (sym is ∙ ap test same ∙ passes))

pub attained : (f : ℕ → ℕ) (test : ℕ → Bool) (xs : List ℕ) → 0 < greatest f (filter test xs)
    → (a : ℕ) × (test a ≡ true) × (f a ≡ greatest f (filter test xs))
attained f test [] = λ some. absurd (omega (arith, some))
attained f test (x ∷ xs) = by (attained f test xs) (test x) refl
  where
    by : (0 < greatest f (filter test xs) → (a : ℕ) × (test a ≡ true) × (f a ≡ greatest f (filter test xs)))
        → (b : Bool) → test x ≡ b → 0 < greatest f (cond b (x ∷ filter test xs) (filter test xs))
        → (a : ℕ) × (test a ≡ true) × (f a ≡ greatest f (cond b (x ∷ filter test xs) (filter test xs)))
    by rest false is some = rest some
    by rest true is some = elim (cases_lt (f x) (greatest f (filter test xs))) [
      | inl less ↦ (let found = rest (omega (arith, less)) in (found.0, found.1, omega (arith, less, found.2)))
      | inr more ↦ (x, is, omega (arith, more))
    ]

-- ---- how great they are

no_greater : (f : ℕ → ℕ) (k : ℕ) (xs : List ℕ) → ((a : ℕ) → f a ≤ k) → greatest f xs ≤ k
no_greater f k [] each = omega arith
no_greater f k (x ∷ xs) each = let rest = no_greater f k xs each in let here = each x in omega (arith, rest, here)

pub layer_low : (g : Graph) (k a : ℕ) → layer_within g k a ≤ k
layer_low g zero a = omega arith
layer_low g (suc k) a =
    let below = no_greater (layer_within g k) k (before g a) (layer_low g k) in
    omega (arith, below)

-- ---- nodes

-- What leads anywhere is a node.
pub leading_is_node : (g : Graph) (a b : ℕ) → IsNext g a b → a < length g
leading_is_node g a b next = elim (cases_lt a (length g)) [
  | inl within ↦ within
  | inr past ↦ absurd (false≢true (rw (slice_get_past g a past) at next))
]

abbrev pub NoCycle : Graph → Type 0
NoCycle g = first_on_cycle g ≡ None

-- How many nodes lead to a node.
abbrev height : Graph → ℕ → ℕ
height g b = count (λ a. leads_within g (length g) a b) (length g)

off : (g : Graph) → NoCycle g → (a : ℕ) → a < length g → leads_within g (length g) a a ≡ false
off g none a within = none_passes (is_on_cycle g) (length g) none a within

one_on : (g : Graph) (x a b : ℕ) → IsNext g a b → (nat_eq x a || leads_within g (length g) x a) ≡ true
    → leads_within g (length g) x b ≡ true
one_on g x a b next near = no_more_steps g (suc (length g)) x b (one_step_on g (length g) x a b near next)

-- More nodes lead to the end of a step than to its start.
height_rises : (g : Graph) → NoCycle g → (a b : ℕ) → IsNext g a b → height g a < height g b
height_rises g none a b next =
    let within = leading_is_node g a b next in
    more_with (λ x. leads_within g (length g) x a) (λ x. leads_within g (length g) x b) (length g) a
    (λ x leads. one_on g x a b next (or_right (nat_eq x a) (leads_within g (length g) x a) leads))
    within (off g none a within)
    (one_on g a a b next (or_left (nat_eq a a) (leads_within g (length g) a a) (eq-eqb a a refl)))

low : (g : Graph) → NoCycle g → (b : ℕ) → b < length g → height g b < length g
low g none b within =
    omega (arith, more_with (λ a. leads_within g (length g) a b) (λ _. true) (length g) b (λ a leads. refl) within (off g none b within) refl, at_most (λ _. true) (length g))

-- ---- layers

-- A node's layer stands once more nodes are let in than lead to it.
settled : (g : Graph) → NoCycle g → (n b : ℕ) → height g b < n → layer_within g n b ≡ layer_within g (suc n) b
settled g none zero b few = absurd (omega (arith, few))
settled g none (suc n) b few =
    ap suc (same_greatest (layer_within g n) (layer_within g (suc n)) (λ a. leads_on g a b) (numbers_below (length g))
    (λ a next. settled g none n a (omega (arith, few, height_rises g none a b next))))

abbrev pub layer : Graph → ℕ → ℕ
layer g b = layer_within g (length g) b

one_above : (g : Graph) → NoCycle g → (b : ℕ) → b < length g → layer g b ≡ suc (greatest (layer g) (before g b))
one_above g none b within = settled g none (length g) b (low g none b within)

-- The layer rises along each step.
pub layer_rises : (g : Graph) → NoCycle g → (a b : ℕ) → b < length g → IsNext g a b → layer g a < layer g b
layer_rises g none a b within next =
    let here = leading_is_node g a b next in
    let least = at_least (layer g) (λ x. leads_on g x b) (length g) 0 a (omega arith) (omega (arith, here)) next in
    omega (arith, least, one_above g none b within)

counted : (g : Graph) → length (layers_of g) ≡ length g
counted g = length-map-range_with_len (layer g) 0 (length g)

pub layer_at : (g : Graph) (b : ℕ) → b < length g → number_or_zero_at (layers_of g) b ≡ layer g b
layer_at g b within =
    ap number_or_zero (slice_get-get_or (layers_of g) b 0 (omega (arith, within, counted g)))
    ∙ get_or-map-range_with_len (layer g) 0 (length g) b b 0 within (omega arith)

pub layer_past : (g : Graph) (b : ℕ) → length g ≤ b → number_or_zero_at (layers_of g) b ≡ 0
layer_past g b past = ap number_or_zero (slice_get_past (layers_of g) b (omega (arith, past, counted g)))

pub are_layers : (g : Graph) → NoCycle g → AreLayers g (layers_of g)
are_layers g none = record {
  each = counted g;
  from_one = λ b within. omega (arith, layer_at g b within, one_above g none b within);
  few = λ b. elim (cases_lt b (length g)) [
    | inl within ↦ (let least = layer_low g (length g) b in omega (arith, least, layer_at g b within))
    | inr past ↦ omega (arith, layer_past g b past)
  ];
  rise = λ a b within next.
      omega (arith, layer_rises g none a b within next, layer_at g a (leading_is_node g a b next), layer_at g b within);
  tight = tight_at;
}
  where
    tight_in : (b : ℕ) → b < length g → 1 < number_or_zero_at (layers_of g) b
        → (a : ℕ) × IsNext g a b × (suc (number_or_zero_at (layers_of g) a) ≡ number_or_zero_at (layers_of g) b)
    tight_in b within above =
        let whole = one_above g none b within in
        let found = attained (layer g) (λ x. leads_on g x b) (numbers_below (length g)) (omega (arith, above, layer_at g b within, whole)) in
        let here = leading_is_node g found.0 b found.1 in
        (found.0, found.1, omega (arith, found.2, layer_at g found.0 here, layer_at g b within, whole))

    tight_at : (b : ℕ) → 1 < number_or_zero_at (layers_of g) b
        → (a : ℕ) × IsNext g a b × (suc (number_or_zero_at (layers_of g) a) ≡ number_or_zero_at (layers_of g) b)
    tight_at b above = elim (cases_lt b (length g)) [
      | inl within ↦ tight_in b within above
      | inr past ↦ absurd (omega (arith, above, layer_past g b past))
    ]
