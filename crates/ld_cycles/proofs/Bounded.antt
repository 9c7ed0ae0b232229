-- That searches of no more steps than there are nodes lose nothing.
use Rattle.std.proofs.Common.{◌≡◌, ℕ, zero, suc, ◌+◌, ◌<◌, ◌≤◌, ◌⊎◌, inl, inr, List, [], ◌∷◌, length, Bool, true, false, ◌||◌, nat_eq, None, refl, sym, ap, ◌∙◌, arith}
use Rattle.std.specs.Bool.{nat_lt}
use Rattle.std.proofs.lemmas.Bool.{cases_eq, or_cases, or_left, or_right, false≢true, eqb-true, eq-eqb, ltb-true, ltb-false}
use Rattle.std.proofs.lemmas.Option.{slice_get_past}
use Rattle.std.proofs.lemmas.List.Sums.{sum_by-cons}
use Rattle.std.specs.List.{list_any, sum_by}
use Rattle.ld_cycles.proofs.Counted.{count, at_most, more_with, same_or_more, all_pass}
use Rattle.ld_cycles.proofs.CycleLaws.{any_weaker, one_more, more_steps, none_passes}
use Rattle.ld_cycles.proofs.Rounds.{past_all}
use Rattle.ld_cycles.specs.Graphs.{Graph, IsNext, HasWay, LeadsTo, AddUp, next_of, leads_within, is_on_cycle, first_on_cycle, number_or_zero_at, expanded_within, expanded_size}

-- ---- a way and a search that finds it

any_with : (p : ℕ → Bool) (xs : List ℕ) → list_any p xs ≡ true → (x : ℕ) × (list_any (λ c. nat_eq c x) xs ≡ true) × (p x ≡ true)
any_with p [] any = absurd (false≢true any)
any_with p (x ∷ xs) any = elim (or_cases (p x) (list_any p xs) any) [
  | inl here ↦ (x, or_left (nat_eq x x) (list_any (λ c. nat_eq c x) xs) (eq-eqb x x refl), here)
  | inr there ↦ (let found = any_with p xs there in (found.0, or_right (nat_eq x found.0) (list_any (λ c. nat_eq c found.0) xs) found.1, found.2))
]

-- A node to which a node leads by a step that passes a test.
any_at : (p : ℕ → Bool) (xs : List ℕ) (x : ℕ) → list_any (λ c. nat_eq c x) xs ≡ true → p x ≡ true → list_any p xs ≡ true
any_at p xs x there passes = any_weaker (λ c. nat_eq c x) p xs (λ c is. ap p (eqb-true c x is) ∙ passes) there

pub found_way : (g : Graph) (n a b : ℕ) → leads_within g n a b ≡ true → LeadsTo g a b
found_way g zero a b leads = absurd (false≢true leads)
found_way g (suc n) a b leads =
    let found = any_with (λ c. nat_eq c b || leads_within g n c b) (next_of g a) leads in
    elim (or_cases (nat_eq found.0 b) (leads_within g n found.0 b) found.2) [
      | inl same ↦ (0, (found.0, found.1, eqb-true found.0 b same))
      | inr further ↦ (let rest = found_way g n found.0 b further in (suc rest.0, (found.0, found.1, rest.1)))
    ]

within_steps : (g : Graph) (n a b : ℕ) → HasWay g (suc n) a b → leads_within g (suc n) a b ≡ true
within_steps g zero a b way =
    any_at (λ c. nat_eq c b || leads_within g zero c b) (next_of g a) way.0 way.1 (or_left (nat_eq way.0 b) (leads_within g zero way.0 b) (eq-eqb way.0 b way.2))
within_steps g (suc n) a b way =
    any_at (λ c. nat_eq c b || leads_within g (suc n) c b) (next_of g a) way.0 way.1 (or_right (nat_eq way.0 b) (leads_within g (suc n) way.0 b) (within_steps g n way.0 b way.2))

-- ---- what more steps add

abbrev reaching : Graph → ℕ → ℕ → ℕ → Bool
reaching g b n a = leads_within g n a b

-- A step more makes no difference, and so no further one does.
abbrev Stands : Graph → ℕ → ℕ → Type 0
Stands g b n = (a : ℕ) → leads_within g (suc n) a b ≡ true → leads_within g n a b ≡ true

stands_on : (g : Graph) (b n : ℕ) → Stands g b n → Stands g b (suc n)
stands_on g b n stands a leads =
    any_weaker (λ c. nat_eq c b || leads_within g (suc n) c b) (λ c. nat_eq c b || leads_within g n c b) (next_of g a) (λ c near. elim (or_cases (nat_eq c b) (leads_within g (suc n) c b) near) [
      | inl same ↦ or_left (nat_eq c b) (leads_within g n c b) same
      | inr further ↦ or_right (nat_eq c b) (leads_within g n c b) (stands c further)
    ]) leads

stands_from : (g : Graph) (b n m : ℕ) → n ≤ m → Stands g b n → Stands g b m
stands_from g b n zero few stands = let none : n ≡ 0 = omega (arith, few) in rw none at stands
stands_from g b n (suc m) few stands = elim (cases_eq n (suc m)) [
  | inl same ↦ rw same at stands
  | inr other ↦ stands_on g b m (stands_from g b n m (omega (arith, few, other)) stands)
]

stands_long : (g : Graph) (b n m a : ℕ) → n ≤ m → Stands g b n → leads_within g m a b ≡ true → leads_within g n a b ≡ true
stands_long g b n zero a few stands leads = absurd (false≢true leads)
stands_long g b n (suc m) a few stands leads = elim (cases_eq n (suc m)) [
  | inl same ↦ rw same leads
  | inr other ↦ (let fewer : n ≤ m = omega (arith, few, other) in stands_long g b n m a fewer stands (stands_from g b n m fewer stands a leads))
]

-- The number is that of a node, or past all of them.
node_or_past : (g : Graph) (a : ℕ) → (a < length g) ⊎ (length g ≤ a)
node_or_past g a = by (nat_lt a (length g)) refl
  where
    by : (b : Bool) → nat_lt a (length g) ≡ b → (a < length g) ⊎ (length g ≤ a)
    by true is = inl (ltb-true a (length g) is)
    by false is = inr (ltb-false a (length g) is)

-- What leads anywhere is a node.
is_node : (g : Graph) (n a b : ℕ) → leads_within g n a b ≡ true → a < length g
is_node g zero a b leads = absurd (false≢true leads)
is_node g (suc n) a b leads = elim (node_or_past g a) [
  | inl within ↦ within
  | inr past ↦ absurd (false≢true (rw (slice_get_past g a past) at leads))
]

-- After n steps a step more makes no difference, or at least n nodes lead there.
stands_or_many : (g : Graph) (b n : ℕ) → Stands g b n ⊎ (n ≤ count (reaching g b n) (length g))
stands_or_many g b zero = inr (omega arith)
stands_or_many g b (suc n) = elim (stands_or_many g b n) [
  | inl stands ↦ inl (stands_on g b n stands)
  | inr many ↦ elim (same_or_more (reaching g b n) (reaching g b (suc n)) (length g) (λ a. one_more g n a b)) [
    | inl same ↦ inl (stands_on g b n (λ a leads. same a (is_node g (suc n) a b leads) leads))
    | inr more ↦ inr (omega (arith, many, more))
  ]
]

pub no_more_steps : (g : Graph) (n a b : ℕ) → leads_within g n a b ≡ true → leads_within g (length g) a b ≡ true
no_more_steps g n a b leads = elim (stands_or_many g b (length g)) [
  | inl stands ↦ stands_long g b (length g) (n + length g) a (omega arith) stands (more_steps g n (n + length g) a b (omega arith) leads)
  | inr many ↦ all_pass (reaching g b (length g)) (length g) many a (is_node g n a b leads)
]

pub way_found : (g : Graph) (a b : ℕ) → LeadsTo g a b → leads_within g (length g) a b ≡ true
way_found g a b way = no_more_steps g (suc way.0) a b (within_steps g way.0 a b way.1)

-- ---- sizes

abbrev reached : Graph → ℕ → ℕ → Bool
reached g a b = leads_within g (length g) a b

-- How many nodes a node leads to.
abbrev rank : Graph → ℕ → ℕ
rank g a = count (reached g a) (length g)

abbrev NoCycle : Graph → Type 0
NoCycle g = first_on_cycle g ≡ None

off : (g : Graph) → NoCycle g → (a : ℕ) → a < length g → reached g a a ≡ false
off g none a within = none_passes (is_on_cycle g) (length g) none a within

-- A node leads to fewer nodes than one that leads to it.
rank_falls : (g : Graph) → NoCycle g → (a c : ℕ) → IsNext g a c → c < length g → rank g c < rank g a
rank_falls g none a c next within =
    more_with (reached g c) (reached g a) (length g) c (λ b leads. no_more_steps g (suc (length g)) a b (any_at (λ x. nat_eq x b || leads_within g (length g) x b) (next_of g a) c next (or_right (nat_eq c b) (leads_within g (length g) c b) leads))) within (off g none c within) (no_more_steps g (suc 0) a c (within_steps g 0 a c (c, next, refl)))

few_reached : (g : Graph) → NoCycle g → (a : ℕ) → a < length g → rank g a < length g
few_reached g none a within =
    omega (arith, more_with (reached g a) (λ _. true) (length g) a (λ b leads. refl) within (off g none a within) refl, at_most (λ _. true) (length g))

same_sums : (f h : ℕ → ℕ) (xs : List ℕ) → ((x : ℕ) → list_any (λ c. nat_eq c x) xs ≡ true → f x ≡ h x) → sum_by f xs ≡ sum_by h xs
same_sums f h [] same = refl
same_sums f h (x ∷ xs) same =
    let first = same x (or_left (nat_eq x x) (list_any (λ c. nat_eq c x) xs) (eq-eqb x x refl)) in
    let rest = same_sums f h xs (λ y there. same y (or_right (nat_eq x y) (list_any (λ c. nat_eq c y) xs) there)) in
    sum_by-cons f x xs ∙ rw (first, rest) refl ∙ sym (sum_by-cons h x xs)

-- A node's size stands once more nodes are let in than it leads to.
settled : (own : List ℕ) (g : Graph) → length own ≡ length g → NoCycle g → (n a : ℕ) → rank g a < n → expanded_within own g n a ≡ expanded_within own g (suc n) a
settled own g same none zero a few = absurd (omega (arith, few))
settled own g same none (suc n) a few =
    ap (λ rest. number_or_zero_at own a + rest) (same_sums (expanded_within own g n) (expanded_within own g (suc n)) (next_of g a) (λ c next. elim (node_or_past g c) [
      | inl within ↦ settled own g same none n c (omega (arith, few, rank_falls g none a c next within))
      | inr past ↦ past_all own g n c same past ∙ sym (past_all own g (suc n) c same past)
    ]))

pub add_up : (own : List ℕ) (g : Graph) → length own ≡ length g → NoCycle g → AddUp own g (expanded_size own g)
add_up own g same none a = elim (node_or_past g a) [
  | inl within ↦ settled own g same none (length g) a (few_reached g none a within)
  | inr past ↦ past_all own g (length g) a same past ∙ sym (past_all own g (suc (length g)) a same past)
]
