-- What leads where in a graph.
use Rattle.std.proofs.Common.{◌≡◌, ℕ, zero, suc, ◌+◌, ◌<◌, ◌≤◌, List, [], ◌∷◌, ◌++◌, map, take, get_or, inl, inr, length, Bool, true, false, ◌||◌, nat_eq, nat_le, Option, Some, None, slice_get, refl, sym, ap, ◌∙◌, arith, add-one}
use Rattle.std.proofs.lemmas.Bool.{cases_eq, or_cases, or_left, or_right, and_parts, and_from, false_from_ne_true, false≢true, eqb-true, eq-eqb, leb-true, le-leb}
use Rattle.std.proofs.lemmas.Iterator.Adapters.{position_from-zero}
use Rattle.std.proofs.lemmas.List.{map_more}
use Rattle.std.proofs.lemmas.Option.{slice_get-map}
use Rattle.std.specs.List.{list_any, list_all, position, position_from, range_with_len}
use Rattle.std.specs.Option.{unwrap_or, option_map}
use Rattle.ld_base.specs.Numbers.{numbers_below}
use Rattle.ld_cycles.specs.Graphs.{Graph, nodes_or_none, next_of, leads_within, is_on_cycle}

-- ---- the first number that passes a test

past_all : (test : ℕ → Bool) (a n : ℕ) → ((k : ℕ) → a ≤ k → k < a + n → test k ≡ false) → position_from test a (range_with_len a n) ≡ None
past_all test a zero fails = refl
past_all test a (suc n) fails =
    rw (fails a (omega arith) (omega arith)) (past_all test (a + 1) n (λ k from below. fails k (omega arith) (omega arith)))

past_some : (test : ℕ → Bool) (a n c : ℕ) → a ≤ c → c < a + n → test c ≡ true → ((k : ℕ) → a ≤ k → k < c → test k ≡ false) → position_from test a (range_with_len a n) ≡ Some c
past_some test a zero c from within passes fails = absurd (omega arith)
past_some test a (suc n) c from within passes fails =
    elim (cases_eq a c) [
      | inl same ↦ rw (ap test same ∙ passes) (ap (λ k. Some k) same)
      | inr other ↦
          let more : a < c = omega (arith, other) in
          rw (fails a (omega arith) more) (past_some test (a + 1) n c (omega arith) (omega arith) passes (λ k after below. fails k (omega arith) below))
    ]

-- No number below n passes.
pub no_number : (test : ℕ → Bool) (n : ℕ) → ((k : ℕ) → k < n → test k ≡ false) → position test (numbers_below n) ≡ None
no_number test n fails = position_from-zero test (numbers_below n) ∙ past_all test 0 n (λ k from below. fails k (omega arith))

none_past : (test : ℕ → Bool) (a n k : ℕ) → position_from test a (range_with_len a n) ≡ None → a ≤ k → k < a + n → test k ≡ false
none_past test a zero k none from within = absurd (omega (arith, from, within))
none_past test a (suc n) k none from within = by (test a) refl (none_past test (a + 1) n k)
  where
    by : (b : Bool) → test a ≡ b → (position_from test (a + 1) (range_with_len (a + 1) n) ≡ None → a + 1 ≤ k → k < (a + 1) + n → test k ≡ false) → test k ≡ false
    by true is rest = let no = rw is at none in cc
    by false is rest = elim (cases_eq a k) [
      | inl same ↦ sym (ap test same) ∙ is
      | inr other ↦ rest (rw is at none) (omega (arith, from, other)) (omega (arith, within))
    ]

-- Where none is found, none passes.
pub none_passes : (test : ℕ → Bool) (n : ℕ) → position test (numbers_below n) ≡ None → (k : ℕ) → k < n → test k ≡ false
none_passes test n none k within = none_past test 0 n k (sym (position_from-zero test (numbers_below n)) ∙ none) (omega arith) (omega (arith, within))

-- The number passes, and none before it does.
pub first_number : (test : ℕ → Bool) (n c : ℕ) → c < n → test c ≡ true → ((k : ℕ) → k < c → test k ≡ false) → position test (numbers_below n) ≡ Some c
first_number test n c within passes fails =
    position_from-zero test (numbers_below n) ∙ past_some test 0 n c (omega arith) (omega arith) passes (λ k from below. fails k below)

-- ---- one step more

list_any-same : {A : Type 0} (p q : A → Bool) (xs : List A) → ((x : A) → p x ≡ q x) → list_any p xs ≡ list_any q xs
list_any-same p q [] same = refl
list_any-same p q (x ∷ xs) same = rw (same x, list_any-same p q xs same) refl

-- That the list tells of each node whether it leads to the end within this many steps.
abbrev pub TellsWithin : List Bool → Graph → ℕ → ℕ → Type 0
TellsWithin leading g n end = (a : ℕ) → unwrap_or (slice_get leading a) false ≡ leads_within g n a end

-- What is told of one node more.
pub told_more : {X : Type 0} (f : X → Bool) (xs : List X) (i : ℕ) (x : X) (told : List Bool) (b : Bool) → i < length xs → x ≡ get_or xs i x → told ≡ map f (take i xs) → b ≡ f x → told ++ b ∷ [] ≡ map f (take (i + 1) xs)
told_more f xs i x told b within at before is = rw (before, is) (sym (map_more f xs i x within ∙ rw (sym at) refl))

pub tells_one_more : {X : Type 0} (next_in : X → List ℕ) (xs : List X) (leading : List Bool) (n end : ℕ) → TellsWithin leading (map next_in xs) n end → TellsWithin (map (λ x. list_any (λ c. nat_eq c end || unwrap_or (slice_get leading c) false) (next_in x)) xs) (map next_in xs) (n + 1) end
tells_one_more {X = X} next_in xs leading n end tells a =
    rw (add-one n, slice_get-map next_in xs a, slice_get-map (λ x. list_any (λ c. nat_eq c end || unwrap_or (slice_get leading c) false) (next_in x)) xs a) (by (slice_get xs a))
  where
    by : (x : Option X) → unwrap_or (option_map (λ x. list_any (λ c. nat_eq c end || unwrap_or (slice_get leading c) false) (next_in x)) x) false ≡ list_any (λ c. nat_eq c end || leads_within (map next_in xs) n c end) (nodes_or_none (option_map next_in x))
    by None = refl
    by (Some x) = list_any-same (λ c. nat_eq c end || unwrap_or (slice_get leading c) false) (λ c. nat_eq c end || leads_within (map next_in xs) n c end) (next_in x) (λ c. ap (λ told. nat_eq c end || told) (tells c))

-- ---- lists all of whose elements pass a test

pub any_weaker : {A : Type 0} (p q : A → Bool) (xs : List A) → ((x : A) → p x ≡ true → q x ≡ true) → list_any p xs ≡ true → list_any q xs ≡ true
any_weaker p q [] weaker any = any
any_weaker p q (x ∷ xs) weaker any =
    elim (or_cases (p x) (list_any p xs) any) [
      | inl here ↦ or_left (q x) (list_any q xs) (weaker x here)
      | inr there ↦ or_right (q x) (list_any q xs) (any_weaker p q xs weaker there)
    ]

all_weaker : {A : Type 0} (p q : A → Bool) (xs : List A) → ((x : A) → p x ≡ true → q x ≡ true) → list_all p xs ≡ true → list_all q xs ≡ true
all_weaker p q [] weaker all = refl
all_weaker p q (x ∷ xs) weaker all =
    let parts = and_parts (p x) (list_all p xs) all in
    and_from (q x) (list_all q xs) (weaker x parts.0) (all_weaker p q xs weaker parts.1)

any_of_all : {A : Type 0} (p q : A → Bool) (xs : List A) (R : Type 0) → ((x : A) → p x ≡ true → q x ≡ true → R) → list_any p xs ≡ true → list_all q xs ≡ true → R
any_of_all p q [] R both any all = cc
any_of_all p q (x ∷ xs) R both any all =
    let parts = and_parts (q x) (list_all q xs) all in
    elim (or_cases (p x) (list_any p xs) any) [
      | inl here ↦ both x here parts.0
      | inr there ↦ any_of_all p q xs R both there parts.1
    ]

-- What passes at all elements passes at each.
pub all_at : (test : ℕ → Bool) (xs : List ℕ) (i x : ℕ) → list_all test xs ≡ true → slice_get xs i ≡ Some x → test x ≡ true
all_at test [] i x all at = cc
all_at test (y ∷ ys) zero x all at = let same : y ≡ x = cc in ap test (sym same) ∙ (and_parts (test y) (list_all test ys) all).0
all_at test (y ∷ ys) (suc i) x all at = all_at test ys i x (and_parts (test y) (list_all test ys) all).1 at

all_members : (test : ℕ → Bool) (xs : List ℕ) → ((x : ℕ) → list_any (λ y. nat_eq y x) xs ≡ true → test x ≡ true) → list_all test xs ≡ true
all_members test [] passes = refl
all_members test (x ∷ xs) passes =
    and_from (test x) (list_all test xs) (passes x (or_left (nat_eq x x) (list_any (λ y. nat_eq y x) xs) (eq-eqb x x refl))) (all_members test xs (λ y there. passes y (or_right (nat_eq x y) (list_any (λ z. nat_eq z y) xs) there)))

-- ---- ways of more steps

-- Whether the first node is the second or leads to it within this many steps.
abbrev pub is_near : Graph → ℕ → ℕ → ℕ → Bool
is_near g n a b = nat_eq a b || leads_within g n a b

first_step : (g : Graph) (n a c b : ℕ) → nat_eq a c ≡ true → list_any (λ x. nat_eq x b) (next_of g c) ≡ true → leads_within g (suc n) a b ≡ true
first_step g n a c b same edge =
    rw (eqb-true a c same) (any_weaker (λ x. nat_eq x b) (λ x. is_near g n x b) (next_of g c) (λ x is. or_left (nat_eq x b) (leads_within g n x b) is) edge)

-- One step more at the end of a way.
pub one_step_on : (g : Graph) (n a c b : ℕ) → is_near g n a c ≡ true → list_any (λ x. nat_eq x b) (next_of g c) ≡ true → leads_within g (suc n) a b ≡ true
one_step_on g zero a c b near edge =
    elim (or_cases (nat_eq a c) false near) [
      | inl same ↦ first_step g zero a c b same edge
      | inr never ↦ cc
    ]
one_step_on g (suc n) a c b near edge =
    elim (or_cases (nat_eq a c) (leads_within g (suc n) a c) near) [
      | inl same ↦ first_step g (suc n) a c b same edge
      | inr leads ↦ any_weaker (λ x. is_near g n x c) (λ x. is_near g (suc n) x b) (next_of g a) (λ x from. or_right (nat_eq x b) (leads_within g (suc n) x b) (one_step_on g n x c b from edge)) leads
    ]

pub one_more : (g : Graph) (n a b : ℕ) → leads_within g n a b ≡ true → leads_within g (suc n) a b ≡ true
one_more g zero a b leads = cc
one_more g (suc n) a b leads =
    any_weaker (λ x. is_near g n x b) (λ x. is_near g (suc n) x b) (next_of g a) (λ x near. elim (or_cases (nat_eq x b) (leads_within g n x b) near) [
      | inl same ↦ or_left (nat_eq x b) (leads_within g (suc n) x b) same
      | inr further ↦ or_right (nat_eq x b) (leads_within g (suc n) x b) (one_more g n x b further)
    ]) leads

-- What leads within this many steps leads within more.
pub more_steps : (g : Graph) (n m a b : ℕ) → n ≤ m → leads_within g n a b ≡ true → leads_within g m a b ≡ true
more_steps g n zero a b fewer leads = let none : n ≡ 0 = omega arith in rw none at leads
more_steps g n (suc m) a b fewer leads =
    elim (cases_eq n (suc m)) [
      | inl same ↦ rw same at leads
      | inr other ↦ one_more g m a b (more_steps g n m a b (omega (arith, other)) leads)
    ]

-- What is near within this many steps is near within one more.
pub all_near_still : (g : Graph) (n a : ℕ) (reached : List ℕ) → list_all (λ b. is_near g n a b) reached ≡ true → list_all (λ b. is_near g (n + 1) a b) reached ≡ true
all_near_still g n a reached all =
    rw (add-one n) (all_weaker (λ b. is_near g n a b) (λ b. is_near g (suc n) a b) reached (λ b near. elim (or_cases (nat_eq a b) (leads_within g n a b) near) [
      | inl same ↦ or_left (nat_eq a b) (leads_within g (suc n) a b) same
      | inr leads ↦ or_right (nat_eq a b) (leads_within g (suc n) a b) (one_more g n a b leads)
    ]) all)

-- The nodes to which a near node leads are near within one step more.
pub next_near : (g : Graph) (n a c : ℕ) → is_near g n a c ≡ true → list_all (λ b. is_near g (n + 1) a b) (next_of g c) ≡ true
next_near g n a c near =
    rw (add-one n) (all_members (λ b. is_near g (suc n) a b) (next_of g c) (λ b edge. or_right (nat_eq a b) (leads_within g (suc n) a b) (one_step_on g n a c b near edge)))

-- ---- labels

abbrev label_of : List ℕ → ℕ → ℕ
label_of labels node = unwrap_or (slice_get labels node) 0

abbrev pub NeverRise : List ℕ → Graph → Type 0
NeverRise labels g = (node : ℕ) → list_all (λ target. nat_le (label_of labels target) (label_of labels node)) (next_of g node) ≡ true

never_higher : (labels : List ℕ) (g : Graph) (n a b : ℕ) → NeverRise labels g → leads_within g n a b ≡ true → label_of labels b ≤ label_of labels a
never_higher labels g zero a b never leads = absurd (false≢true leads)
never_higher labels g (suc n) a b never leads =
    any_of_all (λ c. is_near g n c b) (λ c. nat_le (label_of labels c) (label_of labels a)) (next_of g a) (label_of labels b ≤ label_of labels a) (λ c near low.
    let below = leb-true (label_of labels c) (label_of labels a) low in
    elim (or_cases (nat_eq c b) (leads_within g n c b) near) [
      | inl same ↦ rw (← eqb-true c b same) below
      | inr further ↦ omega (arith, below, never_higher labels g n c b never further)
    ]) leads (never a)

stays : (labels : List ℕ) (g : Graph) (n a : ℕ) → NeverRise labels g → leads_within g n a a ≡ true → list_any (λ target. nat_le (label_of labels a) (label_of labels target)) (next_of g a) ≡ true
stays labels g zero a never leads = absurd (false≢true leads)
stays labels g (suc n) a never leads =
    any_weaker (λ c. is_near g n c a) (λ c. nat_le (label_of labels a) (label_of labels c)) (next_of g a) (λ c near. elim (or_cases (nat_eq c a) (leads_within g n c a) near) [
      | inl same ↦ le-leb (label_of labels a) (label_of labels c) (rw (eqb-true c a same) (omega arith))
      | inr further ↦ le-leb (label_of labels a) (label_of labels c) (never_higher labels g n c a never further)
    ]) leads

-- Where labels never rise, a node whose label falls along all its edges does not lead to itself.
pub off_cycle : (labels : List ℕ) (g : Graph) (a : ℕ) → NeverRise labels g → list_any (λ target. nat_le (label_of labels a) (label_of labels target)) (next_of g a) ≡ false → is_on_cycle g a ≡ false
off_cycle labels g a never falls =
    false_from_ne_true (is_on_cycle g a) (λ is. false≢true (sym falls ∙ stays labels g (length g) a never is))
