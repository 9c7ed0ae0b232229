-- What is so of each element of a list: cells that are there, steps that are taken, persons who are chosen.
use Rattle.std.proofs.Common.{◌≡◌, refl, sym, ap, subst, ◌∙◌, ℕ, suc, ◌+◌, ◌*◌, ◌<◌, ◌≤◌, inl, inr, List, [], ◌∷◌, ◌++◌, map, filter, flat_map, drop, take, get_or, length, cond, Bool, true, false, ◌||◌, arith, mul-suc, append-nil}
use Rattle.std.proofs.lemmas.Bool.{and_parts}
use Rattle.std.proofs.lemmas.List.{map-append, take_all}
use Rattle.std.proofs.lemmas.List.Elements.{filter-append}
use Rattle.std.proofs.lemmas.List.Folds.{list_all-append}
use Rattle.std.proofs.lemmas.List.FromFn.{map-range_with_len_more}
use Rattle.std.proofs.lemmas.List.Sums.{sum_by-append, sum_by-cons, sum_by-take-le}
use Rattle.std.proofs.lemmas.Option.{slice_get_read}
use Rattle.std.specs.List.{list_all, list_any, sum_by}
use Rattle.ld_base.specs.Numbers.{numbers_below}
use Rattle.ld_model.specs.declared.cell.CellName.{CellName}
use Rattle.ld_model.specs.declared.unit.Unit.{Unit}
use Rattle.ld_expr.proofs.Totals.{from_here}
use Rattle.ld_firing.specs.ActionCells.{HasSlots, has_slot}
use Rattle.ld_firing.specs.Actions.{Doing}
use Rattle.ld_firing.specs.Progress.{Progress, Does}
use Rattle.ld_firing.proofs.Progressing.{one_more}
use Rattle.ld_state.proofs.Elements.{IsIn, in_stands}

-- ---- cells

both_have : (unit : Unit) (persons : ℕ) (xs ys : List CellName) → HasSlots unit persons (xs ++ ys)
    → (list_all (has_slot unit persons) xs ≡ true) × (list_all (has_slot unit persons) ys ≡ true)
both_have unit persons xs ys all =
    and_parts (list_all (has_slot unit persons) xs) (list_all (has_slot unit persons) ys)
    (sym (list_all-append (has_slot unit persons) xs ys) ∙ all.each)

pub slots_of_one : {A : Type 0} (unit : Unit) (persons : ℕ) (cells : A → List CellName) (xs : List A) (x : A) → IsIn xs x
    → HasSlots unit persons (flat_map cells xs) → HasSlots unit persons (cells x)
slots_of_one unit persons cells [] x inside all = absurd inside
slots_of_one unit persons cells (y ∷ ys) x (inl is) all =
    subst (λ z. HasSlots unit persons (cells z)) is (record { each = (both_have unit persons (cells y) (flat_map cells ys) all).0 })
slots_of_one unit persons cells (y ∷ ys) x (inr later) all =
    slots_of_one unit persons cells ys x later (record { each = (both_have unit persons (cells y) (flat_map cells ys) all).1 })

pub item_in : {A : Type 0} (xs : List A) (i : ℕ) (x : A) → i < length xs → x ≡ get_or xs i x → IsIn xs x
item_in xs i x within is = in_stands xs i x (slice_get_read xs (length xs) i x refl within is)

-- The cells of the element of this number.
pub slots_of_item : {A : Type 0} (unit : Unit) (persons : ℕ) (cells : A → List CellName) (xs : List A) (i : ℕ) (x : A)
    → i < length xs → x ≡ get_or xs i x → HasSlots unit persons (flat_map cells xs) → HasSlots unit persons (cells x)
slots_of_item unit persons cells xs i x within is all = slots_of_one unit persons cells xs x (item_in xs i x within is) all

-- ---- steps

-- Each of these took at most that.
pub steps_of_each : (start before now cost n : ℕ) → before ≤ start + cost * n → now ≤ before + cost → now ≤ start + cost * (n + 1)
steps_of_each start before now cost n so_far one =
    let more : n + 1 ≡ suc n = omega arith in
    omega (arith, so_far, one, mul-suc cost n, ap (λ m. cost * m) more)

sum_more : {A : Type 0} (cost : A → ℕ) (xs : List A) (i : ℕ) (x : A) → i < length xs → x ≡ get_or xs i x
    → sum_by cost (take (i + 1) xs) ≡ sum_by cost (take i xs) + cost x
sum_more cost xs i x within is =
    let one : sum_by cost (x ∷ []) ≡ cost x = sum_by-cons cost x [] ∙ omega arith in
    ap (sum_by cost) (one_more xs i x within is) ∙ sum_by-append cost (take i xs) (x ∷ [])
    ∙ ap (λ n. sum_by cost (take i xs) + n) one

pub steps_next : {A : Type 0} (cost : A → ℕ) (xs : List A) (i : ℕ) (x : A) (start before now : ℕ) → i < length xs
    → x ≡ get_or xs i x → before ≤ start + sum_by cost (take i xs) → now ≤ before + cost x
    → now ≤ start + sum_by cost (take (i + 1) xs)
steps_next cost xs i x start before now within is so_far one =
    omega (arith, so_far, one, sum_more cost xs i x within is)

pub steps_all : {A : Type 0} (cost : A → ℕ) (xs : List A) (i start now : ℕ) → length xs ≤ i
    → now ≤ start + sum_by cost (take i xs) → now ≤ start + sum_by cost xs
steps_all cost xs i start now whole within = subst (λ ys. now ≤ start + sum_by cost ys) (take_all i xs whole) within

-- The last that was done, where no more is.
pub steps_stop : {A : Type 0} (cost : A → ℕ) (xs : List A) (i : ℕ) (x : A) (start before now : ℕ) → i < length xs
    → x ≡ get_or xs i x → before ≤ start + sum_by cost (take i xs) → now ≤ before + cost x → now ≤ start + sum_by cost xs
steps_stop cost xs i x start before now within is so_far one =
    omega (arith, steps_next cost xs i x start before now within is so_far one, sum_by-take-le cost xs (i + 1))

sum_made : {A B : Type 0} (cost : B → ℕ) (f : A → B) (xs : List A) → sum_by cost (map f xs) ≡ sum_by (λ x. cost (f x)) xs
sum_made cost f [] = refl
sum_made cost f (x ∷ xs) =
    sum_by-cons cost (f x) (map f xs) ∙ ap (λ n. cost (f x) + n) (sum_made cost f xs) ∙ sym (sum_by-cons (λ y. cost (f y)) x xs)

-- The same of a list that is made of another.
pub steps_next_of : {A B : Type 0} (cost : B → ℕ) (f : A → B) (xs : List A) (i : ℕ) (x : A) (start before now : ℕ)
    → i < length xs → x ≡ get_or xs i x → before ≤ start + sum_by cost (map f (take i xs)) → now ≤ before + cost (f x)
    → now ≤ start + sum_by cost (map f (take (i + 1) xs))
steps_next_of cost f xs i x start before now within is so_far one =
    let last : sum_by cost (f x ∷ []) ≡ cost (f x) = sum_by-cons cost (f x) [] ∙ omega arith in
    let more : sum_by cost (map f (take (i + 1) xs)) ≡ sum_by cost (map f (take i xs)) + cost (f x) =
    ap (λ ys. sum_by cost (map f ys)) (one_more xs i x within is)
    ∙ ap (sum_by cost) (map-append f (take i xs) (x ∷ []))
    ∙ sum_by-append cost (map f (take i xs)) (f x ∷ [])
    ∙ ap (λ n. sum_by cost (map f (take i xs)) + n) last in
    omega (arith, so_far, one, more)

pub steps_stop_of : {A B : Type 0} (cost : B → ℕ) (f : A → B) (xs : List A) (i : ℕ) (x : A) (start before now : ℕ)
    → i < length xs → x ≡ get_or xs i x → before ≤ start + sum_by cost (map f (take i xs)) → now ≤ before + cost (f x)
    → now ≤ start + sum_by cost (map f xs)
steps_stop_of cost f xs i x start before now within is so_far one =
    omega (
      arith,
      steps_next_of cost f xs i x start before now within is so_far one,
      sum_made cost f (take (i + 1) xs),
      sum_made cost f xs,
      sum_by-take-le (λ y. cost (f y)) xs (i + 1),
    )

pub steps_all_of : {A B : Type 0} (cost : B → ℕ) (f : A → B) (xs : List A) (i start now : ℕ) → length xs ≤ i
    → now ≤ start + sum_by cost (map f (take i xs)) → now ≤ start + sum_by cost (map f xs)
steps_all_of cost f xs i start now whole within =
    subst (λ ys. now ≤ start + sum_by cost (map f ys)) (take_all i xs whole) within

-- ---- numbers

map_itself : (xs : List ℕ) → map (λ n. n) xs ≡ xs
map_itself [] = refl
map_itself (x ∷ xs) = ap (λ ys. x ∷ ys) (map_itself xs)

below_more : (n : ℕ) → numbers_below (n + 1) ≡ numbers_below n ++ n ∷ []
below_more n =
    sym (map_itself (numbers_below (n + 1))) ∙ map-range_with_len_more (λ k. k) 0 n n (omega arith)
    ∙ ap (λ xs. xs ++ n ∷ []) (map_itself (numbers_below n))

pub passes_next : (test : ℕ → Bool) (n : ℕ) → test n ≡ true
    → filter test (numbers_below (n + 1)) ≡ filter test (numbers_below n) ++ n ∷ []
passes_next test n passes =
    ap (filter test) (below_more n) ∙ filter-append test (numbers_below n) (n ∷ [])
    ∙ ap (λ b. filter test (numbers_below n) ++ cond b (n ∷ []) []) passes

pub fails_next : (test : ℕ → Bool) (n : ℕ) → test n ≡ false
    → filter test (numbers_below (n + 1)) ≡ filter test (numbers_below n)
fails_next test n fails =
    ap (filter test) (below_more n) ∙ filter-append test (numbers_below n) (n ∷ [])
    ∙ ap (λ b. filter test (numbers_below n) ++ cond b (n ∷ []) []) fails
    ∙ append-nil (filter test (numbers_below n))

-- One of the list passes the test.
pub any_next : {A : Type 0} (test : A → Bool) (xs : List A) (i : ℕ) (x : A) → i < length xs → x ≡ get_or xs i x → test x ≡ false
    → list_any test (drop i xs) ≡ list_any test xs → list_any test (drop (i + 1) xs) ≡ list_any test xs
any_next test xs i x within is fails so_far =
    sym (ap (list_any test) (from_here xs i x within is) ∙ ap (λ b. b || list_any test (drop (i + 1) xs)) fails) ∙ so_far

pub any_here : {A : Type 0} (test : A → Bool) (xs : List A) (i : ℕ) (x : A) → i < length xs → x ≡ get_or xs i x → test x ≡ true
    → list_any test (drop i xs) ≡ list_any test xs → true ≡ list_any test xs
any_here test xs i x within is passes so_far =
    sym (ap (list_any test) (from_here xs i x within is) ∙ ap (λ b. b || list_any test (drop (i + 1) xs)) passes) ∙ so_far

-- All numbers below another.
pub does_below : {unit : Unit} {p q : Progress} (does : List ℕ → Doing → Doing) (n m : ℕ) → n ≡ m
    → Does unit p q (does (numbers_below n)) → Does unit p q (does (numbers_below m))
does_below {unit = unit} {p = p} {q = q} does n m same all = subst (λ k. Does unit p q (does (numbers_below k))) same all
