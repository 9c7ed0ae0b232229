-- The first of some moments that comes after another one.
use Rattle.std.proofs.Common.{◌≡◌, refl, sym, ap, ap₂, subst, ◌∙◌, ◌+◌, ◌<◌, ◌≤◌, ℤ, pos, ◌+ℤ◌, List, [], ◌∷◌, ◌++◌, length, inl, inr, Option, Some, None, Bool, true, false, ◌&&◌, int_lt, int_le, arith, if◌then◌else◌}
use Rattle.jiff_core.proofs.SignedLemmas.{signed_arith}
use Rattle.ld_value.proofs.Choices.{and_left, and_right, both}
use Rattle.ld_state.proofs.Elements.{IsIn}
use Rattle.ld_alarm.specs.Later.{earlier, comes_after, next_after, count_after}
use Rattle.ld_alarm.specs.Switches.{switches_about}
use Rattle.ld_alarm.proofs.Comparing.{le_test, lt_test}

-- ---- the earlier of two

pub earlier_none : (a : Option ℤ) → earlier a None ≡ a
earlier_none None = refl
earlier_none (Some x) = refl

-- The earlier of three, whichever two are compared first.
of_three : (x y z : ℤ) (xy yz xz : Bool) → int_lt y x ≡ xy → int_lt z y ≡ yz → int_lt z x ≡ xz
    → earlier (if xy then Some y else Some x) (Some z) ≡ earlier (Some x) (if yz then Some z else Some y)
of_three x y z true true true one two three = rw (two, three) refl
of_three x y z true true false one two three = absurd (omega (arith, signed_arith, one, two, three))
of_three x y z true false true one two three = rw (two, one) refl
of_three x y z true false false one two three = rw (two, one) refl
of_three x y z false true true one two three = refl
of_three x y z false true false one two three = refl
of_three x y z false false true one two three = absurd (omega (arith, signed_arith, one, two, three))
of_three x y z false false false one two three = rw (three, one) refl

pub earlier_assoc : (a b c : Option ℤ) → earlier (earlier a b) c ≡ earlier a (earlier b c)
earlier_assoc None b c = refl
earlier_assoc (Some x) None c = refl
earlier_assoc (Some x) (Some y) None = earlier_none (earlier (Some x) (Some y))
earlier_assoc (Some x) (Some y) (Some z) =
    of_three x y z (int_lt y x) (int_lt z y) (int_lt z x) refl refl refl

-- ---- lists of moments

pub next_append : (moment : ℤ) (xs ys : List ℤ)
    → next_after moment (xs ++ ys) ≡ earlier (next_after moment xs) (next_after moment ys)
next_append moment [] ys = refl
next_append moment (x ∷ xs) ys =
    ap (earlier (if comes_after moment x then Some x else None)) (next_append moment xs ys)
    ∙ sym (earlier_assoc (if comes_after moment x then Some x else None) (next_after moment xs) (next_after moment ys))

-- Where one comes first, it comes after the moment, and all others that do come no earlier.
pub record IsNext (moment : ℤ) (xs : List ℤ) (first : ℤ) : Type 0 where
  pub there : IsIn xs first
  pub later : comes_after moment first ≡ true
  pub least : (c : ℤ) → IsIn xs c → comes_after moment c ≡ true → int_le first c ≡ true

-- None comes after the moment.
abbrev pub HasNoNext : ℤ → List ℤ → Type 0
HasNoNext moment xs = (c : ℤ) → IsIn xs c → comes_after moment c ≡ false

abbrev Told : ℤ → List ℤ → Option ℤ → Type 0
Told moment xs None = HasNoNext moment xs
Told moment xs (Some first) = IsNext moment xs first

le_self : (z : ℤ) → int_le z z ≡ true
le_self z = le_test z z (omega (arith, signed_arith))

le_through : (x y c : ℤ) → int_lt y x ≡ false → int_le y c ≡ true → int_le x c ≡ true
le_through x y c more k = le_test x c (omega (arith, signed_arith, more, k))

pub not_both : {A : Type 0} → (b : Bool) → b ≡ true → b ≡ false → A
not_both b is other = absurd (cc)

-- The head alone does not come after the moment.
head_before : (moment x : ℤ) (xs : List ℤ) (rest : Option ℤ) → comes_after moment x ≡ false → Told moment xs rest
    → Told moment (x ∷ xs) rest
head_before moment x xs None is told = by
  where
    by : (c : ℤ) → IsIn (x ∷ xs) c → comes_after moment c ≡ false
    by c (inl same) = rw (← same) is
    by c (inr there) = told c there
head_before moment x xs (Some first) is told =
    record { there = inr told.there; later = told.later; least = by }
  where
    by : (c : ℤ) → IsIn (x ∷ xs) c → comes_after moment c ≡ true → int_le first c ≡ true
    by c (inl same) goes = not_both (comes_after moment x) (rw same goes) is
    by c (inr there) goes = told.least c there goes

-- The head comes first.
head_first : (moment x : ℤ) (xs : List ℤ) → comes_after moment x ≡ true
    → ((c : ℤ) → IsIn xs c → comes_after moment c ≡ true → int_le x c ≡ true) → IsNext moment (x ∷ xs) x
head_first moment x xs is least = record { there = inl refl; later = is; least = by }
  where
    by : (c : ℤ) → IsIn (x ∷ xs) c → comes_after moment c ≡ true → int_le x c ≡ true
    by c (inl same) goes = rw (← same) (le_self x)
    by c (inr there) goes = least c there goes

-- One behind the head comes first, also before the head.
head_later : (moment x first : ℤ) (xs : List ℤ) → int_lt first x ≡ true → IsNext moment xs first
    → IsNext moment (x ∷ xs) first
head_later moment x first xs less told = record { there = inr told.there; later = told.later; least = by }
  where
    by : (c : ℤ) → IsIn (x ∷ xs) c → comes_after moment c ≡ true → int_le first c ≡ true
    by c (inl same) goes = rw (← same) (le_test first x (omega (arith, signed_arith, less)))
    by c (inr there) goes = told.least c there goes

head_after : (moment x : ℤ) (xs : List ℤ) (rest : Option ℤ) → comes_after moment x ≡ true → Told moment xs rest
    → Told moment (x ∷ xs) (earlier (Some x) rest)
head_after moment x xs None is told =
    head_first moment x xs is (λ c there goes. not_both (comes_after moment c) goes (told c there))
head_after moment x xs (Some first) is told = by (int_lt first x) refl
  where
    by : (less : Bool) → int_lt first x ≡ less → Told moment (x ∷ xs) (if less then Some first else Some x)
    by true less = head_later moment x first xs less told
    by false more = head_first moment x xs is (λ c there goes. le_through x first c more (told.least c there goes))

told : (moment : ℤ) (xs : List ℤ) → Told moment xs (next_after moment xs)
told moment [] = λ c there. absurd there
told moment (x ∷ xs) = by (comes_after moment x) refl (told moment xs)
  where
    by : (after : Bool) → comes_after moment x ≡ after → Told moment xs (next_after moment xs)
        → Told moment (x ∷ xs) (earlier (if after then Some x else None) (next_after moment xs))
    by true is rest = head_after moment x xs (next_after moment xs) is rest
    by false is rest = head_before moment x xs (next_after moment xs) is rest

pub next_is : (moment : ℤ) (xs : List ℤ) (first : ℤ) → next_after moment xs ≡ Some first → IsNext moment xs first
next_is moment xs first is = subst (λ o. Told moment xs o) is (told moment xs)

pub next_none : (moment : ℤ) (xs : List ℤ) → next_after moment xs ≡ None → HasNoNext moment xs
next_none moment xs is = subst (λ o. Told moment xs o) is (told moment xs)

-- ---- how many are left

-- What comes after a later moment comes after this one.
still_after : (moment later x : ℤ) → int_lt moment later ≡ true → comes_after later x ≡ true → comes_after moment x ≡ true
still_after moment later x less after =
    let over = and_left (int_lt later x) (int_le x (pos 253402300799)) after in
    both (int_lt moment x) (int_le x (pos 253402300799)) (lt_test moment x (omega (arith, signed_arith, less, over)))
    (and_right (int_lt later x) (int_le x (pos 253402300799)) after)

-- None comes after itself.
not_itself : (x : ℤ) → comes_after x x ≡ false
not_itself x = by (int_lt x x) refl
  where
    by : (less : Bool) → int_lt x x ≡ less → less && int_le x (pos 253402300799) ≡ false
    by true less = absurd (omega (arith, signed_arith, less))
    by false more = refl

-- How many there are with the head, by what is said of the head.
with_head : (moment x : ℤ) (xs : List ℤ) (after : Bool) → comes_after moment x ≡ after
    → count_after moment (x ∷ xs) ≡ (if after then 1 else 0) + count_after moment xs
with_head moment x xs true is = rw is (omega arith)
with_head moment x xs false is = rw is (omega arith)

-- No more come after a later moment.
count_falls : (moment later : ℤ) (xs : List ℤ) → int_lt moment later ≡ true
    → count_after later xs ≤ count_after moment xs
count_falls moment later [] less = omega arith
count_falls moment later (x ∷ xs) less =
    by (comes_after later x) (comes_after moment x) refl refl (count_falls moment later xs less)
  where
    by : (after before : Bool) → comes_after later x ≡ after → comes_after moment x ≡ before
        → count_after later xs ≤ count_after moment xs
        → count_after later (x ∷ xs) ≤ count_after moment (x ∷ xs)
    by true true one two rest = omega (arith, with_head later x xs true one, with_head moment x xs true two, rest)
    by true false one two rest = not_both (comes_after moment x) (still_after moment later x less one) two
    by false true one two rest = omega (arith, with_head later x xs false one, with_head moment x xs true two, rest)
    by false false one two rest = omega (arith, with_head later x xs false one, with_head moment x xs false two, rest)

-- Fewer come after one of them that comes after the moment.
pub fewer_left : (moment first : ℤ) (xs : List ℤ) → IsIn xs first → comes_after moment first ≡ true
    → count_after first xs < count_after moment xs
fewer_left moment first [] there after = absurd there
fewer_left moment first (x ∷ xs) (inl same) after =
    let less = and_left (int_lt moment first) (int_le first (pos 253402300799)) after in
    let one : comes_after first x ≡ false = rw same (not_itself first) in
    let two : comes_after moment x ≡ true = rw same after in
    omega (arith, with_head first x xs false one, with_head moment x xs true two, count_falls moment first xs less)
fewer_left moment first (x ∷ xs) (inr there) after =
    by (comes_after first x) (comes_after moment x) refl refl (fewer_left moment first xs there after)
  where
    by : (later before : Bool) → comes_after first x ≡ later → comes_after moment x ≡ before
        → count_after first xs < count_after moment xs
        → count_after first (x ∷ xs) < count_after moment (x ∷ xs)
    by true true one two rest = omega (arith, with_head first x xs true one, with_head moment x xs true two, rest)
    by true false one two rest = not_both (comes_after moment x) (still_after moment first x (and_left (int_lt moment first) (int_le first (pos 253402300799)) after) one) two
    by false true one two rest = omega (arith, with_head first x xs false one, with_head moment x xs true two, rest)
    by false false one two rest = omega (arith, with_head first x xs false one, with_head moment x xs false two, rest)

-- ---- a moment and the second after it

pub next_about : (after at : ℤ) (first second both : Option ℤ) → first ≡ next_after after (at ∷ [])
    → second ≡ next_after after ((at +ℤ pos 1) ∷ []) → both ≡ earlier first second
    → both ≡ next_after after (switches_about at)
next_about after at first second both first_is second_is is =
    is
    ∙ ap₂ earlier (first_is ∙ earlier_none (if comes_after after at then Some at else None)) second_is

-- ---- as they are counted

pub count_most : (moment : ℤ) (xs : List ℤ) → count_after moment xs ≤ length xs
count_most moment [] = omega arith
count_most moment (x ∷ xs) = by (comes_after moment x) refl (count_most moment xs)
  where
    by : (after : Bool) → comes_after moment x ≡ after → count_after moment xs ≤ length xs
        → count_after moment (x ∷ xs) ≤ length (x ∷ xs)
    by true is rest = omega (arith, with_head moment x xs true is, rest)
    by false is rest = omega (arith, with_head moment x xs false is, rest)
