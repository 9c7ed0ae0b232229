-- The least of some moments, whichever way they are listed.
use Rattle.std.proofs.Common.{◌≡◌, refl, ap, ◌∙◌, ◌⊎◌, inl, inr, ℤ, ◌≤ℤ◌, List, [], ◌∷◌, Option, Some, None, Bool, true, false, int_lt, arith, if◌then◌else◌}
use Rattle.jiff_core.proofs.SignedLemmas.{signed_arith}
use Rattle.ld_state.proofs.Elements.{IsIn}
use Rattle.ld_alarm.specs.Later.{earlier, earliest_of}

-- It is one of them, and no other one is less.
pub record IsLeast (among : ℤ → Type 0) (least : ℤ) : Type 0 where
  pub there : among least
  pub below : (z : ℤ) → among z → least ≤ℤ z

-- The least of them, if there is one.
abbrev pub IsLeastOf : (ℤ → Type 0) → Option ℤ → Type 0
IsLeastOf among None = (z : ℤ) → among z → ⊥
IsLeastOf among (Some least) = IsLeast among least

pub least_once : (p q : ℤ → Type 0) (a b : Option ℤ) → ((z : ℤ) → p z → q z) → ((z : ℤ) → q z → p z)
    → IsLeastOf p a → IsLeastOf q b → a ≡ b
least_once p q None None there back first second = refl
least_once p q None (Some y) there back first second = absurd (first y (back y second.there))
least_once p q (Some x) None there back first second = absurd (second x (there x first.there))
least_once p q (Some x) (Some y) there back first second =
    let one = first.below y (back y second.there) in
    let two = second.below x (there x first.there) in
    let same : x ≡ y = omega (arith, signed_arith, one, two) in
    ap (λ z. Some z) same

least_alike : (p q : ℤ → Type 0) (o : Option ℤ) → ((z : ℤ) → p z → q z) → ((z : ℤ) → q z → p z) → IsLeastOf p o → IsLeastOf q o
least_alike p q None there back least = λ z h. least z (back z h)
least_alike p q (Some x) there back least =
    record { there = there x least.there; below = λ z h. least.below z (back z h) }

some_is : {a b : ℤ} → Some a ≡ Some b → a ≡ b
some_is h = cc

least_one : (o : Option ℤ) → IsLeastOf (λ z. o ≡ Some z) o
least_one None = λ z h. absurd (cc)
least_one (Some x) = record { there = refl; below = λ z h. let same = some_is h in omega (arith, signed_arith, same) }

least_both : (p q : ℤ → Type 0) (a b : Option ℤ) → IsLeastOf p a → IsLeastOf q b → IsLeastOf (λ z. p z ⊎ q z) (earlier a b)
least_both p q None None first second = by
  where
    by : (z : ℤ) → p z ⊎ q z → ⊥
    by z (inl h) = first z h
    by z (inr h) = second z h
least_both p q None (Some y) first second = record { there = inr second.there; below = by }
  where
    by : (z : ℤ) → p z ⊎ q z → y ≤ℤ z
    by z (inl h) = absurd (first z h)
    by z (inr h) = second.below z h
least_both p q (Some x) None first second = record { there = inl first.there; below = by }
  where
    by : (z : ℤ) → p z ⊎ q z → x ≤ℤ z
    by z (inl h) = first.below z h
    by z (inr h) = absurd (second z h)
least_both p q (Some x) (Some y) first second = by (int_lt y x) refl
  where
    second_below : int_lt y x ≡ true → (z : ℤ) → p z ⊎ q z → y ≤ℤ z
    second_below less z (inl h) = let from = first.below z h in omega (arith, signed_arith, less, from)
    second_below less z (inr h) = second.below z h

    first_below : int_lt y x ≡ false → (z : ℤ) → p z ⊎ q z → x ≤ℤ z
    first_below more z (inl h) = first.below z h
    first_below more z (inr h) = let from = second.below z h in omega (arith, signed_arith, more, from)

    by : (less : Bool) → int_lt y x ≡ less → IsLeastOf (λ z. p z ⊎ q z) (if less then Some y else Some x)
    by true less = record { there = inr second.there; below = second_below less }
    by false more = record { there = inl first.there; below = first_below more }

-- One of these gives the moment.
pub record GivenBy {A : Type 0} (gives : A → Option ℤ) (xs : List A) (z : ℤ) : Type 0 where
  pub one : A
  pub inside : IsIn xs one
  pub given : gives one ≡ Some z

given_first : {A : Type 0} → (gives : A → Option ℤ) (x : A) (xs : List A) (z : ℤ) → (gives x ≡ Some z) ⊎ GivenBy gives xs z → GivenBy gives (x ∷ xs) z
given_first gives x xs z (inl h) = record { one = x; inside = inl refl; given = h }
given_first gives x xs z (inr h) = record { one = h.one; inside = inr h.inside; given = h.given }

first_given : {A : Type 0} → (gives : A → Option ℤ) (x : A) (xs : List A) (z : ℤ) → GivenBy gives (x ∷ xs) z → (gives x ≡ Some z) ⊎ GivenBy gives xs z
first_given {A = A} gives x xs z h = by h.one h.inside h.given
  where
    by : (y : A) → IsIn (x ∷ xs) y → gives y ≡ Some z → (gives x ≡ Some z) ⊎ GivenBy gives xs z
    by y (inl same) given = inl (ap gives same ∙ given)
    by y (inr there) given = inr (record { one = y; inside = there; given = given })

pub earliest_least : {A : Type 0} → (gives : A → Option ℤ) (xs : List A) → IsLeastOf (GivenBy gives xs) (earliest_of gives xs)
earliest_least gives [] = λ z h. h.inside
earliest_least gives (x ∷ xs) =
    least_alike (λ z. (gives x ≡ Some z) ⊎ GivenBy gives xs z) (GivenBy gives (x ∷ xs)) (earlier (gives x) (earliest_of gives xs))
    (given_first gives x xs) (first_given gives x xs)
    (least_both (λ z. gives x ≡ Some z) (GivenBy gives xs) (gives x) (earliest_of gives xs) (least_one (gives x)) (earliest_least gives xs))
