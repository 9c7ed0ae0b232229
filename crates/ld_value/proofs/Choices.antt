-- Tests, and choices by them.
use Rattle.std.proofs.Common.{◌≡◌, ℕ, Bool, true, false, cond, ◌&&◌, ◌==◌, nat_le, ◌<◌, ◌≤◌, ◌⊎◌, inl, inr, refl, arith, Option, Some, None}
use Rattle.std.proofs.lemmas.Bool.Decides.{nat_tests}

pub and_left : (a b : Bool) → a && b ≡ true → a ≡ true
and_left a b h = grind arith

pub and_right : (a b : Bool) → a && b ≡ true → b ≡ true
and_right a b h = grind arith

pub both : (a b : Bool) → a ≡ true → b ≡ true → a && b ≡ true
both a b h k = grind arith

pub bool_cases : (b : Bool) → (b ≡ true) ⊎ (b ≡ false)
bool_cases true = inl refl
bool_cases false = inr refl

-- a choice that gave a value was made by its test
pub some_when : {X : Type 0} (b : Bool) (x y : X) → cond b (Some x) None ≡ Some y → (b ≡ true) × (x ≡ y)
some_when true x y h = (refl, cc)
some_when false x y h = absurd (cc)

pub when_so : {X : Type 0} (b : Bool) (o : Option X) (y : X) → cond b o None ≡ Some y → (b ≡ true) × (o ≡ Some y)
when_so true o y h = (refl, h)
when_so false o y h = absurd (cc)

pub eq_self : (n : ℕ) → n == n ≡ true
eq_self n = grind (arith, nat_tests)

pub eq_from : (a b : ℕ) → a == b ≡ true → a ≡ b
eq_from a b h = grind (arith, nat_tests)

pub le_from : (a b : ℕ) → nat_le a b ≡ true → a ≤ b
le_from a b h = grind (arith, nat_tests)

pub le_test : (a b : ℕ) → a ≤ b → nat_le a b ≡ true
le_test a b h = grind (arith, nat_tests)

pub above_zero : (n : ℕ) → n == 0 ≡ false → 0 < n
above_zero n h = grind (arith, nat_tests)

pub not_zero : (n : ℕ) → 0 < n → n == 0 ≡ false
not_zero n h = grind (arith, nat_tests)
