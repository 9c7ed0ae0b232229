-- The digits of a number, put before a text from the last one on.
use Rattle.std.proofs.Common.{◌≡◌, ℕ, List, [], ◌∷◌, ◌++◌, ◌+◌, ◌/◌, ◌%◌, ◌<◌, ◌≤◌, ◌^◌, refl, sym, ◌∙◌, ap, arith, length, length-append, append_assoc}
use Rattle.std.specs.Fmt.{decimal}
use Rattle.std.proofs.lemmas.Fmt.{decimal_step, decimal_digit, decimal_nonempty, length-decimal-le}

-- while digits are left, the text has room
pub room_left : (n rest : ℕ) (text now : List ℕ) → rest < 2 ^ 64 → decimal n ++ text ≡ decimal rest ++ now → length (decimal n) + length text ≤ 32 → length now < 32
room_left n rest text now fits same room =
    omega (arith, simp length-append at (ap length same), decimal_nonempty rest fits)

pub digit_put : (n rest : ℕ) (text now new : List ℕ) → rest < 2 ^ 64 → 10 ≤ rest → decimal n ++ text ≡ decimal rest ++ now → new ≡ (48 + rest % 10) ∷ now → decimal n ++ text ≡ decimal (rest / 10) ++ new
digit_put n rest text now new fits more same put =
    same ∙ rw (decimal_step rest more fits, put) (append_assoc (decimal (rest / 10)) ((48 + rest % 10) ∷ []) now)

pub last_put : (n rest : ℕ) (text now new : List ℕ) → rest < 10 → decimal n ++ text ≡ decimal rest ++ now → new ≡ (48 + rest) ∷ now → new ≡ decimal n ++ text
last_put n rest text now new few same put = put ∙ sym (same ∙ rw (decimal_digit rest few) refl)

-- the length of a part with its letter put and then its digits
pub part_long : (n letter most : ℕ) (text mid new : List ℕ) → 0 < most → n < 10 ^ most → n < 2 ^ 64 → mid ≡ letter ∷ text → new ≡ decimal n ++ mid → length new ≤ length text + (most + 1)
part_long n letter most text mid new some below fits put printed =
    omega (arith, ap length put, simp length-append at (ap length printed), length-decimal-le most n some below fits)
