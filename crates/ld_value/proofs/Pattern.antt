-- Texts that follow a pattern.
use Rattle.std.proofs.Common.{◌≡◌, ◌≢◌, ℕ, List, [], ◌∷◌, ◌+◌, ◌<◌, true, false, refl, sym, arith, length, take, drop, get_or, zero, suc, ◌&&◌, add-one, drop-cons, replicate, ◌==◌}
use Rattle.std.proofs.lemmas.Grind.{common_steps}
use Rattle.std.proofs.lemmas.Bool.Decides.{nat_tests}
use Rattle.std.specs.Str.{all_ascii_digits}
use Rattle.std.specs.Char.{is_ascii_digit}
use Rattle.ld_value.proofs.Choices.{and_left, and_right, both}
use Rattle.ld_value.specs.Calendar.{follows, stands_for, has_moment_form, moment_pattern}

-- a text that follows a pattern is as long
pub length-follows : (ps bs : List ℕ) → follows ps bs ≡ true → length ps ≡ length bs
length-follows [] [] h = refl
length-follows [] (b ∷ bs) h = absurd (cc)
length-follows (p ∷ ps) [] h = absurd (cc)
length-follows (p ∷ ps) (b ∷ bs) h = grind (arith, common_steps, length-follows ps bs)

pub not_follows : (ps bs : List ℕ) → length bs ≢ length ps → false ≡ follows ps bs
not_follows [] [] h = absurd (h refl)
not_follows [] (b ∷ bs) h = refl
not_follows (p ∷ ps) [] h = refl
not_follows (p ∷ ps) (b ∷ bs) h = grind (arith, common_steps, not_follows ps bs)

-- one byte further
pub follows-step : (ps bs : List ℕ) (i : ℕ) → i < length ps → length bs ≡ length ps → follows (drop i ps) (drop i bs) ≡ (stands_for (get_or ps i 0) (get_or bs i 0) && follows (drop (i + 1) ps) (drop (i + 1) bs))
follows-step ps bs i below same = rw (add-one, drop-cons ps i 0 below, drop-cons bs i 0 (omega arith)) refl

follows-drop : (ps bs : List ℕ) (k : ℕ) → follows ps bs ≡ true → follows (drop k ps) (drop k bs) ≡ true
follows-drop ps bs zero h = h
follows-drop [] [] (suc k) h = refl
follows-drop [] (b ∷ bs) (suc k) h = absurd (cc)
follows-drop (p ∷ ps) [] (suc k) h = absurd (cc)
follows-drop (p ∷ ps) (b ∷ bs) (suc k) h = follows-drop ps bs k (and_right (stands_for p b) _ h)

follows-take : (ps bs : List ℕ) (k : ℕ) → follows ps bs ≡ true → follows (take k ps) (take k bs) ≡ true
follows-take ps bs zero h = refl
follows-take [] [] (suc k) h = refl
follows-take [] (b ∷ bs) (suc k) h = absurd (cc)
follows-take (p ∷ ps) [] (suc k) h = absurd (cc)
follows-take (p ∷ ps) (b ∷ bs) (suc k) h = both (stands_for p b) _ (and_left (stands_for p b) _ h) (follows-take ps bs k (and_right (stands_for p b) _ h))

-- where the pattern has only zeros the text has only digits
digits-zeros : (n : ℕ) (bs : List ℕ) → follows (replicate n 48) bs ≡ true → all_ascii_digits bs ≡ true
digits-zeros zero [] h = refl
digits-zeros zero (b ∷ bs) h = absurd (cc)
digits-zeros (suc n) [] h = refl
digits-zeros (suc n) (b ∷ bs) h = both (is_ascii_digit b) _ (and_left (is_ascii_digit b) _ h) (digits-zeros n bs (and_right (is_ascii_digit b) _ h))

pub digits_in_part : (ps bs : List ℕ) (from count : ℕ) → follows ps bs ≡ true → take count (drop from ps) ≡ replicate count 48 → all_ascii_digits (take count (drop from bs)) ≡ true
digits_in_part ps bs from count h zeros =
    digits-zeros count _ (rw zeros at (follows-take (drop from ps) (drop from bs) count (follows-drop ps bs from h)))

pub length-moment : (bs : List ℕ) → has_moment_form bs ≡ true → length bs ≡ 20
unfolding has_moment_form
length-moment bs h = sym (length-follows moment_pattern bs h)

pub digits_of_moment : (bs : List ℕ) (from count : ℕ) → has_moment_form bs ≡ true → take count (drop from moment_pattern) ≡ replicate count 48 → all_ascii_digits (take count (drop from bs)) ≡ true
unfolding has_moment_form
digits_of_moment bs from count h zeros = digits_in_part moment_pattern bs from count h zeros

-- where the pattern has a byte that stands for itself the text has it too
own_byte : (p x : ℕ) → p == 48 ≡ false → stands_for p x ≡ true → x ≡ p
own_byte p x h k = grind (arith, nat_tests)

one_byte : (p : ℕ) (xs : List ℕ) → p == 48 ≡ false → follows (p ∷ []) xs ≡ true → xs ≡ p ∷ []
one_byte p [] h k = absurd (cc)
one_byte p (x ∷ []) h k = rw (own_byte p x h (and_left (stands_for p x) _ k)) refl
one_byte p (x ∷ y ∷ zs) h k = absurd (let end = and_right (stands_for p x) _ k in cc)

pub byte_of_moment : (bs : List ℕ) (p from : ℕ) → has_moment_form bs ≡ true → p == 48 ≡ false → take 1 (drop from moment_pattern) ≡ p ∷ [] → take 1 (drop from bs) ≡ p ∷ []
unfolding has_moment_form
byte_of_moment bs p from h plain there =
    one_byte p _ plain (rw there at (follows-take (drop from moment_pattern) (drop from bs) 1 (follows-drop moment_pattern bs from h)))
