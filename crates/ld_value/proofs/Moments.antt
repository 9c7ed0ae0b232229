-- A moment's text read back, and a text that names a moment printed again.
use Rattle.std.proofs.Common.{◌≡◌, ℕ, List, ◌+◌, ◌*◌, ◌/◌, ◌%◌, ◌<◌, ◌≤◌, Bool, true, false, cond, ◌&&◌, refl, sym, ◌∙◌, ap, arith, nat_le, ℤ, pos, ◌+ℤ◌, ◌*ℤ◌, unsigned_abs, Option, Some, None, w64, to_z, of_z, to_z-of_z, FitsSigned}
use Rattle.std.proofs.lemmas.Bool.Decides.{nat_tests}
use Rattle.std.specs.Int.{int_div_euclid, int_rem_euclid, is_in_range}
use Rattle.std.specs.Option.{option_map, IfSome}
use Rattle.jiff_core.specs.Calendar.{days_in_month}
use Rattle.jiff_core.proofs.SignedLemmas.{signed_arith}
use Rattle.jiff_core.proofs.CalendarLemmas.{days_in_month_bounds}
use Rattle.ld_value.specs.Calendar.{moment_of, moment_at, named_day, named_second, day_of, second_of, is_date, has_moment_form, moment_text, text_of_moment, day_and_second_text, year_of, month_of, day_of_month, IsMoment, IsDay}
use Rattle.ld_value.proofs.Choices.{both, and_left, and_right, some_when}
use Rattle.ld_value.proofs.Days.{IsCut, cut_is, cut_once, cut_day}
use Rattle.ld_value.proofs.Printed.{digits_value-in_digits, has_moment_form-moment_text, moment_text-parts}

reads_back : (y m d h n s : ℕ) → y < 10000 → m < 100 → d < 100 → h < 100 → n < 100 → s < 100 → moment_of (moment_text y m d h n s) ≡ moment_at (day_of y m d) (second_of h n s)
unfolding moment_of named_day named_second
reads_back y m d h n s ly lm ld lh ln ls =
    let ey = digits_value-in_digits 4 y ly in
    let em = digits_value-in_digits 2 m lm in
    let ed = digits_value-in_digits 2 d ld in
    let eh = digits_value-in_digits 2 h lh in
    let en = digits_value-in_digits 2 n ln in
    let es = digits_value-in_digits 2 s ls in
    rw (has_moment_form-moment_text y m d h n s, ey, em, ed, eh, en, es) refl

range_test : (low high n : ℕ) → low ≤ n → n ≤ high → is_in_range low high n ≡ true
range_test low high n h k = grind (arith, nat_tests)

range_facts : (low high n : ℕ) → is_in_range low high n ≡ true → (low ≤ n) × (n ≤ high)
range_facts low high n h = (grind (arith, nat_tests), grind (arith, nat_tests))

day_of-cut : (day : ℤ) (y m d : ℕ) → IsCut day y m d → day_of y m d ≡ Some day
unfolding day_of
day_of-cut day y m d h =
    let test : is_date y m d ≡ true = both _ _ (range_test 1 9999 y h.year_first h.year_last) (both _ _ (range_test 1 12 m h.month_first h.month_last) (range_test 1 (days_in_month (pos y) m) d h.day_first h.day_last)) in
    rw test (ap Some h.number)

if_true : {X : Type 0} (b : Bool) (x : X) → b ≡ true → cond b (Some x) None ≡ Some x
if_true true x h = refl
if_true false x h = cc

second_of-parts : (s : ℕ) → s < 86400 → second_of (s / 3600) (s / 60 % 60) (s % 60) ≡ Some s
unfolding second_of
second_of-parts s h =
    let test : nat_le (s / 3600) 23 && (nat_le (s / 60 % 60) 59 && nat_le (s % 60) 59) ≡ true = grind (arith, nat_tests) in
    let sum : 3600 * (s / 3600) + 60 * (s / 60 % 60) + s % 60 ≡ s = omega arith in
    if_true _ _ test ∙ ap Some sum

-- a moment's day and second
parts_of : (z : ℤ) → (pos 86400 *ℤ int_div_euclid z (pos 86400) +ℤ pos (unsigned_abs (int_rem_euclid z (pos 86400))) ≡ z) × (unsigned_abs (int_rem_euclid z (pos 86400)) < 86400)
parts_of z = (omega (arith, signed_arith), omega (arith, signed_arith))

parts_once : (z day : ℤ) (second : ℕ) → z ≡ pos 86400 *ℤ day +ℤ pos second → second < 86400 → (int_div_euclid z (pos 86400) ≡ day) × (unsigned_abs (int_rem_euclid z (pos 86400)) ≡ second)
parts_once z day second e h = (omega (arith, signed_arith), omega (arith, signed_arith))

day_is : (z : ℤ) → IsMoment z → IsDay (int_div_euclid z (pos 86400))
day_is z h = (omega (arith, signed_arith), omega (arith, signed_arith))

-- the text of a moment names it
pub moment_of-text_of_moment : (z : ℤ) → IsMoment z → moment_of (text_of_moment z) ≡ Some z
unfolding text_of_moment day_and_second_text
moment_of-text_of_moment z h =
    let day = int_div_euclid z (pos 86400) in
    let s = unsigned_abs (int_rem_euclid z (pos 86400)) in
    let cut = cut_is day (day_is z h) in
    let long = days_in_month_bounds (pos (year_of day)) (month_of day) in
    let parts = parts_of z in
    let back = reads_back (year_of day) (month_of day) (day_of_month day) (s / 3600) (s / 60 % 60) (s % 60) (omega arith) (omega arith) (omega arith) (omega arith) (omega arith) (omega arith) in
    back ∙ rw (day_of-cut day _ _ _ cut, second_of-parts s parts.1) (ap Some parts.0)

-- ---- from a text that names a moment

-- the parts of a text that names the moment z
record IsNamed (text : List ℕ) (z : ℤ) : Type 0 where
  form : has_moment_form text ≡ true
  day : ℤ
  second : ℕ
  on_day : named_day text ≡ Some day
  at_second : named_second text ≡ Some second
  sum : pos 86400 *ℤ day +ℤ pos second ≡ z

named_from : (b : Bool) (p : Option ℤ) (q : Option ℕ) (z : ℤ) → cond b (moment_at p q) None ≡ Some z
    → (b ≡ true) × ((day : ℤ) × (second : ℕ) × (p ≡ Some day) × (q ≡ Some second) × (pos 86400 *ℤ day +ℤ pos second ≡ z))
named_from false p q z h = absurd (cc)
named_from true None q z h = absurd (cc)
named_from true (Some day) None z h = absurd (cc)
named_from true (Some day) (Some second) z h = (refl, (day, second, refl, refl, cc))

named : (text : List ℕ) (z : ℤ) → moment_of text ≡ Some z → IsNamed text z
unfolding moment_of
named text z h =
    let parts = named_from (has_moment_form text) (named_day text) (named_second text) z h in
    record { form = parts.0; day = parts.1.0; second = parts.1.1; on_day = parts.1.2; at_second = parts.1.3; sum = parts.1.4 }

cut-day_of : (day : ℤ) (y m d : ℕ) → day_of y m d ≡ Some day → IsCut day y m d
unfolding day_of
cut-day_of day y m d h =
    let both = some_when (is_date y m d) _ _ h in
    let year = range_facts 1 9999 y (and_left _ _ both.0) in
    let rest = and_right (is_in_range 1 9999 y) _ both.0 in
    let month = range_facts 1 12 m (and_left _ _ rest) in
    let place = range_facts 1 (days_in_month (pos y) m) d (and_right (is_in_range 1 12 m) _ rest) in
    record { year_first = year.0; year_last = year.1; month_first = month.0; month_last = month.1; day_first = place.0; day_last = place.1; number = both.1 }

clock : (h n s second : ℕ) → second_of h n s ≡ Some second → (second < 86400) × (second / 3600 ≡ h) × (second / 60 % 60 ≡ n) × (second % 60 ≡ s)
unfolding second_of
clock h n s second e =
    let both = some_when (nat_le h 23 && (nat_le n 59 && nat_le s 59)) _ _ e in
    let hours : h ≤ 23 = grind (arith, nat_tests) in
    let minutes : n ≤ 59 = grind (arith, nat_tests) in
    let seconds : s ≤ 59 = grind (arith, nat_tests) in
    (omega arith, omega arith, omega arith, omega arith)

pub text_of_moment-moment_of : (text : List ℕ) (z : ℤ) → moment_of text ≡ Some z → text_of_moment z ≡ text
unfolding text_of_moment day_and_second_text named_day named_second
text_of_moment-moment_of text z h =
    let is = named text z h in
    let cut = cut-day_of is.day _ _ _ is.on_day in
    let time = clock _ _ _ is.second is.at_second in
    let again = parts_once z is.day is.second (sym is.sum) time.0 in
    let same = cut_once is.day _ _ _ _ _ _ (cut_is is.day (cut_day is.day _ _ _ cut)) cut in
    rw (again.0, again.1, same.0, same.1, same.2, time.1, time.2, time.3) (moment_text-parts text is.form)

-- and lies in the years that a text can name
pub IsMoment-moment_of : (text : List ℕ) (z : ℤ) → moment_of text ≡ Some z → IsMoment z
unfolding named_day named_second
IsMoment-moment_of text z h =
    let is = named text z h in
    let cut = cut-day_of is.day _ _ _ is.on_day in
    let time = clock _ _ _ is.second is.at_second in
    let day = cut_day is.day _ _ _ cut in
    (omega (arith, signed_arith, is.sum, time.0, day.0, day.1), omega (arith, signed_arith, is.sum, time.0, day.0, day.1))

-- the same of a value that was read
pub IsMoment-read : {X : Type 0} (seconds : X → ℤ) (text : List ℕ) (r : Option X) → option_map seconds r ≡ moment_of text → IfSome r (λ m. IsMoment (seconds m))
IsMoment-read seconds text None h = tt
IsMoment-read seconds text (Some m) h = IsMoment-moment_of text (seconds m) (sym h)

pub text_of_moment-read : {X : Type 0} (seconds : X → ℤ) (text : List ℕ) (r : Option X) → option_map seconds r ≡ moment_of text → IfSome r (λ m. text_of_moment (seconds m) ≡ text)
text_of_moment-read seconds text None h = tt
text_of_moment-read seconds text (Some m) h = text_of_moment-moment_of text (seconds m) (sym h)

-- the same where the code's numbers go through 64 bits
pub printed : (z day rem : ℤ) (y m d : ℕ) → IsMoment z
    → day ≡ int_div_euclid (to_z w64 (of_z w64 z)) (pos 86400) → rem ≡ int_rem_euclid (to_z w64 (of_z w64 z)) (pos 86400)
    → y ≡ year_of (to_z w64 (of_z w64 day)) → m ≡ month_of (to_z w64 (of_z w64 day)) → d ≡ day_of_month (to_z w64 (of_z w64 day))
    → (second : ℕ) → second ≡ unsigned_abs (to_z w64 (of_z w64 rem)) → moment_text y m d (second / 3600) (second / 60 % 60) (second % 60) ≡ text_of_moment z
unfolding text_of_moment day_and_second_text
printed z day rem y m d h ed er ey em edd second es =
    let fz : FitsSigned w64 z = omega (arith, signed_arith) in
    let cast : to_z w64 (of_z w64 z) ≡ z = to_z-of_z fz in
    let day_here : day ≡ int_div_euclid z (pos 86400) = rw cast at ed in
    let rem_here : rem ≡ int_rem_euclid z (pos 86400) = rw cast at er in
    let fd : FitsSigned w64 (int_div_euclid z (pos 86400)) = omega (arith, signed_arith) in
    let fr : FitsSigned w64 (int_rem_euclid z (pos 86400)) = omega (arith, signed_arith) in
    let day_cast : to_z w64 (of_z w64 day) ≡ int_div_euclid z (pos 86400) = rw day_here (to_z-of_z fd) in
    let rem_cast : to_z w64 (of_z w64 rem) ≡ int_rem_euclid z (pos 86400) = rw rem_here (to_z-of_z fr) in
    let s_is : second ≡ unsigned_abs (int_rem_euclid z (pos 86400)) = es ∙ ap unsigned_abs rem_cast in
    rw (ey, em, edd, s_is, day_cast) refl
