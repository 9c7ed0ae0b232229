-- A text has the parts of a duration exactly where it is the text of those parts.
use Rattle.std.proofs.Common.{◌≡◌, ℕ, List, [], ◌∷◌, ◌++◌, ◌<◌, ◌≤◌, true, false, ◌&&◌, ◌||◌, ◌==◌, ◌⊎◌, ◌↔◌, inl, inr, refl, sym, ◌∙◌, ap, arith, length, ◌^◌, ◌/◌, ◌%◌, take, drop, codes, append_assoc, Option, Some, None, is_some}
use Rattle.std.specs.Str.{all_ascii_digits}
use Rattle.std.specs.Char.{is_ascii_digit}
use Rattle.std.specs.Fmt.{decimal}
use Rattle.ld_value.proofs.Numerals.{is_numeral-decimal, digits_value_decimal}
use Rattle.std.specs.Option.{option_and_then, IfSome}
use Rattle.std.proofs.lemmas.Bool.Decides.{nat_tests}
use Rattle.std.proofs.lemmas.List.{take-append-drop, append-nil}
use Rattle.std.proofs.Math.Seq.{drop-append_seam, take-append_seam}
use Rattle.ld_value.proofs.Choices.{bool_cases, both, and_left, and_right, some_when, when_so, eq_self, eq_from, le_from, le_test, above_zero}
use Rattle.ld_value.specs.Duration.{Parts, part_text, time_text, has_time, duration_text, is_part, has_numerals, is_duration, seconds_of, seconds_if, IsDuration, digit_count, begins_with, front_part, time_in, time_after, parts_in, duration_of, shown, span_parts, span_text, part_number}

-- what follows the digits at the front
abbrev lead : List ℕ → List ℕ
lead text = drop (digit_count text) text

front_given : (letter : ℕ) (text : List ℕ) → begins_with letter (lead text) ≡ true → front_part letter text ≡ (Some (take (digit_count text) text), drop 1 (lead text))
unfolding front_part
front_given letter text h = rw h refl

front_absent : (letter : ℕ) (text : List ℕ) → begins_with letter (lead text) ≡ false → front_part letter text ≡ (None, text)
unfolding front_part
front_absent letter text h = rw h refl

-- ---- the parts that were found make up the text

begins_is : (letter : ℕ) (text : List ℕ) → begins_with letter text ≡ true → text ≡ letter ∷ drop 1 text
begins_is letter [] h = absurd (cc)
begins_is letter (b ∷ bs) h = let same : b ≡ letter = grind (arith, nat_tests) in rw same refl

made : (letter : ℕ) (text : List ℕ) → begins_with letter (lead text) ≡ true → text ≡ (take (digit_count text) text ++ letter ∷ []) ++ drop 1 (lead text)
made letter text h =
    rw append_assoc (rw (← begins_is letter (lead text) h) (sym (take-append-drop (digit_count text) text)))

front_makes : (letter : ℕ) (text : List ℕ) → text ≡ part_text letter (front_part letter text).0 ++ (front_part letter text).1
front_makes letter text =
    elim (bool_cases (begins_with letter (lead text))) [
      | inl there ↦ rw (front_given letter text there) (made letter text there)
      | inr absent ↦ rw (front_absent letter text absent) refl
    ]

-- ---- the text of parts has those parts

all_digits_front : (ds : List ℕ) (letter : ℕ) (rest : List ℕ) → all_ascii_digits ds ≡ true → is_ascii_digit letter ≡ false → digit_count (ds ++ letter ∷ rest) ≡ length ds
all_digits_front [] letter rest h k = rw k refl
all_digits_front (d ∷ ds) letter rest h k =
    let first = and_left (is_ascii_digit d) _ h in
    let later = all_digits_front ds letter rest (and_right (is_ascii_digit d) _ h) k in
    rw first (omega (arith, later))

front_there : (letter : ℕ) (ds rest : List ℕ) → all_ascii_digits ds ≡ true → is_ascii_digit letter ≡ false → front_part letter (part_text letter (Some ds) ++ rest) ≡ (Some ds, rest)
front_there letter ds rest h k =
    let count = all_digits_front ds letter rest h k in
    let found : lead (ds ++ letter ∷ rest) ≡ letter ∷ rest = rw count (drop-append_seam ds (letter ∷ rest)) in
    let begins : begins_with letter (lead (ds ++ letter ∷ rest)) ≡ true = rw found (eq_self letter) in
    rw append_assoc (rw (front_given letter (ds ++ letter ∷ rest) begins, found, count, take-append_seam ds (letter ∷ rest)) refl)

-- the digits at the front of a part that is there come before its letter
lead_there : (letter : ℕ) (ds rest : List ℕ) → all_ascii_digits ds ≡ true → is_ascii_digit letter ≡ false → lead (part_text letter (Some ds) ++ rest) ≡ letter ∷ rest
lead_there letter ds rest h k = rw append_assoc (rw (all_digits_front ds letter rest h k) (drop-append_seam ds (letter ∷ rest)))

-- no part with a letter is at the front, where another's is and none after it
lead_other : (letter other : ℕ) (q : Option (List ℕ)) (rest : List ℕ) → is_part q ≡ true → is_ascii_digit other ≡ false → other == letter ≡ false → begins_with letter (lead rest) ≡ false → begins_with letter (lead (part_text other q ++ rest)) ≡ false
lead_other letter other None rest h k apart absent = absent
lead_other letter other (Some ds) rest h k apart absent = rw (lead_there other ds rest (and_left (all_ascii_digits ds) _ h) k) apart

front_of : (letter : ℕ) (q : Option (List ℕ)) (rest : List ℕ) → is_part q ≡ true → is_ascii_digit letter ≡ false → begins_with letter (lead rest) ≡ false → front_part letter (part_text letter q ++ rest) ≡ (q, rest)
front_of letter None rest h k absent = front_absent letter rest absent
front_of letter (Some ds) rest h k absent = front_there letter ds rest (and_left (all_ascii_digits ds) _ h) k

time_in_makes : (p : Parts) → has_numerals p ≡ true → has_time p ≡ true → time_in p.days (part_text 72 p.hours ++ (part_text 77 p.minutes ++ (part_text 83 p.seconds ++ []))) ≡ Some p
unfolding time_in
time_in_makes p h some =
    let rest = and_right (is_part p.days) _ h in
    let later = and_right (is_part p.hours) _ rest in
    let hours = and_left (is_part p.hours) _ rest in
    let minutes = and_left (is_part p.minutes) _ later in
    let seconds = and_right (is_part p.minutes) _ later in
    let third = part_text 83 p.seconds ++ [] in
    let second = part_text 77 p.minutes ++ third in
    let no_minutes : begins_with 77 (lead third) ≡ false = lead_other 77 83 p.seconds [] seconds refl refl refl in
    let no_hours_third : begins_with 72 (lead third) ≡ false = lead_other 72 83 p.seconds [] seconds refl refl refl in
    let no_hours : begins_with 72 (lead second) ≡ false = lead_other 72 77 p.minutes third minutes refl refl no_hours_third in
    rw (front_of 72 p.hours second hours refl no_hours, front_of 77 p.minutes third minutes refl no_minutes, front_of 83 p.seconds [] seconds refl refl, some) refl

times_joined : (h m s : List ℕ) → h ++ m ++ s ≡ h ++ (m ++ (s ++ []))
times_joined h m s = rw (append-nil s) (append_assoc h m s)

no_lead_time : (p : Parts) → begins_with 68 (lead (time_text p)) ≡ false
no_lead_time p =
    elim (bool_cases (has_time p)) [
      | inl some ↦ rw some refl
      | inr none_there ↦ rw none_there refl
    ]

none_of : (h m s : Option (List ℕ)) → is_some h || (is_some m || is_some s) ≡ false → (h ≡ None) × (m ≡ None) × (s ≡ None)
none_of None None None e = (refl, refl, refl)
none_of None None (Some s) e = absurd (cc)
none_of None (Some m) s e = absurd (cc)
none_of (Some h) m s e = absurd (cc)

abbrev parts : Option (List ℕ) → Option (List ℕ) → Option (List ℕ) → Option (List ℕ) → Parts
parts d h m s = record { days = d; hours = h; minutes = m; seconds = s }

same_parts : (d h m s : Option (List ℕ)) → h ≡ None → m ≡ None → s ≡ None → Some (parts d None None None) ≡ Some (parts d h m s)
same_parts d h m s eh em es = rw (eh, em, es) refl

days_only : (p : Parts) → has_time p ≡ false → Some (parts p.days None None None) ≡ Some p
days_only p e =
    let absent = none_of p.hours p.minutes p.seconds e in
    same_parts p.days p.hours p.minutes p.seconds absent.0 absent.1 absent.2

time_after_makes : (p : Parts) → has_numerals p ≡ true → time_after p.days (time_text p) ≡ Some p
time_after_makes p h =
    elim (bool_cases (has_time p)) [
      | inl some ↦ rw some (rw (times_joined (part_text 72 p.hours) (part_text 77 p.minutes) (part_text 83 p.seconds)) (time_in_makes p h some))
      | inr none_there ↦ rw none_there (days_only p none_there)
    ]

parts_in_makes : (p : Parts) → has_numerals p ≡ true → parts_in (duration_text p) ≡ Some p
parts_in_makes p h =
    rw (front_of 68 p.days (time_text p) (and_left (is_part p.days) _ h) refl (no_lead_time p)) (time_after_makes p h)

-- ---- and the other way round

both_empty : (s : List ℕ) → length s == 0 ≡ true → s ≡ []
both_empty [] h = refl
both_empty (b ∷ bs) h = absurd (grind (arith, nat_tests))

-- the parts that were found below the days, and that they are all that there is
record IsTime (days : Option (List ℕ)) (text : List ℕ) (p : Parts) : Type 0 where
  same_days : p.days ≡ days
  some : has_time p ≡ true
  form : text ≡ part_text 72 p.hours ++ part_text 77 p.minutes ++ part_text 83 p.seconds

three : (text h r m r2 s r3 : List ℕ) → text ≡ h ++ r → r ≡ m ++ r2 → r2 ≡ s ++ r3 → r3 ≡ [] → text ≡ h ++ m ++ s
three text h r m r2 s r3 e1 e2 e3 e4 = rw (e1, e2, e3, e4, append-nil s) (sym (append_assoc h m s))

time_from : (days : Option (List ℕ)) (text : List ℕ) (p : Parts) → time_in days text ≡ Some p → IsTime days text p
unfolding time_in
time_from days text p h =
    let first = front_part 72 text in
    let second = front_part 77 first.1 in
    let third = front_part 83 second.1 in
    let q : Parts = record { days = days; hours = first.0; minutes = second.0; seconds = third.0 } in
    let found = some_when ((length third.1 == 0) && has_time q) q p h in
    let form : text ≡ part_text 72 q.hours ++ part_text 77 q.minutes ++ part_text 83 q.seconds =
    three text _ first.1 _ second.1 _ third.1 (front_makes 72 text) (front_makes 77 first.1) (front_makes 83 second.1) (both_empty third.1 (and_left _ _ found.0)) in
    rw (← found.1) (record { same_days = refl; some = and_right (length third.1 == 0) _ found.0; form = form })

after_from : (days : Option (List ℕ)) (text : List ℕ) (p : Parts) → time_after days text ≡ Some p → (p.days ≡ days) × (text ≡ time_text p)
after_from days [] p h = let same : parts days None None None ≡ p = cc in rw (← same) (refl, refl)
after_from days (b ∷ rest) p h =
    let found = when_so (b == 84) (time_in days rest) p h in
    let is = time_from days rest p found.1 in
    (is.same_days, rw (eq_from b 84 found.0, is.some, is.form) refl)

parts_from : (text : List ℕ) (p : Parts) → parts_in text ≡ Some p → text ≡ duration_text p
parts_from [] p h = absurd (cc)
parts_from (b ∷ rest) p h =
    let d = front_part 68 rest in
    let found = when_so (b == 80) (time_after d.0 d.1) p h in
    let is = after_from d.0 d.1 p found.1 in
    rw (eq_from b 80 found.0, is.0) (ap (λ t. 80 ∷ t) (front_makes 68 rest ∙ ap (λ t. part_text 68 d.0 ++ t) is.1))

numerals_of : (p : Parts) → is_duration p ≡ true → has_numerals p ≡ true
unfolding is_duration
numerals_of p h = and_left (has_numerals p) _ (and_right (is_some p.days || has_time p) _ h)

-- a text of the form has its seconds
pub duration_of-is : (text : List ℕ) (n : ℕ) → IsDuration text n → duration_of text ≡ Some n
unfolding duration_of seconds_if
duration_of-is text n h = rw (h.form, parts_in_makes h.parts (numerals_of h.parts h.fits), h.fits, h.number) refl

through : (o : Option Parts) (n : ℕ) → option_and_then seconds_if o ≡ Some n → (p : Parts) × (o ≡ Some p) × (is_duration p ≡ true) × (seconds_of p ≡ n)
unfolding seconds_if
through None n h = absurd (cc)
through (Some p) n h = let found = some_when (is_duration p) (seconds_of p) n h in (p, refl, found.0, found.1)

-- and a text with seconds has the form
pub is-duration_of : (text : List ℕ) (n : ℕ) → duration_of text ≡ Some n → IsDuration text n
unfolding duration_of
is-duration_of text n h =
    let found = through (parts_in text) n h in
    record { parts = found.0; form = parts_from text found.0 found.1; fits = found.2; number = sym found.3 }

-- ---- a printed span

pub shown_cases : (n : ℕ) → ((n ≡ 0) × (shown n ≡ None)) ⊎ ((0 < n) × (shown n ≡ Some (decimal n)))
shown_cases n =
    elim (bool_cases (n == 0)) [
      | inl absent ↦ inl (eq_from n 0 absent, rw absent refl)
      | inr there ↦ inr (above_zero n there, rw there refl)
    ]

shown_is_part : (n : ℕ) → n < 10 ^ 12 → is_part (shown n) ≡ true
shown_is_part n h =
    elim (shown_cases n) [
      | inl (same, e) ↦ rw e refl
      | inr (some, e) ↦ rw e (is_numeral-decimal 12 n (omega arith) h (omega arith))
    ]

shown_number : (n : ℕ) → n < 2 ^ 64 → part_number (shown n) ≡ n
shown_number n h =
    elim (shown_cases n) [
      | inl (same, e) ↦ rw e (sym same)
      | inr (some, e) ↦ rw e (digits_value_decimal n h)
    ]

some_not_none : (xs : List ℕ) → Some xs ≡ None → ⊥
some_not_none xs h = cc

shown_none : (n : ℕ) → shown n ≡ None → n ≡ 0
shown_none n h =
    elim (shown_cases n) [
      | inl (same, e) ↦ same
      | inr (some, e) ↦ absurd (let clash = sym e ∙ h in some_not_none _ clash)
    ]

none_at_all : (d h m s : Option (List ℕ)) → is_some d || (is_some h || (is_some m || is_some s)) ≡ false → (d ≡ None) × (h ≡ None) × (m ≡ None) × (s ≡ None)
none_at_all None h m s e = let rest = none_of h m s e in (refl, rest.0, rest.1, rest.2)
none_at_all (Some d) h m s e = absurd (cc)

part_shown : (n : ℕ) → 0 < n → is_some (span_parts n).days || has_time (span_parts n) ≡ true
part_shown n h =
    elim (bool_cases (is_some (span_parts n).days || has_time (span_parts n))) [
      | inl some ↦ some
      | inr absent ↦
          let each = none_at_all (shown (n / 86400)) (shown (n / 3600 % 24)) (shown (n / 60 % 60)) (shown (n % 60)) absent in
          absurd (omega (arith, shown_none _ each.0, shown_none _ each.1, shown_none _ each.2, shown_none _ each.3))
    ]

seconds_of-span_parts : (n : ℕ) → n ≤ 999999999999 → seconds_of (span_parts n) ≡ n
unfolding seconds_of
seconds_of-span_parts n h =
    rw (shown_number (n / 86400) (omega arith), shown_number (n / 3600 % 24) (omega arith), shown_number (n / 60 % 60) (omega arith), shown_number (n % 60) (omega arith))
    (omega arith)

is_duration-span_parts : (n : ℕ) → 0 < n → n ≤ 999999999999 → is_duration (span_parts n) ≡ true
unfolding is_duration
is_duration-span_parts n some h =
    both _ _ (part_shown n some)
    (both _ _ (both _ _ (shown_is_part (n / 86400) (omega arith)) (both _ _ (shown_is_part (n / 3600 % 24) (omega arith)) (both _ _ (shown_is_part (n / 60 % 60) (omega arith)) (shown_is_part (n % 60) (omega arith)))))
    (le_test _ _ (omega (arith, seconds_of-span_parts n h))))

zero_span : duration_of (codes "PT0S") ≡ Some 0
unfolding duration_of front_part time_in seconds_if is_duration seconds_of
zero_span = refl

some_span : (n : ℕ) → 0 < n → n ≤ 999999999999 → duration_of (duration_text (span_parts n)) ≡ Some n
some_span n some h =
    duration_of-is (duration_text (span_parts n)) n
    (record { parts = span_parts n; form = refl; fits = is_duration-span_parts n some h; number = sym (seconds_of-span_parts n h) })

pub duration_of-span_text : (n : ℕ) → n ≤ 999999999999 → duration_of (span_text n) ≡ Some n
unfolding span_text
duration_of-span_text n h =
    elim (bool_cases (n == 0)) [
      | inl absent ↦ rw (eq_from n 0 absent) zero_span
      | inr there ↦ rw there (some_span n (above_zero n there) h)
    ]

-- a duration is no longer than that
pub span-duration_of : (text : List ℕ) (n : ℕ) → duration_of text ≡ Some n → n ≤ 999999999999
unfolding duration_of is_duration
span-duration_of text n h =
    let found = through (parts_in text) n h in
    let short = and_right (has_numerals found.0) _ (and_right (is_some found.0.days || has_time found.0) _ found.2) in
    omega (arith, le_from _ _ short, found.3)

-- of a duration that was read
pub span-read : (text : List ℕ) (r : Option ℕ) → r ≡ duration_of text → IfSome r (λ n. n ≤ 999999999999)
span-read text None h = tt
span-read text (Some n) h = span-duration_of text n (sym h)

pub form-read : (text : List ℕ) (r : Option ℕ) → r ≡ duration_of text → (n : ℕ) → (r ≡ Some n) ↔ IsDuration text n
form-read text r h n = (λ there. is-duration_of text n (sym h ∙ there), λ is. h ∙ duration_of-is text n is)
