-- A value that is no text is printed without a character that JSON escapes.
use Rattle.std.proofs.Common.{◌≡◌, refl, sym, ◌∙◌, ap, append_assoc, Some, None, ℕ, zero, suc, List, [], ◌∷◌, ◌++◌, ◌+◌, ◌/◌, ◌%◌, ◌==◌, Bool, true, false, cond, ℤ, pos, negsuc, arith, codes}
use Rattle.std.specs.Fmt.{decimal, digit_glyph, digits, digits_onto, signed_decimal}
use Rattle.std.proofs.lemmas.Bool.{and_from, cond_both, true≢false}
use Rattle.std.proofs.lemmas.List.Folds.{list_all-append}
use Rattle.ld_json.specs.Plain.{is_plain, is_plain_byte}
use Rattle.ld_json.specs.Print.{json_text}
use Rattle.ld_json.proofs.Plain.{plain_json}
use Rattle.ld_value.specs.Calendar.{day_and_second_text, in_digits, moment_text, text_of_moment}
use Rattle.ld_value.specs.Datum.{Datum, is_text_datum, moment_datum, number_datum, span_datum, text_datum, truth_datum}
use Rattle.ld_value.specs.Duration.{duration_text, has_time, part_text, shown, span_parts, span_text, time_text}
use Rattle.ld_value.specs.Values.{text_of}

-- `is_plain` as a record, so that its list is found from a proof.
record Plain (xs : List ℕ) : Type 0 where
  plain : is_plain xs ≡ true

none_there : Plain []
none_there = record { plain = refl }

one : (b : ℕ) → is_plain_byte b ≡ true → Plain (b ∷ [])
one b h = record { plain = and_from (is_plain_byte b) true h refl }

more : {xs ys : List ℕ} → Plain xs → Plain ys → Plain (xs ++ ys)
more {xs} {ys} h k = record {
  plain = list_all-append is_plain_byte xs ys ∙ and_from (is_plain xs) (is_plain ys) h.plain k.plain;
}

-- ---- numbers

digit_plain : (n : ℕ) → is_plain_byte (48 + n % 10) ≡ true
digit_plain n = grind arith

glyph_plain : (n : ℕ) → is_plain_byte (digit_glyph false (n % 10)) ≡ true
glyph_plain n = grind arith

digits_plain : (k n : ℕ) (rest : List ℕ) → is_plain rest ≡ true → is_plain (digits_onto k 10 false n rest) ≡ true
digits_plain zero n rest h = h
digits_plain (suc k) n rest h =
    let longer = digit_glyph false (n % 10) ∷ rest in
    let put = and_from (is_plain_byte (digit_glyph false (n % 10))) (is_plain rest) (glyph_plain n) h in
    cond_both (n / 10 == 0) longer (digits_onto k 10 false (n / 10) longer) (λ xs. is_plain xs ≡ true)
    (λ last. put) (λ further. digits_plain k (n / 10) longer put)

decimals : (n : ℕ) → Plain (decimal n)
unfolding digits
decimals n = record { plain = digits_plain 64 n [] refl }

number : (z : ℤ) → Plain (signed_decimal z)
number (pos n) = decimals n
number (negsuc n) = more (one 45 refl) (decimals (suc n))

-- ---- moments

of_digits : (count n : ℕ) → Plain (in_digits count n)
of_digits zero n = none_there
of_digits (suc count) n = more (of_digits count (n / 10)) (one (48 + n % 10) (digit_plain n))

of_parts : (y m d h n s : ℕ) → Plain (moment_text y m d h n s)
of_parts y m d h n s =
    more (more (more (more (more (more (more (more (more (more (more
    (of_digits 4 y) (one 45 refl)) (of_digits 2 m)) (one 45 refl)) (of_digits 2 d)) (one 84 refl))
    (of_digits 2 h)) (one 58 refl)) (of_digits 2 n)) (one 58 refl)) (of_digits 2 s)) (one 90 refl)

moment : (z : ℤ) → Plain (text_of_moment z)
unfolding text_of_moment day_and_second_text
moment z = of_parts _ _ _ _ _ _

-- ---- spans

part : (letter n : ℕ) → is_plain_byte letter ≡ true → Plain (part_text letter (shown n))
part letter n h = by (n == 0)
  where
    by : (absent : Bool) → Plain (part_text letter (cond absent None (Some (decimal n))))
    by true = none_there
    by false = more (decimals n) (one letter h)

time : (n : ℕ) → Plain (time_text (span_parts n))
time n = by (has_time (span_parts n))
  where
    by : (some : Bool) → Plain (cond some
        (codes "T" ++ part_text 72 (shown (n / 3600 % 24)) ++ part_text 77 (shown (n / 60 % 60)) ++ part_text 83 (shown (n % 60))) [])
    by true = more (more (more (one 84 refl) (part 72 (n / 3600 % 24) refl)) (part 77 (n / 60 % 60) refl)) (part 83 (n % 60) refl)
    by false = none_there

span : (n : ℕ) → Plain (span_text n)
unfolding span_text
span n = by (n == 0)
  where
    by : (none : Bool) → Plain (cond none (codes "PT0S") (duration_text (span_parts n)))
    by true = record { plain = refl }
    by false = more (more (one 80 refl) (part 68 (n / 86400) refl)) (time n)

-- ---- all of them

plain_text : (d : Datum) → is_text_datum d ≡ false → is_plain (text_of d) ≡ true
unfolding text_of
plain_text (text_datum text) none = absurd (true≢false none)
plain_text (truth_datum true) none = refl
plain_text (truth_datum false) none = refl
plain_text (number_datum z) none = (number z).plain
plain_text (moment_datum z) none = (moment z).plain
plain_text (span_datum n) none = (span n).plain

-- So it is a JSON text between quotes.
pub quoted : (d : Datum) (before opened told closed : List ℕ) → is_text_datum d ≡ false → opened ≡ before ++ 34 ∷ []
    → told ≡ opened ++ text_of d → closed ≡ told ++ 34 ∷ [] → closed ≡ before ++ json_text (text_of d)
quoted d before opened told closed scalar first middle last =
    let text = text_of d in
    last ∙ ap (λ t. t ++ 34 ∷ []) (middle ∙ ap (λ t. t ++ text) first ∙ append_assoc before (34 ∷ []) text)
    ∙ append_assoc before (34 ∷ text) (34 ∷ [])
    ∙ ap (λ t. before ++ t) (sym (plain_json text (plain_text d scalar)))
