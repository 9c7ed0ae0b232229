-- The place of a member or an element leads to it, where the place of the node above leads to that.
use Rattle.std.proofs.Common.{◌≡◌, ℕ, zero, suc, ◌^◌, ◌<◌, ◌==◌, ◌||◌, List, [], ◌∷◌, ◌++◌, length, get_or, slice_index, Bool, true, false, not, nat_lt, Option, Some, None, option_and_then, decimal, refl, sym, ap, ◌∙◌, arith, append-nil, append_assoc, lt-ltb, ne_eqb, if◌then◌else◌}
use Rattle.std.proofs.lemmas.Fmt.{decimal_digit, decimal_is_IsNumeral, decimal_nonempty, first_decimal}
use Rattle.std.proofs.lemmas.Bool.{eqb-true, eq-eqb}
use Rattle.std.specs.Char.{digit_value}
use Rattle.std.specs.Str.Parse.{AllDigits}
use Rattle.fast_float.specs.Text.{Parts, digits_of, scan, IsWellFormed}
use Rattle.fast_float.proofs.Writing.{scan-text_of}
use Rattle.serde_json.specs.Data.{Data, null, boolean, number, string, array, object}
use Rattle.serde_json.specs.Find.{get, at, step, walk, pointer, unescape, index_of}
use Rattle.serde_json.specs.Read.{is_integer}
use Rattle.ld_json.specs.Node.{Placed, member_node, item_node}
use Rattle.ld_json.specs.Places.{escaped, escaped_byte}
use Rattle.ld_json.specs.Pointers.{IsAt}

-- ---- a part with no slash is one step

abbrev NoSlash : List ℕ → Type 0
NoSlash [] = Unit {0}
NoSlash (b ∷ bs) = ((b == 47) ≡ false) × NoSlash bs

NoSlash-append : (xs ys : List ℕ) → NoSlash xs → NoSlash ys → NoSlash (xs ++ ys)
NoSlash-append [] ys h k = k
NoSlash-append (x ∷ xs) ys h k = (h.0, NoSlash-append xs ys h.1 k)

walk_plain : (before part : List ℕ) (d : Data) → NoSlash part → walk before part d ≡ step (before ++ part) d
unfolding walk
walk_plain before [] d h = rw append-nil
walk_plain before (x ∷ rest) d h = rw h.0 (walk_plain (before ++ x ∷ []) rest d h.1 ∙ rw append_assoc)

then_then : (o : Option Data) (f g : Data → Option Data) → option_and_then (λ d. option_and_then g (f d)) o ≡ option_and_then g (option_and_then f o)
then_then None f g = refl
then_then (Some d) f g = refl

then_same : (o : Option Data) (f g : Data → Option Data) → ((d : Data) → f d ≡ g d) → option_and_then f o ≡ option_and_then g o
then_same None f g same = refl
then_same (Some d) f g same = same d

both : (test : Bool) (f : Option Data → Option Data) (o p q r : Option Data) → o ≡ f q → p ≡ f r → (if test then o else p) ≡ f (if test then q else r)
both true f o p q r then_path else_path = then_path
both false f o p q r then_path else_path = else_path

walk_then : (before xs part : List ℕ) (d : Data) → NoSlash part → walk before (xs ++ 47 ∷ part) d ≡ option_and_then (step part) (walk before xs d)
unfolding walk
walk_then before [] part d h = then_same (step before d) (walk [] part) (step part) (λ e. walk_plain [] part e h)
walk_then before (x ∷ xs) part d h =
    both (x == 47) (option_and_then (step part)) _ _ _ _
    (then_same (step before d) (walk [] (xs ++ 47 ∷ part)) (λ e. option_and_then (step part) (walk [] xs e)) (λ e. walk_then [] xs part e h) ∙ then_then (step before d) (walk [] xs) (step part))
    (walk_then (before ++ x ∷ []) xs part d h)

-- A place with one more part leads one step further.
pointer_then : (place part : List ℕ) (whole : Data) → NoSlash part → pointer (place ++ 47 ∷ part) whole ≡ option_and_then (step part) (pointer place whole)
pointer_then [] part whole h = walk_plain [] part whole h
pointer_then (x ∷ rest) part whole h = both (x == 47) (option_and_then (step part)) _ _ _ _ (walk_then [] rest part whole h) refl

-- ---- names

byte_no_slash : (tilde slash : Bool) (b : ℕ) → (b == 47) ≡ slash → NoSlash (if tilde then 126 ∷ 48 ∷ [] else (if slash then 126 ∷ 49 ∷ [] else b ∷ []))
byte_no_slash true slash b is = (refl, (refl, tt))
byte_no_slash false true b is = (refl, (refl, tt))
byte_no_slash false false b is = (is, tt)

escaped_no_slash : (name : List ℕ) → NoSlash (escaped name)
escaped_no_slash [] = tt
escaped_no_slash (b ∷ bs) = NoSlash-append (escaped_byte b) (escaped bs) (byte_no_slash (b == 126) (b == 47) b refl) (escaped_no_slash bs)

unescape_plain : (b : ℕ) (rest : List ℕ) → (b == 126) ≡ false → unescape (b ∷ rest) ≡ b ∷ unescape rest
unfolding unescape
unescape_plain b [] is = refl
unescape_plain b (c ∷ rest) is = rw is

unescape_byte : (tilde slash : Bool) (b : ℕ) (rest : List ℕ) → (b == 126) ≡ tilde → (b == 47) ≡ slash
    → unescape ((if tilde then 126 ∷ 48 ∷ [] else (if slash then 126 ∷ 49 ∷ [] else b ∷ [])) ++ rest) ≡ b ∷ unescape rest
unfolding unescape
unescape_byte true slash b rest is_tilde is_slash = ap (λ c. c ∷ unescape rest) (sym (eqb-true b 126 is_tilde))
unescape_byte false true b rest is_tilde is_slash = ap (λ c. c ∷ unescape rest) (sym (eqb-true b 47 is_slash))
unescape_byte false false b rest is_tilde is_slash = unescape_plain b rest is_tilde

unescape-escaped : (name : List ℕ) → unescape (escaped name) ≡ name
unfolding unescape
unescape-escaped [] = refl
unescape-escaped (b ∷ bs) = unescape_byte (b == 126) (b == 47) b (escaped bs) refl refl ∙ ap (λ s. b ∷ s) (unescape-escaped bs)

-- ---- the member

member_step : (name : List ℕ) (tree part : Data) → get name tree ≡ Some part → step (escaped name) tree ≡ Some part
member_step name null part is = cc
member_step name (boolean b) part is = cc
member_step name (number n) part is = cc
member_step name (string s) part is = cc
member_step name (array ds) part is = cc
member_step name (object ms) part is = rw (unescape-escaped name) is

pub member_is_at : (whole : Data) (node : Placed) (name : List ℕ) (part : Data) → IsAt whole node → get name node.tree ≡ Some part → IsAt whole (member_node node name part)
member_is_at whole node name part above is =
    pointer_then node.place (escaped name) whole (escaped_no_slash name) ∙ ap (option_and_then (step (escaped name))) above ∙ member_step name node.tree part is

-- ---- the element

decimal_no_slash : (ds : List ℕ) → AllDigits 10 ds → NoSlash ds
decimal_no_slash [] h = tt
decimal_no_slash (d ∷ ds) h = (ne_eqb d 47 (λ is. let digit : digit_value d < 10 = h.0 in grind arith), decimal_no_slash ds h.1)

abbrev digits : List ℕ → Parts
digits ds = record { whole = ds; point = false; fraction = []; exponent_negative = false; exponent = []; len = length (ds ++ []) }

scan-decimal : (n : ℕ) → n < 2 ^ 64 → scan (decimal n) ≡ digits (decimal n)
scan-decimal n h =
    let e = decimal_is_IsNumeral n h in
    let formed : IsWellFormed (digits (decimal n)) = record { whole_digits = e.0.1; fraction_digits = tt; exponent_digits = tt; no_point = λ _. refl; no_exponent = λ _. refl; len_is = refl } in
    ap scan (sym (append-nil (decimal n))) ∙ scan-text_of (digits (decimal n)) formed

or_true : (b : Bool) → (b || true) ≡ true
or_true true = refl
or_true false = refl

no_leading_zero : (n : ℕ) → n < 2 ^ 64 → (length (decimal n) == 1 || not (slice_index (decimal n) 0 == 48)) ≡ true
no_leading_zero zero h = rw (decimal_digit 0 (omega arith))
no_leading_zero (suc n) h =
    let above : 48 < get_or (decimal (suc n)) 0 0 = first_decimal (suc n) (omega arith) h in
    rw (ne_eqb (get_or (decimal (suc n)) 0 0) 48 (λ is. omega arith)) (or_true (length (decimal (suc n)) == 1))

index_of-decimal : (n : ℕ) → n < 2 ^ 64 → index_of (decimal n) ≡ Some n
unfolding index_of
index_of-decimal n h =
    let e = decimal_is_IsNumeral n h in
    let some : 0 < length (decimal n) = decimal_nonempty n h in
    let whole : is_integer (digits (decimal n)) ≡ true = rw (lt-ltb 0 (length (decimal n)) some) in
    let lens : ((digits (decimal n)).len == length (decimal n)) ≡ true = eq-eqb (length (decimal n ++ [])) (length (decimal n)) (ap length (append-nil (decimal n))) in
    let value : digits_of (digits (decimal n)) ≡ n = rw append-nil e.1 in
    let fits : nat_lt n (2 ^ 64) ≡ true = lt-ltb n (2 ^ 64) h in
    rw (scan-decimal n h) (rw (whole, lens, value, fits, no_leading_zero n h))

item_step : (index : ℕ) (tree part : Data) → index < 2 ^ 64 → at index tree ≡ Some part → step (decimal index) tree ≡ Some part
item_step index null part h is = cc
item_step index (boolean b) part h is = cc
item_step index (number n) part h is = cc
item_step index (string s) part h is = cc
item_step index (array ds) part h is = rw (index_of-decimal index h) is
item_step index (object ms) part h is = cc

pub item_is_at : (whole : Data) (node : Placed) (index : ℕ) (part : Data) → index < 2 ^ 64 → IsAt whole node → at index node.tree ≡ Some part → IsAt whole (item_node node index part)
item_is_at whole node index part h above is =
    pointer_then node.place (decimal index) whole (decimal_no_slash (decimal index) (decimal_is_IsNumeral index h).0.1) ∙ ap (option_and_then (step (decimal index))) above ∙ item_step index node.tree part h is
