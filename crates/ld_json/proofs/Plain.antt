-- Texts that need no escapes, as JSON.
use Rattle.std.proofs.Common.{◌≡◌, ℕ, List, [], ◌∷◌, ◌++◌, true, refl, ap}
use Rattle.std.proofs.lemmas.Bool.{and_parts, eqb-false, ltb-false, not-true}
use Rattle.json.specs.Print.{escape}
use Rattle.json.proofs.Printed.Strings.{escape_byte_plain}
use Rattle.ld_json.specs.Plain.{is_plain, is_plain_byte}
use Rattle.ld_json.specs.Print.{json_text}

plain_escape : (text : List ℕ) → is_plain text ≡ true → escape text ≡ text
plain_escape [] plain = refl
plain_escape (x ∷ rest) plain =
    let parts = and_parts (is_plain_byte x) (is_plain rest) plain in
    let byte = and_parts _ _ parts.0 in
    let others = and_parts _ _ byte.1 in
    let kept = escape_byte_plain x (eqb-false x 34 (not-true _ byte.0)) (eqb-false x 92 (not-true _ others.0)) (ltb-false x 32 (not-true _ others.1)) in
    rw (kept, plain_escape rest parts.1) refl

-- Such a text stands between quotes as it is.
pub plain_json : (text : List ℕ) → is_plain text ≡ true → json_text text ≡ 34 ∷ (text ++ 34 ∷ [])
plain_json text plain = ap (λ t. 34 ∷ (t ++ 34 ∷ [])) (plain_escape text plain)
