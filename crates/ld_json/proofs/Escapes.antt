-- Names in places: only `~` and `/` are escaped, and the characters one after another.
use Rattle.std.proofs.Common.{ℕ, suc, List, [], ◌∷◌, ◌<◌, ◌≡◌, ◌≢◌, ◌∙◌, length, get_or, refl, sym, arith, append-nil}
use Rattle.std.specs.Char.{encode_utf8}
use Rattle.std.proofs.lemmas.Str.{inside_one}
use Rattle.std.proofs.lemmas.Grind.{common_steps}
use Rattle.ld_json.specs.Places.{escaped, escaped_byte}

escaped_byte-plain : (b : ℕ) → b ≢ 126 → b ≢ 47 → escaped_byte b ≡ b ∷ []
escaped_byte-plain b tilde slash = grind (arith, common_steps)

escaped-same : (bs : List ℕ) → ((k : ℕ) → k < length bs → get_or bs k 0 ≢ 126) → ((k : ℕ) → k < length bs → get_or bs k 0 ≢ 47) → escaped bs ≡ bs
escaped-same [] tilde slash = refl
escaped-same (b ∷ bs) tilde slash =
    let first : escaped_byte b ≡ b ∷ [] = escaped_byte-plain b (tilde 0 (omega arith)) (slash 0 (omega arith)) in
    let rest : escaped bs ≡ bs = escaped-same bs (λ k below. tilde (suc k) (omega arith)) (λ k below. slash (suc k) (omega arith)) in
    rw (first, rest) refl

-- No other character has an escape.
pub escaped-encode : (c : ℕ) → c ≢ 126 → c ≢ 47 → escaped (encode_utf8 c) ≡ encode_utf8 c
escaped-encode c tilde slash =
    escaped-same (encode_utf8 c) (λ k below is. tilde (inside_one c [] (encode_utf8 c) k (sym (append-nil _)) below (omega arith) ∙ is))
    (λ k below is. slash (inside_one c [] (encode_utf8 c) k (sym (append-nil _)) below (omega arith) ∙ is))
