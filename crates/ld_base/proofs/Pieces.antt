-- Bytes that are added or taken piece by piece, where they are told.
use Rattle.std.proofs.Common.{ℕ, List, [], ◌++◌, ◌+◌, ◌-◌, length, ◌≡◌, Option, Some, None, take, drop, refl, ap, sym, ◌∙◌, append_assoc, append-nil}
use Rattle.std.proofs.Math.Seq.{take-add}
use Rattle.std.proofs.lemmas.List.{take-append-drop, drop-drop, take_rest}
use Rattle.ld_base.specs.Outside.{then_piece, piece_then, AddsPrefix}

pub then_piece-nil : (held : Option (List ℕ)) → then_piece held [] ≡ held
then_piece-nil None = refl
then_piece-nil (Some bytes) = ap Some (append-nil bytes)

pub then_piece-append : (held : Option (List ℕ)) (a b : List ℕ) → then_piece (then_piece held a) b ≡ then_piece held (a ++ b)
then_piece-append None a b = refl
then_piece-append (Some bytes) a b = ap Some (append_assoc bytes a b)

pub piece_then-nil : (held : Option (List ℕ)) → piece_then [] held ≡ held
piece_then-nil None = refl
piece_then-nil (Some rest) = refl

pub piece_then-append : (held : Option (List ℕ)) (a b : List ℕ) → piece_then a (piece_then b held) ≡ piece_then (a ++ b) held
piece_then-append None a b = refl
piece_then-append (Some rest) a b = ap Some (sym (append_assoc a b rest))

-- After one more piece the loop of `write_all` has written more of the bytes.
pub written_more : (held now new : Option (List ℕ)) (bytes : List ℕ) (done n : ℕ) → now ≡ then_piece held (take done bytes) → new ≡ then_piece now (take n (take (length bytes - done) (drop done bytes))) → new ≡ then_piece held (take (done + n) bytes)
written_more held now new bytes done n was is =
    rw (is, was, take_rest, then_piece-append, ← take-add done n bytes) refl

-- The first bytes are a beginning of them all.
pub AddsPrefix-take : (held : Option (List ℕ)) (bytes : List ℕ) (n : ℕ) → AddsPrefix held bytes (then_piece held (take n bytes))
AddsPrefix-take held bytes n = (take n bytes, drop n bytes, sym (take-append-drop n bytes), refl)

-- What is left from a place on: the next bytes, and those behind them.
pub take-then-drop : (bytes : List ℕ) (start n : ℕ) → take n (drop start bytes) ++ drop (start + n) bytes ≡ drop start bytes
take-then-drop bytes start n = ap (λ rest. take n (drop start bytes) ++ rest) (sym (drop-drop n start bytes)) ∙ take-append-drop n (drop start bytes)
