-- Bytes that are added in several pieces.
use Rattle.std.proofs.Common.{ℕ, List, [], ◌++◌, ◌≡◌, Option, refl, sym, ◌∙◌, ap, append_assoc, append-nil}
use Rattle.ld_base.specs.Outside.{then_piece, AddsPrefix}
use Rattle.ld_base.proofs.Pieces.{then_piece-nil, then_piece-append}
use Rattle.ld_top.specs.Sending.{AddsFront}

-- Nothing is added, and all of the bytes wait.
pub adds_none : (old : Option (List ℕ)) (bytes : List ℕ) → AddsFront old bytes old bytes
adds_none old bytes = ([], refl, sym (then_piece-nil old))

-- Both pieces are added, and nothing waits.
pub adds_all : (old mid new : Option (List ℕ)) (a b : List ℕ) → mid ≡ then_piece old a → new ≡ then_piece mid b → AddsFront old (a ++ b) new []
adds_all old mid new a b first second =
    (a ++ b, sym (append-nil (a ++ b)), second ∙ ap (λ w. then_piece w b) first ∙ then_piece-append old a b)

-- A beginning of the first piece.
pub adds_first : (old new : Option (List ℕ)) (a b : List ℕ) → AddsPrefix old a new → AddsPrefix old (a ++ b) new
adds_first old new a b (front, back, parts, added) =
    (front, back ++ b, ap (λ x. x ++ b) parts ∙ append_assoc front back b, added)

-- The first piece, and a beginning of the second.
pub adds_second : (old mid new : Option (List ℕ)) (a b : List ℕ) → mid ≡ then_piece old a → AddsPrefix mid b new → AddsPrefix old (a ++ b) new
adds_second old mid new a b first (front, back, parts, added) =
    (a ++ front, back, ap (λ x. a ++ x) parts ∙ sym (append_assoc a front back), added ∙ ap (λ w. then_piece w front) first ∙ then_piece-append old a front)
