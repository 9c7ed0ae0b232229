-- The pieces of bytes that begin with a piece that is known.
use Rattle.std.proofs.Common.{◌≡◌, ℕ, ◌+◌, ◌<◌, List, [], ◌∷◌, ◌++◌, length, take, drop, Some, true, false, not, refl, sym, ap, ◌∙◌, arith}
use Rattle.std.proofs.lemmas.Bool.{or_parts}
use Rattle.std.proofs.lemmas.List.Elements.{filter-append}
use Rattle.ld_lines.specs.Cutting.{FeedAt}
use Rattle.ld_lines.specs.Lines.{HasNoFeed, is_feed, pieces_of, ended_pieces_of, without_blank, lines_of, ended_lines_of, is_passed_over}

-- a piece that a line feed ends
pieces_of-ended : (piece rest : List ℕ) → HasNoFeed piece → pieces_of (piece ++ 10 ∷ rest) ≡ piece ∷ pieces_of rest
unfolding pieces_of
pieces_of-ended [] rest h = refl
pieces_of-ended (b ∷ bytes) rest h =
    let p = or_parts (is_feed b) _ h in rw (p.0, pieces_of-ended bytes rest p.1) refl

ended_pieces_of-ended : (piece rest : List ℕ) → HasNoFeed piece → ended_pieces_of (piece ++ 10 ∷ rest) ≡ piece ∷ ended_pieces_of rest
unfolding ended_pieces_of
ended_pieces_of-ended [] rest h = refl
ended_pieces_of-ended (b ∷ bytes) rest h =
    let p = or_parts (is_feed b) _ h in rw (p.0, ended_pieces_of-ended bytes rest p.1) refl

-- a piece that no line feed ends
pieces_of-one : (b : ℕ) (bytes : List ℕ) → HasNoFeed (b ∷ bytes) → pieces_of (b ∷ bytes) ≡ (b ∷ bytes) ∷ []
unfolding pieces_of
pieces_of-one b [] h = let p = or_parts (is_feed b) _ h in rw p.0 refl
pieces_of-one b (d ∷ bytes) h =
    let p = or_parts (is_feed b) _ h in rw (p.0, pieces_of-one d bytes p.1) refl

pieces_of-last : (piece : List ℕ) → HasNoFeed piece → 0 < length piece → pieces_of piece ≡ piece ∷ []
pieces_of-last [] h some = absurd (omega arith)
pieces_of-last (b ∷ bytes) h some = pieces_of-one b bytes h

ended_pieces_of-none : (piece : List ℕ) → HasNoFeed piece → ended_pieces_of piece ≡ []
unfolding ended_pieces_of
ended_pieces_of-none [] h = refl
ended_pieces_of-none (b ∷ bytes) h =
    let p = or_parts (is_feed b) _ h in rw (p.0, ended_pieces_of-none bytes p.1) refl

without_blank-cons : (piece : List ℕ) (pieces : List (List ℕ)) → without_blank (piece ∷ pieces) ≡ without_blank (piece ∷ []) ++ without_blank pieces
unfolding without_blank
without_blank-cons piece pieces = filter-append (λ piece. not (is_passed_over piece)) (piece ∷ []) pieces

pub lines_of-ended : (piece rest : List ℕ) → HasNoFeed piece → lines_of (piece ++ 10 ∷ rest) ≡ without_blank (piece ∷ []) ++ lines_of rest
lines_of-ended piece rest h = ap without_blank (pieces_of-ended piece rest h) ∙ without_blank-cons piece (pieces_of rest)

pub ended_lines_of-ended : (piece rest : List ℕ) → HasNoFeed piece → ended_lines_of (piece ++ 10 ∷ rest) ≡ without_blank (piece ∷ []) ++ ended_lines_of rest
ended_lines_of-ended piece rest h = ap without_blank (ended_pieces_of-ended piece rest h) ∙ without_blank-cons piece (ended_pieces_of rest)

pub lines_of-last : (piece : List ℕ) → HasNoFeed piece → 0 < length piece → lines_of piece ≡ without_blank (piece ∷ [])
lines_of-last piece h some = ap without_blank (pieces_of-last piece h some)

pub ended_lines_of-none : (piece : List ℕ) → HasNoFeed piece → ended_lines_of piece ≡ []
unfolding without_blank
ended_lines_of-none piece h = ap without_blank (ended_pieces_of-none piece h)

pub lines_of-nil : lines_of [] ≡ []
unfolding pieces_of without_blank
lines_of-nil = refl

-- the piece itself, unless it is passed over
pub without_blank-kept : (piece : List ℕ) → is_passed_over piece ≡ false → without_blank (piece ∷ []) ≡ piece ∷ []
unfolding without_blank
without_blank-kept piece h = rw h refl

pub without_blank-passed : (piece : List ℕ) → is_passed_over piece ≡ true → without_blank (piece ∷ []) ≡ []
unfolding without_blank
without_blank-passed piece h = rw h refl

-- The first piece, which a line feed ends, is a line, or it is passed over.
pub first_line : (bytes : List ℕ) (at : ℕ) → FeedAt bytes (Some at) → is_passed_over (take at bytes) ≡ false → ended_lines_of bytes ≡ [] → ⊥
first_line bytes at (within, clear, parts) kept none =
    let line : ended_lines_of bytes ≡ take at bytes ∷ ended_lines_of (drop (at + 1) bytes) =
    ap ended_lines_of parts ∙ ended_lines_of-ended (take at bytes) (drop (at + 1) bytes) clear ∙ ap (λ lines. lines ++ ended_lines_of (drop (at + 1) bytes)) (without_blank-kept (take at bytes) kept) in
    absurd (cc (sym line ∙ none))

pub first_passed : (bytes : List ℕ) (at : ℕ) → FeedAt bytes (Some at) → is_passed_over (take at bytes) ≡ true → ended_lines_of bytes ≡ ended_lines_of (drop (at + 1) bytes)
first_passed bytes at (within, clear, parts) passed =
    ap ended_lines_of parts ∙ ended_lines_of-ended (take at bytes) (drop (at + 1) bytes) clear ∙ ap (λ lines. lines ++ ended_lines_of (drop (at + 1) bytes)) (without_blank-passed (take at bytes) passed)
