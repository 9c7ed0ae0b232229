-- The steps of the lines of a journal while it is opened.
use Rattle.std.proofs.Common.{◌≡◌, ◌≤◌, ℕ, ◌+◌, List, [], ◌∷◌, ◌++◌, Option, IfSome, Ok, true, false, refl, sym, ap, subst, ◌∙◌, append_assoc, append-nil, arith}
use Rattle.ld_keep.specs.Kept.{kept_lines, lines_from}
use Rattle.ld_keep.specs.Opening.{OpeningState}
use Rattle.ld_keep.proofs.Told.{told_both, told_more, told_same}
use Rattle.ld_keeping.specs.Working.{WorkedJournal, WorksNext}
use Rattle.ld_world.specs.Answers.{line_of}
use Rattle.ld_world.specs.LineWork.{TakesLines, line_steps}
use Rattle.ld_world.specs.WorldView.{WorldView}
use Rattle.ld_world.proofs.Counting.{TakesLines-more}

-- The first lines of the file, from the one world to the other, and their steps; after them come those from the place on.
abbrev pub HasWorked : WorldView → WorldView → (begun spent place : ℕ) → List ℕ → Type 0
HasWorked first world begun spent place file =
    (front : List (List ℕ)) × (text : List ℕ) × (most : ℕ) × TakesLines first front text most world
    × (kept_lines file ≡ front ++ lines_from place file) × (spent ≤ begun + most)

pub worked_first : (bytes : Option (List ℕ)) (world : WorldView) (begun place : ℕ) → IfSome bytes (λ file. lines_from place file ≡ kept_lines file)
    → IfSome bytes (HasWorked world world begun begun place)
worked_first bytes world begun place lines =
    told_more bytes (λ file. lines_from place file ≡ kept_lines file) (HasWorked world world begun begun place) lines
    (λ file same. ([], [], 0, (refl, refl, refl), sym same, omega arith))

module _ (told_file bytes : Option (List ℕ)) (same : bytes ≡ told_file) (first world next : WorldView) (begun spent ended : ℕ) (old new : OpeningState) (text : List ℕ)
    (so_far : IfSome told_file (HasWorked first world begun spent old.place)) where
  -- one more line was answered
  pub worked_next : WorksNext bytes old world spent (Ok true) text new next ended → IfSome told_file (HasWorked first next begun ended new.place)
  worked_next (line, takes, few, lines) =
      told_both told_file (HasWorked first world begun spent old.place) (λ file. lines_from old.place file ≡ line ∷ lines_from new.place file)
      (HasWorked first next begun ended new.place) so_far
      (told_same bytes told_file (λ file. lines_from old.place file ≡ line ∷ lines_from new.place file) (sym same) lines)
      (λ file has parts. (
        has.0 ++ line ∷ [],
        has.1 ++ text,
        has.2 + line_steps world (line_of line),
        TakesLines-more first has.0 has.1 has.2 world line text next has.3 takes,
        has.4 ∙ ap (λ (ls : List (List ℕ)). has.0 ++ ls) parts ∙ sym (append_assoc has.0 (line ∷ []) (lines_from new.place file)),
        omega (arith, has.5, few),
      ))

  -- there is none any more
  pub worked_last : WorksNext bytes old world spent (Ok false) text new next ended → WorkedJournal told_file first next begun ended
  worked_last (stays, none_taken, lines) =
      told_both told_file (HasWorked first world begun spent old.place) (λ file. lines_from old.place file ≡ [])
      (λ file. (text : List ℕ) × (most : ℕ) × TakesLines first (kept_lines file) text most next × (ended ≤ begun + most)) so_far
      (told_same bytes told_file (λ file. lines_from old.place file ≡ []) (sym same) lines)
      (λ file has none. (
        has.1,
        has.2,
        subst (λ (w : WorldView). TakesLines first (kept_lines file) has.1 has.2 w) (sym stays)
            (subst (λ (ls : List (List ℕ)). TakesLines first ls has.1 has.2 world)
            (sym (has.4 ∙ ap (λ (ls : List (List ℕ)). has.0 ++ ls) none ∙ append-nil has.0)) has.3),
        omega (arith, has.5, none_taken),
      ))
