-- How many steps the lines of a journal may take while it is opened, and then those of a source.
use Rattle.std.specs.Prelude.{◌≡◌, ◌≤◌, ℕ, ◌+◌, List, [], ◌∷◌, Bool, true, false, Option, IfSome, Result, Ok, Err}
use Rattle.ld_keep.specs.Kept.{kept_lines, lines_from}
use Rattle.ld_keep.specs.Opening.{OpeningState}
use Rattle.ld_keeping.specs.declared.opening.OpenStop.{OpenStop}
use Rattle.ld_world.specs.Answers.{line_of}
use Rattle.ld_world.specs.Counting.{WorkedAll}
use Rattle.ld_world.specs.LineWork.{TakesLine, TakesLines, line_steps}
use Rattle.ld_world.specs.WorldView.{WorldView}

-- A line was answered, with no more steps than it may take; where the file is told, it is its next line. Or there is
-- none any more: the world stays, and no step was taken.
abbrev pub WorksNext : Option (List ℕ) → OpeningState → WorldView → ℕ → Result Bool OpenStop → List ℕ → OpeningState → WorldView → ℕ → Type 0
WorksNext bytes old world begun (Ok true) text new next ended =
    (line : List ℕ) × TakesLine world (line_of line) text next × (ended ≤ begun + line_steps world (line_of line))
    × IfSome bytes (λ file. lines_from old.place file ≡ line ∷ lines_from new.place file)
WorksNext bytes old world begun (Ok false) text new next ended =
    (next ≡ world) × (ended ≡ begun) × IfSome bytes (λ file. lines_from old.place file ≡ [])
WorksNext bytes old world begun (Err stop) text new next ended = Unit {0}

-- Where the file is told: its lines were answered one after the other, from the one world to the other, and no more
-- steps were taken than they may take, each in its world.
abbrev pub WorkedJournal : Option (List ℕ) → WorldView → WorldView → (begun ended : ℕ) → Type 0
WorkedJournal file old new begun ended = IfSome file (λ bytes.
    (text : List ℕ) × (most : ℕ) × TakesLines old (kept_lines bytes) text most new × (ended ≤ begun + most))

-- That, and then the same of all lines of the source, from the world of the journal on.
abbrev pub WorkedKeeping : Option (List ℕ) → WorldView → (source before written : Option (List ℕ)) → (begun ended : ℕ) → Type 0
WorkedKeeping file world source before written begun ended =
    (after : WorldView) × (opened : ℕ) × WorkedJournal file world after begun opened
    × WorkedAll after source before written opened ended
