-- The lines of the generator. (docs/GENERATOR.md, "The lines")
use Rattle.std.specs.Prelude.{ℕ, pos, ◌+◌, ◌*◌, ◌%◌, List, [], ◌∷◌, ◌++◌, map, flat_map, codes, decimal}
use Rattle.ld_base.specs.Numbers.{numbers_below}
use Rattle.ld_value.specs.Calendar.{text_of_moment}
use Rattle.ld_generator.specs.GeneratedUnit.{activity_name}
use Rattle.ld_generator.specs.declared.ask.Ask.{Ask}
use Rattle.ld_generator.specs.declared.ask.Ask.TheVariants.{Create, Enrol, Assign, Start, Complete}

-- ---- what is asked

-- In this round the person of this number completes the activity of that number.
abbrev pub activity_of : ℕ → ℕ → ℕ → ℕ
activity_of number round person = (number + 7 * person + 11 * round) % 40

-- One round: each person completes an activity.
abbrev pub round_of : ℕ → ℕ → ℕ → List Ask
round_of number persons round = map (λ person. Complete person (activity_of number round person)) (numbers_below persons)

-- All that is asked: a run is made, the persons join and are learners, it is started, and there are fifty rounds.
abbrev pub generated_asks : ℕ → ℕ → List Ask
generated_asks number persons =
    Create ∷ (map Enrol (numbers_below persons) ++ (map Assign (numbers_below persons)
    ++ Start ∷ flat_map (round_of number persons) (numbers_below 50)))

-- ---- texts

-- The person of this number: `p0`, `p1` and so on.
abbrev pub person_name : ℕ → List ℕ
person_name person = codes "p" ++ decimal person

-- The words of a line behind its moment. The run is `g`.
abbrev pub words_of : Ask → List (List ℕ)
words_of Create = codes "create" ∷ codes "g" ∷ codes "gen" ∷ []
words_of (Enrol person) = codes "enrol" ∷ codes "g" ∷ person_name person ∷ []
words_of (Assign person) = codes "assign" ∷ codes "g" ∷ person_name person ∷ codes "learner" ∷ []
words_of Start = codes "start" ∷ codes "g" ∷ []
words_of (Complete person activity) =
    codes "complete" ∷ codes "g" ∷ person_name person ∷ activity_name activity ∷ []

-- The words of an array behind its first one, up to the last quotation mark.
abbrev pub quoted_words : List (List ℕ) → List ℕ
quoted_words words = flat_map (λ word. codes "\",\"" ++ word) words

-- The line of this number is a JSON array of texts. Its moment is so many seconds after
-- 2024-01-01T00:00:00Z, and the first line has the number 0.
abbrev pub line_text : ℕ → Ask → List ℕ
line_text n ask =
    codes "[\"" ++ (text_of_moment (pos (1704067200 + n))
    ++ (quoted_words (words_of ask) ++ codes "\"]"))

-- The lines from the one of this number on.
abbrev pub lines_from : ℕ → List Ask → List (List ℕ)
lines_from n [] = []
lines_from n (ask ∷ asks) = line_text n ask ∷ lines_from (n + 1) asks
