-- The refusals: which numbers there are, and the word of each.
use Rattle.std.specs.Prelude.{ℕ, List, Option, Some, None, IsSome, codes, ◌==◌, if◌then◌else◌}

-- The word of the refusal of this number, if there is one.
abbrev pub word_of_refusal : ℕ → Option (List ℕ)
word_of_refusal number =
    if number == 1 then Some (codes "bad-line") else
    if number == 2 then Some (codes "unknown-unit") else
    if number == 3 then Some (codes "run-exists") else
    if number == 4 then Some (codes "unknown-run") else
    if number == 5 then Some (codes "moment-back") else
    if number == 6 then Some (codes "not-started") else
    if number == 7 then Some (codes "started-already") else
    if number == 8 then Some (codes "unknown-person") else
    if number == 9 then Some (codes "person-exists") else
    if number == 10 then Some (codes "run-full") else
    if number == 11 then Some (codes "unknown-role") else
    if number == 12 then Some (codes "holds-already") else
    if number == 13 then Some (codes "not-held") else
    if number == 14 then Some (codes "role-full") else
    if number == 15 then Some (codes "role-exclusive") else
    if number == 16 then Some (codes "role-short") else
    if number == 17 then Some (codes "unknown-activity") else
    if number == 18 then Some (codes "not-by-choice") else
    if number == 19 then Some (codes "unknown-property") else
    if number == 20 then Some (codes "unknown-global") else
    if number == 21 then Some (codes "bad-value") else
    if number == 22 then Some (codes "not-allowed") else
    if number == 30 then Some (codes "turn-budget") else
    if number == 31 then Some (codes "not-open") else
    if number == 99 then Some (codes "no-memory") else
    None

-- There is a refusal of this number.
abbrev pub HasRefusal : ℕ → Type 0
HasRefusal number = IsSome (word_of_refusal number)
