-- Verbs, and how many words may stand behind each.
use Rattle.std.specs.Prelude.{ℕ, List, [], ◌∷◌, length, Bool, false, codes, if◌then◌else◌}
use Rattle.std.specs.Str.{bytes_eq}
use Rattle.ld_words.specs.Forms.{is_up_to}

-- Whether a verb may have so many words behind it.
abbrev pub takes_words : List ℕ → ℕ → Bool
takes_words verb count =
    if bytes_eq verb (codes "replay") then is_up_to 64 count
    else if bytes_eq verb (codes "check") then is_up_to 1 count
    else if bytes_eq verb (codes "canon") then is_up_to 1 count
    else if bytes_eq verb (codes "rank") then is_up_to 1 count
    else if bytes_eq verb (codes "keep") then is_up_to 64 count
    else if bytes_eq verb (codes "gen") then is_up_to 2 count
    else false

-- There is a verb, and it may have as many words behind it as there are.
unfoldable pub are_taken : List (List ℕ) → Bool
are_taken [] = false
are_taken (verb ∷ rest) = takes_words verb (length rest)
