-- The words of a call.
use Rattle.std.specs.Prelude.{ℕ, List, [], ◌∷◌, map, Bool, false, not, ◌==◌, String, string_bytes}
use Rattle.std.specs.declared.alloc.Global.{Global}

-- The words as bytes.
abbrev pub words_of : List (String Global) → List (List ℕ)
words_of = map string_bytes

-- A word that is not empty and does not begin with `-`.
abbrev pub is_plain_word : List ℕ → Bool
is_plain_word [] = false
is_plain_word (b ∷ _) = not (b == 45)
