-- Texts that need no escapes in JSON.
use Rattle.std.specs.Prelude.{ℕ, List, Bool, ◌&&◌, ◌==◌, nat_lt, not}
use Rattle.std.specs.List.{list_all}

-- The byte is no quote, no backslash, and no control character.
abbrev pub is_plain_byte : ℕ → Bool
is_plain_byte x = not (x == 34) && (not (x == 92) && not (nat_lt x 32))

-- All bytes of the text are such.
abbrev pub is_plain : List ℕ → Bool
is_plain text = list_all is_plain_byte text
