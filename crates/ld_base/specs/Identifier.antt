-- Identifiers: 1 to 64 characters out of `A-Z a-z 0-9 _ - .`, of which the first is a letter or `_`.
-- (docs/FORMATS.md, "Identifiers")
use Rattle.std.specs.Prelude.{ℕ, List, [], ◌∷◌, length, Bool, false, ◌&&◌, ◌||◌, ◌==◌, nat_le, IsTrue}
use Rattle.std.specs.Char.{is_ascii_alphabetic, is_ascii_alphanumeric}
use Rattle.std.specs.List.{list_all}

-- A character with which an identifier may begin: a letter of ASCII or `_`.
unfoldable pub begins_identifier : ℕ → Bool
begins_identifier b = is_ascii_alphabetic b || b == 95

-- A character of which an identifier may be made: a letter or a digit of ASCII, `_`, `-` or `.`.
unfoldable pub continues_identifier : ℕ → Bool
continues_identifier b = is_ascii_alphanumeric b || (b == 95 || (b == 45 || b == 46))

-- There is a first character, and it is one with which an identifier may begin.
abbrev pub begins_well : List ℕ → Bool
begins_well [] = false
begins_well (b ∷ _) = begins_identifier b

-- Whether the bytes are an identifier: they begin well, are at most 64, and each is one that it may have.
abbrev pub has_identifier_form : List ℕ → Bool
has_identifier_form bytes = begins_well bytes && (nat_le (length bytes) 64 && list_all continues_identifier bytes)

-- The bytes are an identifier.
abbrev pub IsIdentifier : List ℕ → Type 0
IsIdentifier bytes = IsTrue (has_identifier_form bytes)
