-- What the text of an identifier is, wherever its bytes lie.
use Rattle.std.specs.Prelude.{ℕ, List, string_bytes}
use Rattle.ld_base.specs.declared.id_text.IdText.{IdText}
use Rattle.ld_base.specs.declared.id_text.IdText.TheVariants.{Short, Long}

-- The bytes of the text.
abbrev pub letters_of : IdText → List ℕ
letters_of (Short t) = t.bytes
letters_of (Long t) = string_bytes t
