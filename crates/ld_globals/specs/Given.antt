-- The person of a key that is to be written.
use Rattle.std.specs.Prelude.{ℕ, List, Option, Some, None}
use Rattle.ld_globals.specs.declared.given.Given.{Given}
use Rattle.ld_globals.specs.declared.given.Given.TheVariants as given

-- The person's text, where there is one.
abbrev pub given_text : Given → Option (List ℕ)
given_text given.Nobody = None
given_text (given.Own text) = Some text
given_text (given.Lent id) = Some id.now

-- The person's identifier may only be copied.
abbrev pub IsLent : Given → Type 0
IsLent (given.Lent id) = Unit {0}
IsLent _ = ⊥
