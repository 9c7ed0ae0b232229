-- Going on only where something was found.
use Rattle.std.specs.Prelude.{Option, Some, None, Bool, true, false}

infixl 10 ◌>>=◌
-- What the next step gives for the value, where there is one.
abbrev pub ◌>>=◌ : {A B : Type 0} → Option A → (A → Option B) → Option B
None >>= next = None
(Some x) >>= next = next x

-- The value where the test holds, else nothing.
abbrev pub provided : {A : Type 0} → Bool → A → Option A
provided true x = Some x
provided false x = None
