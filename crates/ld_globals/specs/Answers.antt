-- What a caller is given.
use Rattle.std.specs.Prelude.{ℕ, List, Option, option_map, option_copied, Result, Ok, Err}
use Rattle.std.specs.Borrow.{Bor}
use Rattle.ld_base.specs.Roomy.{Roomy}
use Rattle.ld_globals.specs.Store.{Key, key_at}
use Rattle.ld_value.specs.Datum.{Datum, datum_of}
use Rattle.ld_value.specs.declared.value.Value.{Value}

-- What a given value means.
abbrev pub meaning : Option (Bor Value) → Option Datum
meaning value = option_map (λ v. datum_of v.now) value

-- The answer, with what a given value means.
abbrev pub got : {E : Type 0} → Result (Option (Bor Value)) E → Result (Option Datum) E
got (Ok value) = Ok (meaning value)
got (Err fault) = Err fault

-- The key of a uri and a person that are given.
abbrev pub key_given : Roomy → Option (Bor (List ℕ)) → Key
key_given uri person = key_at uri.bytes (option_copied person)

-- The key of a uri and a person that are shown.
abbrev pub shown_key : Bor Roomy × Option (Bor (List ℕ)) → Key
shown_key x = key_at x.0.now.bytes (option_copied x.1)
