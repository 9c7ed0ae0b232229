-- What a run gives the store.
use Rattle.std.specs.Prelude.{◌≡◌, ◌≤◌, ◌&&◌, ℕ, List, Option, length, option_map, if◌then◌else◌}
use Rattle.std.specs.List.{AllByRecursion, fold}
use Rattle.std.specs.Option.{option_eq}
use Rattle.std.specs.Str.{bytes_eq}
use Rattle.ld_globals.specs.Store.{Store, IsWritable, key_at}
use Rattle.ld_model.specs.declared.unit.Unit.{Unit}
use Rattle.ld_state.specs.GlobalValues.{GlobalValues}
use Rattle.ld_state.specs.RunState.{RunState}
use Rattle.ld_value.specs.Datum.{Datum, datum_of}
use Rattle.ld_sharing.specs.Globals.{giving_back}
use Rattle.ld_sharing.specs.StoreView.{values_of}
use Rattle.ld_sharing.specs.declared.giving.Write.{Write}

-- The store's values, once the key has this one.
abbrev pub with_shared_value : GlobalValues → List ℕ → Option (List ℕ) → Option Datum → GlobalValues
with_shared_value store uri person value =
    λ u p. if bytes_eq u uri && option_eq bytes_eq p person then value else store u p

-- The store's values, once this write is done.
abbrev pub written_by : GlobalValues → Write → GlobalValues
written_by store write = with_shared_value store write.uri.now.bytes write.person (option_map datum_of write.value)

-- The write is one that the store may take.
abbrev pub IsWritableTo : Store → Write → Type 0
IsWritableTo store write = IsWritable store (key_at write.uri.now.bytes write.person) (option_map datum_of write.value)

-- By these writes the store takes the values of the run; there is room for them, and each is one that the
-- store may take.
pub record AreWritesOf (unit : Unit) (s : RunState) (store : Store) (writes : List Write) : Type 0 where
  pub room : length writes ≤ store.spare
  pub writable : AllByRecursion (IsWritableTo store) writes
  pub given : fold written_by (values_of store) writes ≡ giving_back unit s (values_of store)
