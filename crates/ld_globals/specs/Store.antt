-- The store of global values, as contracts see it.
use Rattle.std.specs.Prelude.{◌≡◌, ◌≢◌, ◌≤◌, ℕ, ◌+◌, ◌-◌, ◌^◌, min, max, List, ◌∷◌, ◌++◌, [], take, slice_get}
use Rattle.std.specs.Prelude.{Bool, true, false, ◌&&◌, ◌||◌, ◌==◌, nat_lt, is_some, if◌then◌else◌, IsTrue}
use Rattle.std.specs.Prelude.{Option, Some, None, Result, Ok, Err}
use Rattle.std.specs.List.{fold, AllByRecursion}
use Rattle.std.specs.Map.{lookup}
use Rattle.std.specs.Option.{option_and_then, option_eq}
use Rattle.std.specs.Str.{bytes_eq}
use Rattle.indexmap.specs.IndexMap.{insert_entry}
use Rattle.ld_value.specs.Datum.{Datum, same_datum}
use Rattle.ld_value.specs.Values.{value_of, fits_in}
use Rattle.ld_globals.specs.Declarations.{Declaration, fits_declared, suits}
use Rattle.ld_globals.specs.declared.faults.DeclareFault.{DeclareFault}
use Rattle.ld_globals.specs.declared.faults.DeclareFault.TheVariants as declaring
use Rattle.ld_globals.specs.declared.faults.GlobalFault.{GlobalFault}
use Rattle.ld_globals.specs.declared.faults.GlobalFault.TheVariants as getting
use Rattle.ld_globals.specs.declared.faults.SetFault.{SetFault}
use Rattle.ld_globals.specs.declared.faults.SetFault.TheVariants as setting

-- A key: a uri, and a person where each person has a value.
pub record Key : Type 0 where
  pub uri : List ℕ
  pub person : Option (List ℕ)

-- The key of a uri and a person.
abbrev pub key_at : List ℕ → Option (List ℕ) → Key
key_at uri person = record { uri = uri; person = person }

-- Whether the two are one key.
abbrev pub same_key : Key → Key → Bool
same_key a b = bytes_eq a.uri b.uri && option_eq bytes_eq a.person b.person

-- The last write of a key: the value that it gave, and its number among all writes of the store.
pub record Write : Type 0 where
  pub value : Option Datum
  pub number : ℕ

-- The declarations in the order in which they came; of each key that was written its last write, keys in the order
-- of their first writes; the number of all writes; and how many more writes are sure to need no memory.
pub record Store : Type 0 where
  pub declared : List (List ℕ × Declaration)
  pub written : List (Key × Write)
  pub stamp : ℕ
  pub spare : ℕ

-- The last value of a stamp, which then stays.
abbrev pub last_stamp : ℕ
last_stamp = 2 ^ 64 - 1

-- The stamp after one more write.
abbrev pub next_stamp : ℕ → ℕ
next_stamp stamp = min (stamp + 1) last_stamp

-- ---- what is declared

-- How the uri is declared among these.
abbrev pub declared_in : List (List ℕ × Declaration) → List ℕ → Option Declaration
declared_in declared uri = lookup (bytes_eq uri) declared

-- How the store declares the uri.
abbrev pub declared_at : Store → List ℕ → Option Declaration
declared_at store uri = declared_in store.declared uri

-- These, and the pair too where its uri is not among them.
abbrev pub with_declared : List (List ℕ × Declaration) → List ℕ × Declaration → List (List ℕ × Declaration)
with_declared declared pair = if is_some (declared_in declared pair.0) then declared else declared ++ pair ∷ []

-- The store after the pairs are declared in turn.
abbrev pub declare_in : Store → List (List ℕ × Declaration) → Store
declare_in store pairs = record store { declared = fold with_declared store.declared pairs }

-- The store declares the pair's uri with other contents.
abbrev pub Differs : Store → List ℕ × Declaration → Type 0
Differs store pair = (d : Declaration) × (declared_at store pair.0 ≡ Some d) × (d ≢ pair.1)

-- The store declares the pair's uri with the same contents, or not at all.
abbrev pub Agrees : Store → List ℕ × Declaration → Type 0
Agrees store pair = (d : Declaration) → declared_at store pair.0 ≡ Some d → d ≡ pair.1

-- The pair at this place is the first that differs.
pub record IsFirstToDiffer (store : Store) (pairs : List (List ℕ × Declaration)) (place : ℕ) : Type 0 where
  pub pair : List ℕ × Declaration
  pub there : slice_get pairs place ≡ Some pair
  pub differs : Differs store pair
  pub before : AllByRecursion (Agrees store) (take place pairs)

-- The fault tells of the first pair that differs, or that memory ran out.
abbrev pub IsTold : Store → List (List ℕ × Declaration) → DeclareFault → Type 0
IsTold store pairs (declaring.Differs place) = IsFirstToDiffer store pairs place
IsTold store pairs declaring.NoMemory = Unit {0}

-- ---- the value of a key

-- The key's last write, if it was ever written.
abbrev pub last_write : Store → Key → Option Write
last_write store key = lookup (same_key key) store.written

-- What a key of this declaration and this last write has: a key that was never written has the initial value.
abbrev pub value_after : Option Declaration → Option Write → Option Datum
value_after declared (Some write) = write.value
value_after (Some d) None = d.initial
value_after None None = None

-- The value of the key.
abbrev pub value_at : Store → Key → Option Datum
value_at store key = value_after (declared_at store key.uri) (last_write store key)

-- The value for a key of this declaration, where a person is given exactly where the kind has persons.
abbrev pub allowed_value : Bool → Option Datum → Result (Option Datum) GlobalFault
allowed_value true value = Ok value
allowed_value false value = Err getting.NotAllowed

-- What `get` answers at a uri of this declaration.
abbrev pub get_declared : Option Declaration → Store → Key → Result (Option Datum) GlobalFault
get_declared None store key = Err getting.UnknownGlobal
get_declared (Some d) store key = allowed_value (suits d.kind (is_some key.person)) (value_at store key)

-- What `get` answers.
abbrev pub get_answer : Store → Key → Result (Option Datum) GlobalFault
get_answer store key = get_declared (declared_at store key.uri) store key

-- ---- writes

-- The store after the key is given the value. It is a write where the value is another than the key had.
unfoldable pub put_in : Store → Key → Option Datum → Store
put_in store key value =
    if option_eq same_datum (value_at store key) value then store
    else record store {
      written = insert_entry same_key store.written key (record { value = value; number = next_stamp store.stamp });
      stamp = next_stamp store.stamp;
    }

-- The store with one write less to spare.
abbrev pub spend : Store → Store
spend store = record store { spare = store.spare - 1 }

-- The store with this many writes to spare, or more where it had more.
abbrev pub reserve_in : Store → ℕ → Store
reserve_in store writes = record store { spare = max store.spare writes }

-- The key may be given the value: its uri is declared, a person is given as the kind wants, and the value fits.
pub record IsWritable (store : Store) (key : Key) (value : Option Datum) : Type 0 where
  pub declaration : Declaration
  pub declared : declared_at store key.uri ≡ Some declaration
  pub suited : IsTrue (suits declaration.kind (is_some key.person))
  pub fitting : IsTrue (fits_declared declaration value)

-- The text's value, if it has one of the datatype that meets the restrictions.
unfoldable pub value_in : Declaration → List ℕ → Option Datum
value_in d text = option_and_then (λ value. if fits_in d.datatype d.limits value then Some value else None) (value_of d.datatype text)

-- What `set` is to write for a key that is allowed or not, and a text that has this value.
abbrev pub set_value : Bool → Option Datum → Result Datum SetFault
set_value allowed None = Err setting.BadValue
set_value true (Some value) = Ok value
set_value false (Some value) = Err setting.NotAllowed

-- What `set` is to write at a uri of this declaration, or why it is refused.
abbrev pub set_declared : Option Declaration → Key → List ℕ → Result Datum SetFault
set_declared None key text = Err setting.UnknownGlobal
set_declared (Some d) key text = set_value (suits d.kind (is_some key.person)) (value_in d text)

-- What `set` is to write, or why it is refused.
abbrev pub set_answer : Store → Key → List ℕ → Result Datum SetFault
set_answer store key text = set_declared (declared_at store key.uri) key text

-- The fault is the answer's, or tells that memory ran out.
abbrev pub IsRefused : {A : Type 0} → Result A SetFault → SetFault → Type 0
IsRefused answer fault = fault ≢ setting.NoMemory → answer ≡ Err fault

-- The key was given the value that the text has.
pub record IsSet (old new : Store) (key : Key) (text : List ℕ) : Type 0 where
  pub value : Datum
  pub answer : set_answer old key text ≡ Ok value
  pub put : new ≡ put_in old key (Some value)

-- ---- what was written since

-- The write came after the stamp; after the last stamp every write counts.
abbrev pub comes_after : ℕ → Write → Bool
comes_after stamp write = (stamp == last_stamp) || nat_lt stamp write.number

-- The number after which writes come after the stamp.
abbrev pub bound_of : ℕ → ℕ
bound_of stamp = if stamp == last_stamp then 0 else stamp

-- The key was written since the stamp.
abbrev pub is_since : ℕ → Option Write → Bool
is_since stamp None = false
is_since stamp (Some write) = comes_after stamp write

-- The store says of the key that it was written since the stamp.
abbrev pub written_since : Store → ℕ → Key → Bool
written_since store stamp key = is_since stamp (last_write store key)

-- Whoever kept a stamp of the old store learns from the new one: the stamp did not fall, and written since any earlier
-- stamp is each key that was, and each key whose uri was declared and whose value changed.
pub record KeepsWrites (old new : Store) : Type 0 where
  pub stamp : old.stamp ≤ new.stamp
  pub written : (since : ℕ) (key : Key) → since ≤ old.stamp → IsTrue (written_since old since key) → IsTrue (written_since new since key)
  pub changed : (since : ℕ) (key : Key) → since ≤ old.stamp → IsTrue (is_some (declared_at old key.uri))
      → value_at new key ≢ value_at old key → IsTrue (written_since new since key)
