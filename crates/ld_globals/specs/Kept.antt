-- How the program keeps the store: keys by numbers, and what holds of them.
use Rattle.std.specs.Prelude.{◌≡◌, ◌≤◌, ◌<◌, ◌++◌, ℕ, List, [], map, position, slice_get, Result}
use Rattle.std.specs.Prelude.{is_some, Bool, true, false, ◌&&◌, nat_eq, nat_lt, IsTrue, Option, Some, None, option_map}
use Rattle.std.specs.List.{AllByRecursion, IsDistinct}
use Rattle.std.specs.Map.{keys_of, lookup}
use Rattle.std.specs.Option.{option_eq}
use Rattle.std.specs.Str.{bytes_eq}
use Rattle.ld_base.specs.Roomy.{Roomy}
use Rattle.ld_value.specs.Datum.{Datum, datum_of}
use Rattle.ld_value.specs.declared.value.Value.{Value}
use Rattle.ld_globals.specs.Declarations.{Declaration, declaration_of, fits_declared, suits}
use Rattle.ld_globals.specs.Store.{Key, Store, Write, set_value, value_in}
use Rattle.ld_globals.specs.declared.cell.Cell.{Cell}
use Rattle.ld_globals.specs.declared.declared.Declared.{Declared}
use Rattle.ld_globals.specs.declared.faults.SetFault.{SetFault}
use Rattle.ld_globals.specs.declared.key_number.KeyNumber.{KeyNumber}

-- A uri and how it is declared.
abbrev pub uri_and_declaration : Roomy × Declared → List ℕ × Declaration
uri_and_declaration e = (e.0.bytes, declaration_of e.1)

-- The uri of an entry; nothing where there is none.
abbrev pub entry_uri : Option (Roomy × Declared) → List ℕ
entry_uri None = []
entry_uri (Some e) = e.0.bytes

-- The text of a person; nothing where there is none.
abbrev pub person_text : Option (List ℕ) → List ℕ
person_text None = []
person_text (Some text) = text

-- The key of these numbers, over the lists of declarations and of persons.
abbrev pub key_of : List (Roomy × Declared) → List (List ℕ) → KeyNumber → Key
key_of declared persons k = record { uri = entry_uri (slice_get declared k.uri); person = option_map (λ p. person_text (slice_get persons p)) k.person }

-- The last write that the cell keeps.
abbrev pub write_of : Cell → Write
write_of c = record { value = option_map datum_of c.value; number = c.number }

-- The key and its last write.
abbrev pub written_of : List (Roomy × Declared) → List (List ℕ) → KeyNumber × Cell → Key × Write
written_of declared persons e = (key_of declared persons e.0, write_of e.1)

-- The store that is kept so.
abbrev pub store_of : List (Roomy × Declared) → List (List ℕ) → List (KeyNumber × Cell) → ℕ → ℕ → Store
store_of declared persons cells stamp spare = record {
  declared = map uri_and_declaration declared;
  written = map (written_of declared persons) cells;
  stamp = stamp;
  spare = spare;
}

-- A store that declares these and holds no value.
abbrev pub declaring : List (Roomy × Declared) → Store
declaring declared = store_of declared [] [] 0 0

-- The uris and how they are declared.
abbrev pub pairs_of : List (Roomy × Declared) → List (List ℕ × Declaration)
pairs_of = map uri_and_declaration

-- The keys and their last writes.
abbrev pub writes_of : List (Roomy × Declared) → List (List ℕ) → List (KeyNumber × Cell) → List (Key × Write)
writes_of declared persons cells = map (written_of declared persons) cells

-- The initial value fits.
abbrev pub IsWhole : Roomy × Declared → Type 0
IsWhole e = IsTrue (fits_declared (declaration_of e.1) (option_map datum_of e.1.initial))

-- Whether the two are numbers of one key.
abbrev pub same_number : KeyNumber → KeyNumber → Bool
same_number a b = nat_eq a.uri b.uri && option_eq nat_eq a.person b.person

-- The slot of the cell of the uri and the person with these numbers; none where the person has no number.
abbrev pub slot_of_key : List (KeyNumber × Cell) → ℕ → Option (Option ℕ) → Option ℕ
slot_of_key cells uri None = None
slot_of_key cells uri (Some person) = position (same_number (record { uri = uri; person = person })) (keys_of cells)

-- What is in the cell, or else the initial value.
abbrev pub datum_of_cell : Option Value → Option (KeyNumber × Cell) → Option Datum
datum_of_cell initial None = option_map datum_of initial
datum_of_cell initial (Some e) = option_map datum_of e.1.value

-- What is in the cell of the slot; where there is none, the initial value.
abbrev pub datum_in : Option Value → List (KeyNumber × Cell) → Option ℕ → Option Datum
datum_in initial cells None = option_map datum_of initial
datum_in initial cells (Some slot) = datum_of_cell initial (slice_get cells slot)

-- Whole entries were put at the end.
abbrev pub Extends : List (Roomy × Declared) → List (Roomy × Declared) → Type 0
Extends old new = (added : List (Roomy × Declared)) × (new ≡ old ++ added) × AllByRecursion IsWhole added

-- The number, where there is one, is of a person.
abbrev pub IsNumbered : List (List ℕ) → Option ℕ → Type 0
IsNumbered persons None = Unit {0}
IsNumbered persons (Some p) = (text : List ℕ) × (slice_get persons p ≡ Some text)

-- The number is that of the person.
abbrev pub IsPersonNumber : List (List ℕ) → Option (List ℕ) → Option ℕ → Type 0
IsPersonNumber persons None None = Unit {0}
IsPersonNumber persons (Some text) (Some p) = slice_get persons p ≡ Some text
IsPersonNumber persons _ _ = ⊥

-- The person is given, and has no number.
abbrev pub IsUnknown : List (List ℕ) → Option (List ℕ) → Type 0
IsUnknown persons None = ⊥
IsUnknown persons (Some text) = AllByRecursion (λ other. bytes_eq text other ≡ false) persons

-- The number is that of the uri.
pub record IsUriNumber (declared : List (Roomy × Declared)) (uri : List ℕ) (number : ℕ) : Type 0 where
  pub entry : Roomy × Declared
  pub there : slice_get declared number ≡ Some entry
  pub same : bytes_eq uri entry.0.bytes ≡ true

-- The uri is declared so, and has the number.
pub record IsFound (declared : List (Roomy × Declared)) (uri : List ℕ) (number : ℕ) (contents : Declared) : Type 0 where
  pub key : Roomy
  pub there : slice_get declared number ≡ Some (key, contents)
  pub same : bytes_eq uri key.bytes ≡ true
  pub value : lookup (λ k. bytes_eq uri k.bytes) declared ≡ Some contents

-- The numbers are those of the key.
pub record IsNumberOf (declared : List (Roomy × Declared)) (persons : List (List ℕ)) (key : Key) (k : KeyNumber) : Type 0 where
  pub uri : IsUriNumber declared key.uri k.uri
  pub person : IsPersonNumber persons key.person k.person

-- No uri is declared twice.
abbrev pub DeclareOnce : List (Roomy × Declared) → Type 0
DeclareOnce declared = IsDistinct (λ a b. bytes_eq a.bytes b.bytes) (keys_of declared)

-- No uri is declared twice, and no person has two numbers.
abbrev pub IsNumbering : List (Roomy × Declared) → List (List ℕ) → Type 0
IsNumbering declared persons = DeclareOnce declared × IsDistinct bytes_eq persons

-- The key's numbers are of a declaration and of a person, as its kind wants, and its value fits.
pub record IsCell (declared : List (Roomy × Declared)) (persons : List (List ℕ)) (e : KeyNumber × Cell) : Type 0 where
  pub entry : Roomy × Declared
  pub there : slice_get declared e.0.uri ≡ Some entry
  pub person : IsNumbered persons e.0.person
  pub suited : IsTrue (suits entry.1.kind (is_some e.0.person))
  pub fitting : IsTrue (fits_declared (declaration_of entry.1) (option_map datum_of e.1.value))

-- The cell's write is one of the store's.
abbrev pub IsCounted : ℕ → KeyNumber × Cell → Type 0
IsCounted stamp e = (0 < e.1.number) × (e.1.number ≤ stamp)

-- The number of the write in the cell of the slot, 0 where there is no such cell.
abbrev pub write_number_in : Option (KeyNumber × Cell) → ℕ
write_number_in None = 0
write_number_in (Some e) = e.1.number

-- The slot stands with the number of its cell's write.
abbrev pub IsTied : List (KeyNumber × Cell) → ℕ × ℕ → Type 0
IsTied cells e = e.1 ≡ write_number_in (slice_get cells e.0)

-- What a key that is declared so is to be set to by the text, or why it is refused.
abbrev pub read_in : Declared → Bool → List ℕ → Result Datum SetFault
read_in declared has_person text = set_value (suits declared.kind has_person) (value_in (declaration_of declared) text)

-- ---- what was written since

-- The key of the cell; where there is none, nothing.
abbrev pub key_in : List (Roomy × Declared) → List (List ℕ) → Option (KeyNumber × Cell) → Key
key_in declared persons None = record { uri = []; person = None }
key_in declared persons (Some e) = key_of declared persons e.0

-- The key of the cell at the slot.
abbrev pub key_at_slot : List (Roomy × Declared) → List (List ℕ) → List (KeyNumber × Cell) → ℕ × ℕ → Key
key_at_slot declared persons cells e = key_in declared persons (slice_get cells e.0)

-- The slot has a cell.
abbrev pub IsFilled : List (Roomy × Declared) → List (List ℕ) → List (KeyNumber × Cell) → ℕ × ℕ → Type 0
IsFilled declared persons cells e = (c : KeyNumber × Cell) × (slice_get cells e.0 ≡ Some c) × IsCell declared persons c

-- The number came after the bound.
abbrev pub is_later : ℕ → ℕ × ℕ → Bool
is_later bound e = nat_lt bound e.1

-- What is left of a walk over slots; where there is no walk, nothing.
abbrev pub walk_left : Option (List (ℕ × ℕ)) → List (ℕ × ℕ)
walk_left None = []
walk_left (Some es) = es
