-- The check of types. (docs/FORMATS.md, "Types")
use Rattle.std.specs.Prelude.{ℕ, List, [], ◌++◌, Option, Some, None, Bool, false, ◌&&◌, not, codes, flat_map}
use Rattle.ld_json.specs.declared.code.Code.TheVariants.{BadType}
use Rattle.ld_json.specs.Fault.{Told}
use Rattle.ld_model.specs.declared.property.Property.{Property}
use Rattle.ld_model.specs.declared.unit.Unit.{Unit}
use Rattle.ld_model.specs.Expressions.{TermOf}
use Rattle.ld_names.specs.Names.{NameTable}
use Rattle.ld_walk.specs.Parts.{Typed, Declared, ValueOf, OfRun, Changed, Tested, What, Types, Part}
use Rattle.ld_walk.specs.Places.{At, member}
use Rattle.ld_types.specs.declared.types.ValueType.{ValueType}
use Rattle.ld_types.specs.Faults.{fault_if}
use Rattle.ld_types.specs.PropertyFaults.{property_faults}
use Rattle.ld_types.specs.TermFaults.{is_no_value, term_faults, test_faults}
use Rattle.ld_types.specs.Types.{Find, property_named, type_named, is_person's, same_type, term_type}

-- The text is no value of the property.
abbrev pub is_no_value_of : Option Property → List ℕ → Bool
is_no_value_of None text = false
is_no_value_of (Some property) text = is_no_value property.datatype text

-- A property gets a value of another type.
abbrev pub is_other_type : Option ValueType → Option ValueType → Bool
is_other_type (Some property) (Some value) = not (same_type property value)
is_other_type _ _ = false

-- A change of a property. Its term stands in a place of the run, where the run changes what is no person's.
unfoldable pub change_faults : Find → At → Bool → List ℕ → TermOf → List Told
change_faults find at by_run property value =
    fault_if (is_other_type (type_named find property) (term_type find value)) BadType at
    ++ term_faults find (by_run && not (is_person's (find property))) (member at (codes "value")) value

-- The faults of what is to have the right types, at the place and in it.
abbrev pub typed_faults : Find → At → Typed → List Told
typed_faults find at (Declared property) = property_faults at property
typed_faults find at (ValueOf id text) = fault_if (is_no_value_of (find id) text) BadType at
typed_faults find at (OfRun id) = fault_if (is_person's (find id)) BadType at
typed_faults find at (Changed by_run property value) = change_faults find at by_run property value
typed_faults find at (Tested test) = test_faults find at test

-- The faults of types in what stands at the place: none where it is to have no types.
abbrev pub types_in : Find → At → What → List Told
types_in find at (Types typed) = typed_faults find at typed
types_in find at _ = []

-- The faults of types in one part, at its place.
abbrev pub type_faults_of : Find → Part → List Told
type_faults_of find part = types_in find part.at part.what

-- The faults of types in all parts of the unit, in document order.
abbrev pub type_faults : Unit → NameTable → List Part → List Told
type_faults unit names parts = flat_map (type_faults_of (property_named unit names)) parts
