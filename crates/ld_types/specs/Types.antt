-- The types of values, and those of terms. (docs/FORMATS.md, "Types")
use Rattle.std.specs.Prelude.{ℕ, List, [], ◌∷◌, Option, Some, None, Bool, true, false, slice_get}
use Rattle.std.specs.List.{list_all}
use Rattle.std.specs.Option.{option_map}
use Rattle.ld_base.specs.Maybe.{◌>>=◌, provided}
use Rattle.ld_model.specs.declared.property.Property.{Property}
use Rattle.ld_model.specs.declared.unit.Unit.{Unit}
use Rattle.ld_model.specs.Expressions.{ListOperator, adding, multiplying, PairOperator, subtracting, dividing, TermOf, TermsOf, property_term, literal_term, list_term, pair_term, now_term, opened_term, started_term, no_term, term_and}
use Rattle.ld_model.specs.Properties.{is_personal}
use Rattle.ld_value.specs.declared.kind.Kind.{Kind}
use Rattle.ld_value.specs.declared.kind.Kind.TheVariants as kind
use Rattle.ld_names.specs.declared.names.Named.{Named}
use Rattle.ld_names.specs.declared.names.Named.TheVariants as named
use Rattle.ld_names.specs.Names.{NameTable, named_by}
use Rattle.ld_types.specs.declared.types.ValueType.{ValueType}
use Rattle.ld_types.specs.declared.types.ValueType.TheVariants.{Text, Boolean, Integer, Datetime, Duration}

-- The type of the values of a datatype.
abbrev pub type_of : Kind → ValueType
type_of kind.String = Text
type_of kind.Text = Text
type_of kind.Uri = Text
type_of kind.Boolean = Boolean
type_of kind.Integer = Integer
type_of kind.Datetime = Datetime
type_of kind.Duration = Duration

-- Whether two types are one.
abbrev pub same_type : ValueType → ValueType → Bool
same_type Text Text = true
same_type Boolean Boolean = true
same_type Integer Integer = true
same_type Datetime Datetime = true
same_type Duration Duration = true
same_type _ _ = false

-- The values of the type have an order.
abbrev pub is_ordered : ValueType → Bool
is_ordered Text = false
is_ordered Boolean = false
is_ordered Integer = true
is_ordered Datetime = true
is_ordered Duration = true

-- ---- properties

-- The property, if what is named is one.
abbrev pub property_at : Unit → Named → Option Property
property_at unit (named.Prop p) = slice_get unit.properties p.0
property_at unit _ = None

-- The property that the identifier names.
abbrev pub property_named : Unit → NameTable → List ℕ → Option Property
property_named unit names id = named_by names id >>= property_at unit

-- Which property an identifier names.
abbrev pub Find : Type 0
Find = List ℕ → Option Property

-- The type of the property that the identifier names.
abbrev pub type_named : Find → List ℕ → Option ValueType
type_named find id = option_map (λ property. type_of property.datatype) (find id)

-- There is a property, and it is one of which each person has a value.
abbrev pub is_person's : Option Property → Bool
is_person's None = false
is_person's (Some property) = is_personal property.kind

-- ---- arithmetic

-- What the other operands of a sum or a product are, where the first is of this type.
abbrev pub others_of : ListOperator → ValueType → Option ValueType
others_of adding Integer = Some Integer
others_of adding Datetime = Some Duration
others_of adding Duration = Some Duration
others_of multiplying Integer = Some Integer
others_of _ _ = None

-- The type of a sum or a product of operands of these types: that of the first.
abbrev pub list_type : ListOperator → List ValueType → Option ValueType
list_type operator [] = None
list_type operator (first ∷ more) = others_of operator first >>= λ other. provided (list_all (same_type other) more) first

-- The type of a difference or a quotient.
abbrev pub pair_type : PairOperator → ValueType → ValueType → Option ValueType
pair_type subtracting Integer Integer = Some Integer
pair_type subtracting Datetime Duration = Some Datetime
pair_type subtracting Datetime Datetime = Some Duration
pair_type subtracting Duration Duration = Some Duration
pair_type dividing Integer Integer = Some Integer
pair_type _ _ _ = None

-- The same, where the types of both operands are known.
abbrev pub known_pair_type : PairOperator → Option ValueType → Option ValueType → Option ValueType
known_pair_type operator a b = a >>= λ x. b >>= λ y. pair_type operator x y

-- ---- terms

-- A type, and then those of a list, where all of them are known.
abbrev pub type_and : Option ValueType → Option (List ValueType) → Option (List ValueType)
type_and type types = type >>= λ first. option_map (λ more. first ∷ more) types

-- The type of a term, where it has one.
abbrev mutual
  pub term_type : Find → TermOf → Option ValueType
  term_type find (property_term id) = type_named find id
  term_type find (literal_term kind text) = Some (type_of kind)
  term_type find (list_term operator terms) = term_types find terms >>= list_type operator
  term_type find (pair_term operator a b) = known_pair_type operator (term_type find a) (term_type find b)
  term_type find now_term = Some Datetime
  term_type find (opened_term activity) = Some Datetime
  term_type find started_term = Some Datetime

  -- The types of all terms of a list, where each has one.
  pub term_types : Find → TermsOf → Option (List ValueType)
  term_types find no_term = Some []
  term_types find (term_and term terms) = type_and (term_type find term) (term_types find terms)
