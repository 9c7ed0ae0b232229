-- Objects of exactly one member.
use Rattle.std.specs.Prelude.{◌≡◌, ℕ, List, [], ◌∷◌, Option, Some, None, Bool, true, false, ◌||◌, if◌then◌else◌}
use Rattle.std.specs.List.{list_any}
use Rattle.std.specs.Str.{bytes_eq}
use Rattle.std.proofs.Common.{refl}
use Rattle.ld_json.specs.Access.{sole_of}
use Rattle.ld_json.specs.Fault.{node_fault}
use Rattle.ld_json.specs.Node.{Placed}
use Rattle.ld_json.specs.declared.code.Code.TheVariants.{WrongShape, UnknownMember}
use Rattle.ld_shape.specs.Keeping.{Keeps, wider_keeps, part_keeps}
use Rattle.ld_shape.specs.Objects.{needed_in}
use Rattle.ld_shape.specs.Reading.{Reading, faulty, part_or}
use Rattle.ld_shape.specs.Shapes.{Shape, picked}

-- A name that the member may have, and what the object gives then.
pub record Case (A : Type 0) : Type 0 where
  pub name : List ℕ
  pub shape : Shape A

-- The member of this name, and what is made of its value, which can be picked out of that again.
abbrev pub case : {A B : Type 0} (name : List ℕ) (make : A → B) (pick : B → Option A)
    → ((x : A) → pick (make x) ≡ Some x) → Shape A → Case B
case name make pick law shape = record { name = name; shape = picked make pick law (needed_in name shape) }

-- What the case of the name gives; a name that no case has is an unknown member.
abbrev pub chosen : {A : Type 0} → List (Case A) → Placed → List ℕ → Reading A
chosen [] node name = faulty (node_fault node UnknownMember)
chosen (case ∷ cases) node name = if bytes_eq name case.name then case.shape.reading node else chosen cases
    node name

-- The value is one that some case gives.
abbrev pub has_a_case : {A : Type 0} → List (Case A) → A → Bool
has_a_case cases x = list_any (λ case. case.shape.has_form x) cases

or_left : (a b : Bool) → a ≡ true → (a || b) ≡ true
or_left a b is = rw is

or_right : (a b : Bool) → b ≡ true → (a || b) ≡ true
or_right true b is = refl
or_right false b is = is

either_keeps : {A : Type 0} (here there : A → Bool) (test : Bool) (x y : Option A) → Keeps here x
    → Keeps there y
    → Keeps (λ a. here a || there a) (if test then x else y)
either_keeps here there true x y is are = wider_keeps here (λ a. here a || there a)
    (λ a. or_left (here a) (there a)) x is
either_keeps here there false x y is are = wider_keeps there (λ a. here a || there a)
    (λ a. or_right (here a) (there a)) y are

value_either : {A : Type 0} (test : Bool) (x y : Reading A)
    → (if test then x else y).value ≡ (if test then x.value else y.value)
value_either true x y = refl
value_either false x y = refl

-- What the case of a name gives is of the form of some case.
pub chosen_keeps : {A : Type 0} (cases : List (Case A)) (node : Placed) (name : List ℕ)
    → Keeps (has_a_case cases) (chosen cases node name).value
chosen_keeps [] node name = tt
chosen_keeps (case ∷ cases) node name =
    rw (value_either (bytes_eq name case.name) (case.shape.reading node) (chosen cases node name))
    (either_keeps case.shape.has_form (has_a_case cases) (bytes_eq name case.name)
    (case.shape.reading node).value (chosen cases node name).value (case.shape.formed node)
    (chosen_keeps cases node name))

-- An object of just one member, which is one of these.
abbrev pub sole : {A : Type 0} → List (Case A) → Shape A
sole cases = record {
  reading = λ node. part_or (faulty (node_fault node WrongShape)) (chosen cases node) (sole_of node.tree);
  has_form = has_a_case cases;
  formed = λ node. part_keeps (has_a_case cases) None (λ name. (chosen cases node name).value) tt
      (chosen_keeps cases node) (sole_of node.tree);
}
