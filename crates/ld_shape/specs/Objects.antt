-- Objects and their members.
use Rattle.std.specs.Prelude.{◌≡◌, ℕ, List, [], ◌∷◌, ◌++◌, Option, Some, None, Bool, true}
use Rattle.std.proofs.Common.{refl}
use Rattle.serde_json.specs.Find.{get}
use Rattle.ld_json.specs.Access.{missing_at, only_faults}
use Rattle.ld_json.specs.Node.{Placed, member_node}
use Rattle.ld_shape.specs.Keeping.{if_given, is_given, part_keeps, mapped_keeps, anything}
use Rattle.ld_shape.specs.Reading.{Reading, found, faulty, mapped, part_or, unless_any}
use Rattle.ld_shape.specs.Shapes.{Shape, pair, following, made, left_out}

-- ---- what is read from an object at a member

-- The member of this name, which has to be there.
abbrev pub needed_in : {A : Type 0} → List ℕ → Shape A → Shape A
needed_in name shape = record {
  reading = λ node. part_or (faulty (missing_at node name))
      (λ tree. shape.reading (member_node node name tree)) (get name node.tree);
  has_form = shape.has_form;
  formed = λ node. part_keeps shape.has_form None (λ tree. (shape.reading (member_node node name tree)).value)
      tt (λ tree. shape.formed (member_node node name tree)) (get name node.tree);
}

-- What is read at the member of this name, or the default where it is absent.
abbrev pub read_or : {A : Type 0} → List ℕ → A → Shape A → Placed → Reading A
read_or name default shape node = part_or (found default) (λ tree. shape.reading (member_node node name tree))
    (get name node.tree)

-- The same as a shape. The default has its form.
abbrev pub default_in : {A : Type 0} (name : List ℕ) (default : A) (shape : Shape A)
    → shape.has_form default ≡ true → Shape A
default_in name default shape is = record {
  reading = read_or name default shape;
  has_form = shape.has_form;
  formed = λ node. part_keeps shape.has_form (Some default)
      (λ tree. (shape.reading (member_node node name tree)).value) is
      (λ tree. shape.formed (member_node node name tree)) (get name node.tree);
}

-- The value as one that may be absent.
abbrev pub given : {A : Type 0} → Shape A → Shape (Option A)
given shape = record {
  reading = λ node. mapped (λ x. Some x) (shape.reading node);
  has_form = if_given shape.has_form;
  formed = λ node. mapped_keeps shape.has_form (if_given shape.has_form) (λ x. Some x) (λ x is. is)
      (shape.reading node).value (shape.formed node);
}

-- The value, which is there where another object of its kind may have none.
abbrev pub present : {A : Type 0} → Shape A → Shape (Option A)
present shape = record {
  reading = λ node. mapped (λ x. Some x) (shape.reading node);
  has_form = is_given shape.has_form;
  formed = λ node. mapped_keeps shape.has_form (is_given shape.has_form) (λ x. Some x) (λ x is. is)
      (shape.reading node).value (shape.formed node);
}

-- The member of this name, if it is there.
abbrev pub optional_in : {A : Type 0} → List ℕ → Shape A → Shape (Option A)
optional_in name shape = default_in name None (given shape) refl

-- No member of this name: this engine leaves it out.
abbrev pub absent_in : List ℕ → Shape (Unit {0})
absent_in name = record {
  reading = λ node. part_or (found tt) (λ tree. left_out.reading (member_node node name tree))
      (get name node.tree);
  has_form = anything;
  formed = λ node. part_keeps anything (Some tt) (λ tree. None) refl (λ tree. tt) (get name node.tree);
}

-- ---- members of an object

-- Members that are read from an object: their names, and what they give together.
pub record Members (A : Type 0) : Type 0 where
  pub names : List (List ℕ)
  pub shape : Shape A

infixr 10 ◌and◌
-- These members and then those.
abbrev pub ◌and◌ : {A B : Type 0} → Members A → Members B → Members (A × B)
these and those = record { names = these.names ++ those.names; shape = pair these.shape those.shape }

-- A member that has to be there.
abbrev pub needed : {A : Type 0} → List ℕ → Shape A → Members A
needed name shape = record { names = name ∷ []; shape = needed_in name shape }

-- A member that may be absent.
abbrev pub optional : {A : Type 0} → List ℕ → Shape A → Members (Option A)
optional name shape = record { names = name ∷ []; shape = optional_in name shape }

-- A member that has a default where it is absent.
abbrev pub or_default : {A : Type 0} (name : List ℕ) (default : A) (shape : Shape A)
    → shape.has_form default ≡ true → Members A
or_default name default shape is = record { names = name ∷ []; shape = default_in name default shape is }

-- A member that is listed and left out: it must not be there.
abbrev pub absent : List ℕ → Members (Unit {0})
absent name = record { names = name ∷ []; shape = absent_in name }

-- No member at all, and always this value; the test tells this value from others.
abbrev pub always : {A : Type 0} (x : A) (is_x : A → Bool) → is_x x ≡ true → Members A
always x is_x is = record
    { names = []; shape = record { reading = λ _. found x; has_form = is_x; formed = λ _. is } }

-- ---- objects

-- The node is an object that has no members but these.
abbrev pub only_members : {A : Type 0} → Members A → Placed → Reading (Unit {0})
only_members members node = unless_any (only_faults members.names node)

-- An object that has no members but these, made of their values.
abbrev pub object : {A B : Type 0} (make : A → B) (parts : B → A) → ((x : A) → parts (make x) ≡ x) → Members A
    → Shape B
object make parts law members = following (only_members members) (made make parts law members.shape)
