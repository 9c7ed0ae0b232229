-- Shapes: what is read from a part of a document, and the form that it keeps to.
use Rattle.std.specs.Prelude.{◌≡◌, Option, Some, None, Bool, true, false, ◌&&◌}
use Rattle.std.proofs.Common.{ap, ◌∙◌}
use Rattle.serde_json.specs.Data.{Data}
use Rattle.ld_json.specs.Fault.{node_fault}
use Rattle.ld_json.specs.Node.{Placed}
use Rattle.ld_json.specs.declared.code.Code.{Code}
use Rattle.ld_json.specs.declared.code.Code.TheVariants.{WrongShape, NotInProfile}
use Rattle.ld_shape.specs.Keeping.{Keeps, is_given, anything, anything_keeps, tested, tested_keeps, both_keep, after_keeps, mapped_keeps}
use Rattle.ld_shape.specs.Reading.{Reading, faulty, mapped, both, after, or_fault}

-- What each source gives, and the form of all that is given.
pub record Described (Source A : Type 0) : Type 0 where
  pub reading : Source → Reading A
  pub has_form : A → Bool
  pub formed : (source : Source) → Keeps has_form (reading source).value

-- A shape describes what is read from nodes.
abbrev pub Shape : Type 0 → Type 0
Shape A = Described Placed A

-- ---- single values

-- What is read from the tree, or the fault of this code.
abbrev pub coded_leaf : {A : Type 0} (code : Data → Code) (read : Data → Option A) (form : A → Bool)
    → ((tree : Data) → Keeps form (read tree)) → Shape A
coded_leaf code read form kept = record {
  reading = λ node. or_fault (node_fault node (code node.tree)) (read node.tree);
  has_form = form;
  formed = λ node. kept node.tree;
}

-- What is read from the tree; a node from which nothing is read has the wrong shape.
abbrev pub leaf : {A : Type 0} (read : Data → Option A) (form : A → Bool)
    → ((tree : Data) → Keeps form (read tree)) → Shape A
leaf = coded_leaf (λ _. WrongShape)

-- What is read from the tree and passes the test, which is its form.
abbrev pub checked : {A : Type 0} → (Data → Option A) → (A → Bool) → Shape A
checked read form = leaf (λ tree. tested form (read tree)) form (λ tree. tested_keeps form (read tree))

-- What is read from the tree, of any form.
abbrev pub plain : {A : Type 0} → (Data → Option A) → Shape A
plain read = leaf read anything (λ tree. anything_keeps (read tree))

-- The node is left out of this engine, whatever it holds.
abbrev pub left_out : {A : Type 0} → Shape A
left_out = record
    { reading = λ node. faulty (node_fault node NotInProfile); has_form = λ _. false; formed = λ _. tt }

-- ---- what is made of what is read

-- The first and then the second.
abbrev pub pair : {Source A B : Type 0} → Described Source A → Described Source B → Described Source (A × B)
pair these those = record {
  reading = λ source. both (these.reading source) (those.reading source);
  has_form = λ p. these.has_form p.0 && those.has_form p.1;
  formed = λ source. both_keep these.has_form those.has_form (these.reading source).value
      (those.reading source).value (these.formed source) (those.formed source);
}

-- The same, where nothing is wrong before.
abbrev pub following : {Source A : Type 0} → (Source → Reading (Unit {0})) → Described Source A
    → Described Source A
following before next = record {
  reading = λ source. after (before source) (next.reading source);
  has_form = next.has_form;
  formed = λ source. after_keeps next.has_form (before source).value (next.reading source).value
      (next.formed source);
}

-- Where a value is made of parts that have the form, the parts that are seen in it have the form.
pub part_formed : {A B : Type 0} (make : A → B) (parts : B → A) (form : A → Bool)
    → ((x : A) → parts (make x) ≡ x)
    → (x : A) → form x ≡ true → form (parts (make x)) ≡ true
part_formed make parts form law x is = ap form (law x) ∙ is

-- This made of what is read. What it is made of can be seen in it again, and has to have its form.
abbrev pub made : {Source A B : Type 0} (make : A → B) (parts : B → A) → ((x : A) → parts (make x) ≡ x)
    → Described Source A → Described Source B
made make parts law shape = record {
  reading = λ source. mapped make (shape.reading source);
  has_form = λ x. shape.has_form (parts x);
  formed = λ source. mapped_keeps shape.has_form (λ x. shape.has_form (parts x)) make
      (part_formed make parts shape.has_form law) (shape.reading source).value (shape.formed source);
}

-- What can be picked out of a value made of one of the form is there, and has the form.
pub picked_formed : {A B : Type 0} (make : A → B) (pick : B → Option A) (form : A → Bool)
    → ((x : A) → pick (make x) ≡ Some x)
    → (x : A) → form x ≡ true → is_given form (pick (make x)) ≡ true
picked_formed make pick form law x is = ap (is_given form) (law x) ∙ is

-- The same, of a kind of value of which there are others: what it is made of can be picked out of it.
abbrev pub picked : {Source A B : Type 0} (make : A → B) (pick : B → Option A)
    → ((x : A) → pick (make x) ≡ Some x) → Described Source A → Described Source B
picked make pick law shape = record {
  reading = λ source. mapped make (shape.reading source);
  has_form = λ x. is_given shape.has_form (pick x);
  formed = λ source. mapped_keeps shape.has_form (λ x. is_given shape.has_form (pick x)) make
      (picked_formed make pick shape.has_form law) (shape.reading source).value (shape.formed source);
}

-- ---- by key

-- The value read has the key.
abbrev pub HasKey : {K A : Type 0} → (A → K) → K → Option A → Type 0
HasKey key k None = Unit {0}
HasKey key k (Some x) = key x ≡ k

-- A value that has the key, and the form for it, has the form for its own key.
pub key_formed : {K A : Type 0} (form : K → A → Bool) (key : A → K) (k : K) (o : Option A) → HasKey key k o
    → Keeps (form k) o → Keeps (λ x. form (key x) x) o
key_formed form key k None has is = tt
key_formed form key k (Some x) has is = ap (λ it. form it x) has ∙ is

-- One of several shapes, by a key that is told by the source and by the value alike.
abbrev pub by_key : {Source K A : Type 0} (key_of : Source → K) (shapes : K → Described Source A)
    (key : A → K)
    → ((source : Source) → HasKey key (key_of source) ((shapes (key_of source)).reading source).value)
    → Described Source A
by_key key_of shapes key agrees = record {
  reading = λ source. (shapes (key_of source)).reading source;
  has_form = λ x. (shapes (key x)).has_form x;
  formed = λ source. key_formed (λ k. (shapes k).has_form) key (key_of source)
      ((shapes (key_of source)).reading source).value (agrees source)
      ((shapes (key_of source)).formed source);
}
