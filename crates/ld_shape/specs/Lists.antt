-- Lists of values of one shape.
use Rattle.std.specs.Prelude.{◌≡◌, ℕ, suc, List, [], ◌∷◌, Option, Some, None, is_some, Bool, true, false, ◌&&◌, nat_le, length, if◌then◌else◌}
use Rattle.std.specs.List.{list_all}
use Rattle.std.proofs.Common.{refl, ap, ◌∙◌}
use Rattle.serde_json.specs.Find.{as_array}
use Rattle.ld_json.specs.Access.{item_nodes}
use Rattle.ld_json.specs.Fault.{Told, node_fault}
use Rattle.ld_json.specs.Node.{Placed}
use Rattle.ld_json.specs.declared.code.Code.TheVariants.{WrongShape}
use Rattle.ld_shape.specs.Forms.{is_between}
use Rattle.ld_shape.specs.Keeping.{Keeps, both_keep, part_keeps}
use Rattle.ld_shape.specs.Objects.{Members, or_default}
use Rattle.ld_shape.specs.Reading.{fault_unless, Reading, found, faulty, part_or, mapped, both, after, or_fault, option_both, option_after, option_mapped}
use Rattle.ld_shape.specs.Shapes.{Shape}

-- What each of the nodes gives, in order.
abbrev pub each : {A : Type 0} → Shape A → List Placed → Reading (List A)
each shape [] = found []
each shape (node ∷ nodes) = mapped (λ p. p.0 ∷ p.1) (both (shape.reading node) (each shape nodes))

-- The nodes of the elements of an array whose number passes the test.
abbrev pub elements_in : (ℕ → Bool) → Placed → Option (List Placed)
elements_in fits node = if is_some (as_array node.tree)
    && fits (length (item_nodes node)) then Some (item_nodes node) else None

-- No array, or one whose number of elements does not pass the test.
abbrev pub number_faults : (ℕ → Bool) → Placed → List Told
number_faults fits node = fault_unless (node_fault node WrongShape) (elements_in fits node)

-- The array has all its elements, and their number passes the test.
abbrev pub HasNumber : (ℕ → Bool) → Placed → Type 0
HasNumber fits node = elements_in fits node ≡ Some (item_nodes node)

-- ---- the form of a list

-- As many values as nodes, and each of the form.
abbrev pub AreFormed : {A : Type 0} → (A → Bool) → ℕ → Option (List A) → Type 0
AreFormed form count None = Unit {0}
AreFormed form count (Some xs) = (length xs ≡ count) × (list_all form xs ≡ true)

one_more_formed : {A : Type 0} (form : A → Bool) (count : ℕ) (x : Option A) (xs : Option (List A))
    → Keeps form x → AreFormed form count xs
    → AreFormed form (suc count) (option_mapped (λ p. p.0 ∷ p.1) (option_both x xs))
one_more_formed form count None xs is are = tt
one_more_formed form count (Some x) None is are = tt
one_more_formed form count (Some x) (Some xs) is are = (ap (λ n. suc n) are.0, rw is are.1)

-- A list has as many values as nodes, and each has its form.
pub each_formed : {A : Type 0} (shape : Shape A) (nodes : List Placed)
    → AreFormed shape.has_form (length nodes) (each shape nodes).value
each_formed shape [] = (refl, refl)
each_formed shape (node ∷ nodes) =
    one_more_formed shape.has_form (length nodes) (shape.reading node).value (each shape nodes).value
    (shape.formed node) (each_formed shape nodes)

-- The list of an array that passes the test has a length that passes it, and values of the form.
pub count_formed : {A : Type 0} (form : A → Bool) (fits : ℕ → Bool) (array : Bool) (nodes : List Placed)
    (xs : Option (List A)) (test : Bool) → fits (length nodes) ≡ test
    → AreFormed form (length nodes) xs
    → Keeps (λ xs. fits (length xs) && list_all form xs)
    (option_after (if array && test then Some nodes else None) xs)
count_formed form fits false nodes xs test is are = tt
count_formed form fits true nodes xs false is are = tt
count_formed form fits true nodes None true is are = tt
count_formed form fits true nodes (Some xs) true is are = rw (ap fits are.0 ∙ is) are.1

-- The list that an array gives, whose number of elements passes the test.
abbrev pub list_where : {A : Type 0} → (ℕ → Bool) → Shape A → Shape (List A)
list_where fits shape = record {
  reading = λ node. after (or_fault (node_fault node WrongShape) (elements_in fits node))
      (each shape (item_nodes node));
  has_form = λ xs. fits (length xs) && list_all shape.has_form xs;
  formed = λ node. count_formed shape.has_form fits (is_some (as_array node.tree)) (item_nodes node)
      (each shape (item_nodes node)).value (fits (length (item_nodes node))) refl
      (each_formed shape (item_nodes node));
}

-- The list of an array of this many elements or more.
abbrev pub list_of : {A : Type 0} → ℕ → Shape A → Shape (List A)
list_of least = list_where (nat_le least)

-- The list of an array of at least and at most this many elements.
abbrev pub list_between : {A : Type 0} → ℕ → ℕ → Shape A → Shape (List A)
list_between least most = list_where (is_between least most)

-- The list at the member of this name; an absent one is empty.
abbrev pub list : {A : Type 0} → List ℕ → Shape A → Members (List A)
list name shape = or_default name [] (list_of 0 shape) refl

-- ---- two values

-- The two nodes, where there are just two.
abbrev pub two_among : List Placed → Option (Placed × Placed)
two_among [] = None
two_among (_ ∷ []) = None
two_among (first ∷ (second ∷ [])) = Some (first, second)
two_among (_ ∷ (_ ∷ (_ ∷ _))) = None

-- Both values of an array of just two elements.
abbrev pub pair_of : {A : Type 0} → Shape A → Shape (A × A)
pair_of shape = record {
  reading = λ node. part_or (faulty (node_fault node WrongShape))
      (λ two. both (shape.reading two.0) (shape.reading two.1)) (two_among (item_nodes node));
  has_form = λ p. shape.has_form p.0 && shape.has_form p.1;
  formed = λ node. part_keeps (λ p. shape.has_form p.0 && shape.has_form p.1) None
      (λ two. option_both (shape.reading two.0).value (shape.reading two.1).value) tt
      (λ two. both_keep shape.has_form shape.has_form (shape.reading two.0).value (shape.reading two.1).value
      (shape.formed two.0) (shape.formed two.1)) (two_among (item_nodes node));
}

-- No array, or one of another number of elements than two.
abbrev pub two_faults : Placed → List Told
two_faults node = fault_unless (node_fault node WrongShape) (two_among (item_nodes node))
