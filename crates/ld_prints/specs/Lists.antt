-- Lists of values, printed.
use Rattle.std.specs.Prelude.{◌≡◌, ℕ, ◌+◌, ◌==◌, suc, List, [], ◌∷◌, map, length, Option, Some, None, Bool, true, false, ◌||◌, nat_le, if◌then◌else◌}
use Rattle.std.specs.List.{list_all}
use Rattle.std.proofs.Common.{refl, ap, ◌∙◌, zero-le}
use Rattle.serde_json.specs.Data.{Data, array, no_items, item}
use Rattle.serde_json.specs.View.{items_of}
use Rattle.serde_json.specs.Written.{has_float}
use Rattle.ld_json.specs.Access.{nodes_from, item_nodes}
use Rattle.ld_json.specs.Node.{Placed, item_node, member_node}
use Rattle.ld_shape.specs.Lists.{each, list as list_members, list_of as list_of_shape, list_where as list_where_shape, pair_of as pair_shape}
use Rattle.ld_shape.specs.Reading.{at_part, option_both, option_after, option_mapped}
use Rattle.ld_shape.specs.Shapes.{Shape}
use Rattle.ld_value.proofs.Choices.{and_left, and_right, eq_from, le_test}
use Rattle.ld_prints.specs.Canonical.{IsCanonical}
use Rattle.ld_prints.specs.CanonicalRows.{each_canonical}
use Rattle.ld_prints.specs.Objects.{ReadsMembers, PrintedMembers, unless_default, or_default_of}
use Rattle.ld_prints.specs.Printing.{placed, ReadsBack, Printed}
use Rattle.ld_prints.specs.Whole.{neither, each_whole}

-- The list has no element.
abbrev pub is_nil : {A : Type 0} → List A → Bool
is_nil xs = length xs == 0

-- Each value is read from its tree.
abbrev pub EachReads : {A : Type 0} → Shape A → List A → List Data → Type 0
EachReads shape [] [] = Unit {0}
EachReads shape [] (_ ∷ _) = ⊥
EachReads shape (_ ∷ _) [] = ⊥
EachReads shape (x ∷ xs) (tree ∷ trees) = ReadsBack shape x tree × EachReads shape xs trees

-- The nodes of elements whose trees are read are read one after another.
pub each_from_back : {A : Type 0} (shape : Shape A) (xs : List A) (trees : List Data) (node : Placed) (index : ℕ)
    → EachReads shape xs trees
    → (each shape (nodes_from node index (items_of trees))).value ≡ Some xs
each_from_back shape [] [] node index back = refl
each_from_back shape [] (_ ∷ _) node index back = absurd back
each_from_back shape (_ ∷ _) [] node index back = absurd back
each_from_back shape (x ∷ xs) (tree ∷ trees) node index back =
    ap (λ o. option_mapped (λ p. p.0 ∷ p.1) (option_both o
    (each shape (nodes_from node (index + 1) (items_of trees))).value))
    (back.0.reads node.file (item_node node index tree).place)
    ∙ ap (λ o. option_mapped (λ p. p.0 ∷ p.1) (option_both (Some x) o))
    (each_from_back shape xs trees node (index + 1) back.1)

-- There are as many nodes as values.
pub count_back : {A : Type 0} (shape : Shape A) (xs : List A) (trees : List Data) (node : Placed) (index : ℕ)
    → EachReads shape xs trees → length (nodes_from node index (items_of trees)) ≡ length xs
count_back shape [] [] node index back = refl
count_back shape [] (_ ∷ _) node index back = absurd back
count_back shape (_ ∷ _) [] node index back = absurd back
count_back shape (x ∷ xs) (tree ∷ trees) node index back =
    ap (λ n. suc n) (count_back shape xs trees node (index + 1) back.1)

-- There are as many nodes as values have trees.
pub count_mapped : {A : Type 0} (print : A → Data) (xs : List A) (node : Placed) (index : ℕ)
    → length (nodes_from node index (items_of (map print xs))) ≡ length xs
count_mapped print [] node index = refl
count_mapped print (x ∷ xs) node index = ap (λ n. suc n) (count_mapped print xs node (index + 1))

-- A list is read from the array of the trees of its values.
pub list_back : {A : Type 0} (fits : ℕ → Bool) (shape : Shape A) (xs : List A) (trees : List Data)
    → fits (length xs) ≡ true → EachReads shape xs trees
    → ReadsBack (list_where_shape fits shape) xs (array (items_of trees))
list_back fits shape xs trees is back = record {
  reads = λ file place.
      let node : Placed = placed file place (array (items_of trees)) in
      let fit : fits (length (item_nodes node)) ≡ true =
      ap fits (count_back shape xs trees node 0 back) ∙ is in
      ap (λ test. option_after (if test then Some (item_nodes node) else None)
      (each shape (item_nodes node)).value) fit
      ∙ each_from_back shape xs trees node 0 back;
}

-- The values of the form are read from their trees.
pub each_printed : {A : Type 0} (p : Printed A) (xs : List A) → list_all p.shape.has_form xs ≡ true
    → EachReads p.shape xs (map p.print xs)
each_printed p [] is = tt
each_printed p (x ∷ xs) is = (
  p.back x (and_left (p.shape.has_form x) (list_all p.shape.has_form xs) is),
  each_printed p xs (and_right (p.shape.has_form x) (list_all p.shape.has_form xs) is),
)

-- The array of the trees of a list.
abbrev pub array_of : {A : Type 0} → (A → Data) → List A → Data
array_of print xs = array (items_of (map print xs))

-- The trees of one element or more are a canonical list.
pub filled_canonical : {A : Type 0} (p : Printed A) (x : A) (xs : List A)
    → list_all p.shape.has_form (x ∷ xs) ≡ true → IsCanonical (array_of p.print (x ∷ xs))
filled_canonical p x xs are = (tt, each_canonical p.shape.has_form p.print p.canonical (x ∷ xs) are)

-- So are those of a list that is not empty.
pub some_canonical : {A : Type 0} (p : Printed A) (xs : List A) → is_nil xs ≡ false
    → list_all p.shape.has_form xs ≡ true → IsCanonical (array_of p.print xs)
some_canonical p [] some are = cc
some_canonical p (x ∷ xs) some are = filled_canonical p x xs are

-- A list is read from its trees.
pub array_back : {A : Type 0} (least : ℕ) (p : Printed A) (xs : List A)
    → (list_of_shape least p.shape).has_form xs ≡ true
    → ReadsBack (list_of_shape least p.shape) xs (array_of p.print xs)
array_back least p xs is = list_back (nat_le least) p.shape xs (map p.print xs)
    (and_left (nat_le least (length xs)) (list_all p.shape.has_form xs) is)
    (each_printed p xs (and_right (nat_le least (length xs)) (list_all p.shape.has_form xs) is))

-- The trees of a list of one element or more are canonical.
pub one_canonical : {A : Type 0} (p : Printed A) (xs : List A) → (list_of_shape 1 p.shape).has_form xs ≡ true
    → IsCanonical (array_of p.print xs)
one_canonical p [] is = cc
one_canonical p (x ∷ xs) is =
    filled_canonical p x xs (and_right (nat_le 1 (length (x ∷ xs))) (list_all p.shape.has_form (x ∷ xs)) is)

-- A list of one element or more. (An empty list is never printed.)
abbrev pub list_of : {A : Type 0} → Printed A → Printed (List A)
list_of p = record {
  shape = list_of_shape 1 p.shape;
  print = array_of p.print;
  whole = each_whole p.print p.whole;
  back = array_back 1 p;
  canonical = one_canonical p;
}

-- A list without an element is the empty one.
pub nil_is : {A : Type 0} (xs : List A) → is_nil xs ≡ true → xs ≡ []
nil_is [] is = refl
nil_is (x ∷ xs) is = let none : suc (length xs) ≡ 0 = eq_from (suc (length xs)) 0 is in cc

-- The array of the trees of a list; nothing where the list is empty.
abbrev pub array_unless_none : {A : Type 0} → (A → Data) → List A → Option Data
array_unless_none print xs = unless_default (is_nil xs) (array_of print) xs

-- The list at the member of this name; an empty one is left out.
abbrev pub list : {A : Type 0} → List ℕ → Printed A → PrintedMembers (List A)
list name p = or_default_of name [] (list_of_shape 0 p.shape) (array_of p.print) refl is_nil nil_is
    (each_whole p.print p.whole) (λ xs _ is. array_back 0 p xs is)
    (λ xs some is. some_canonical p xs some (and_right (nat_le 0 (length xs)) (list_all p.shape.has_form xs) is))

-- What stands at the member of a list of these trees: nothing for the empty one.
abbrev pub some_trees : List Data → Option Data
some_trees [] = None
some_trees (tree ∷ trees) = Some (array (items_of (tree ∷ trees)))

-- A list at a member is read, whether it is there or empty.
pub list_member_back : {A : Type 0} (name : List ℕ) (shape : Shape A) (xs : List A) (trees : List Data)
    → EachReads shape xs trees → ReadsMembers (list_members name shape) xs ((name, some_trees trees) ∷ [])
list_member_back name shape [] [] back = record {
  reads = λ node holds.
      ap (λ part. at_part (Some []) (λ tree. ((list_of_shape 0 shape).reading (member_node node name tree)).value)
      part) holds.0;
}
list_member_back name shape [] (_ ∷ _) back = absurd back
list_member_back name shape (_ ∷ _) [] back = absurd back
list_member_back name shape (x ∷ xs) (tree ∷ trees) back = record {
  reads = λ node holds.
      ap (λ part. at_part (Some []) (λ tree. ((list_of_shape 0 shape).reading (member_node node name tree)).value)
      part) holds.0
      ∙ (list_back (nat_le 0) shape (x ∷ xs) (tree ∷ trees) (le_test 0 (length (x ∷ xs)) zero-le) back).reads node.file
      (member_node node name node.tree).place;
}

-- ---- two values

-- The two values are read from an array of their trees.
pub pair_back : {A : Type 0} {shape : Shape A} {x y : A} {first second : Data} → ReadsBack shape x first
    → ReadsBack shape y second
    → ReadsBack (pair_shape shape) (x, y) (array (item first (item second no_items)))
pair_back {shape = shape} {x = x} {first = first} {second = second} here next = record {
  reads = λ file place.
      let node : Placed = placed file place (array (item first (item second no_items))) in
      ap (λ o. option_both o (shape.reading (item_node node 1 second)).value)
      (here.reads file (item_node node 0 first).place)
      ∙ ap (λ o. option_both (Some x) o) (next.reads file (item_node node 1 second).place);
}

-- An array of two trees without a number that has a point has none.
pub both_whole : (first second : Data) → has_float first ≡ false → has_float second ≡ false
    → has_float (array (item first (item second no_items))) ≡ false
both_whole first second here next =
    neither (has_float first) (has_float second || false) here (neither (has_float second) false next refl)

-- Both values of an array of just two elements.
abbrev pub pair_of : {A : Type 0} → Printed A → Printed (A × A)
pair_of p = record {
  shape = pair_shape p.shape;
  print = λ two. array (item (p.print two.0) (item (p.print two.1) no_items));
  whole = λ two. both_whole (p.print two.0) (p.print two.1) (p.whole two.0) (p.whole two.1);
  back = λ two is. pair_back
      (p.back two.0 (and_left (p.shape.has_form two.0) (p.shape.has_form two.1) is))
      (p.back two.1 (and_right (p.shape.has_form two.0) (p.shape.has_form two.1) is));
  canonical = λ two is. (
    tt,
    (
      p.canonical two.0 (and_left (p.shape.has_form two.0) (p.shape.has_form two.1) is),
      (p.canonical two.1 (and_right (p.shape.has_form two.0) (p.shape.has_form two.1) is), tt),
    ),
  );
}
