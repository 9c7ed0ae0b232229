-- Printed words for objects that ld_prints has none for.
use Rattle.std.specs.Prelude.{◌≡◌, ℕ, List, [], ◌∷◌, map, length, Option, Some, None, is_none, true, false, nat_le}
use Rattle.std.specs.List.{list_all}
use Rattle.std.proofs.Common.{refl, ap, zero-le, suc-le-suc}
use Rattle.ld_formats.specs.Cases.{some_up_to as some_shape, looked_at as looked_shape}
use Rattle.ld_json.specs.Node.{member_node}
use Rattle.ld_shape.specs.Forms.{is_between}
use Rattle.ld_shape.specs.Objects.{given}
use Rattle.ld_shape.specs.Reading.{at_part, option_mapped}
use Rattle.ld_shape.specs.Shapes.{Shape}
use Rattle.ld_value.proofs.Choices.{and_left, and_right, both, le_test}
use Rattle.ld_prints.specs.Canonical.{IsCanonical}
use Rattle.ld_prints.specs.Lists.{list_back, each_printed, is_nil, nil_is, array_of, some_canonical}
use Rattle.ld_prints.specs.Objects.{ReadsMembers, PrintedMembers, or_default_of}
use Rattle.ld_prints.specs.Printing.{ReadsBack, Printed}
use Rattle.ld_prints.specs.Whole.{each_whole}

-- ---- a list with at least one element, where it is given at all

-- A list of at least one element is read from its trees.
pub some_back : {A : Type 0} (most : ℕ) (p : Printed A) (xs : List A) → is_nil xs ≡ false
    → (some_shape most p.shape).has_form xs ≡ true
    → ReadsBack (some_shape most p.shape) xs (array_of p.print xs)
some_back most p [] some is = cc
some_back most p (x ∷ xs) some is =
    let all : list_all p.shape.has_form (x ∷ xs) ≡ true =
    and_right (nat_le (length (x ∷ xs)) most) (list_all p.shape.has_form (x ∷ xs)) is in
    let few : nat_le (length (x ∷ xs)) most ≡ true =
    and_left (nat_le (length (x ∷ xs)) most) (list_all p.shape.has_form (x ∷ xs)) is in
    let one : nat_le 1 (length (x ∷ xs)) ≡ true = le_test 1 (length (x ∷ xs)) (suc-le-suc zero-le) in
    record {
      reads = (list_back (is_between 1 most) p.shape (x ∷ xs) (map p.print (x ∷ xs))
          (both (nat_le 1 (length (x ∷ xs))) (nat_le (length (x ∷ xs)) most) one few)
          (each_printed p (x ∷ xs) all)).reads;
    }

-- Its trees are canonical.
pub up_to_canonical : {A : Type 0} (most : ℕ) (p : Printed A) (xs : List A) → is_nil xs ≡ false
    → (some_shape most p.shape).has_form xs ≡ true → IsCanonical (array_of p.print xs)
up_to_canonical most p xs some is = some_canonical p xs some
    (and_right (nat_le (length xs) most) (list_all p.shape.has_form xs) is)

-- The list at the member of this name, of 1 to this many elements; an empty one is left out.
abbrev pub some_up_to : {A : Type 0} (name : List ℕ) (most : ℕ) (p : Printed A)
    → (some_shape most p.shape).has_form [] ≡ true → PrintedMembers (List A)
some_up_to name most p is = or_default_of name [] (some_shape most p.shape) (array_of p.print)
    is is_nil nil_is (each_whole p.print p.whole) (some_back most p) (up_to_canonical most p)

-- ---- a member that is looked at and tells nothing

-- A member of which nothing is kept is not there.
pub looked_back : {A B : Type 0} (name : List ℕ) (shape : Shape A) (x : Option B) → is_none x ≡ true
    → ReadsMembers (looked_shape name shape) x ((name, None) ∷ [])
looked_back name shape None is = record {
  reads = λ node holds.
      ap (λ part. option_mapped (λ _. None)
      (at_part (Some None) (λ tree. ((given shape).reading (member_node node name tree)).value) part)) holds.0;
}
looked_back name shape (Some x) is = cc

-- The member of this name, of which nothing is kept.
abbrev pub looked_at : {A B : Type 0} → List ℕ → Shape A → PrintedMembers (Option B)
looked_at name shape = record {
  members = looked_shape name shape;
  rows = λ _. (name, None) ∷ [];
  named = λ _. refl;
  whole = λ _. refl;
  back = λ x is. looked_back name shape x is;
  plain = true;
  canonical = λ _ _ _. (tt, tt);
}
