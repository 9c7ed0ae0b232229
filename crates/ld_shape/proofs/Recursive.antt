-- A shape that speaks of itself is what its step makes of it.
use Rattle.std.proofs.Common.{◌≡◌, ℕ, zero, suc, ◌+◌, ◌<◌, ◌≤◌, List, ◌∷◌, Option, Some, None, Bool, refl, ap, ◌∙◌, arith}
use Rattle.serde_json.specs.Data.{Data, null, boolean, number, string, array, object, Items, no_items, item, depth, items_depth}
use Rattle.serde_json.specs.Find.{get, as_array}
use Rattle.ld_json.specs.Access.{missing_at, nodes_from, nodes_of, sole_of}
use Rattle.ld_json.specs.Fault.{Told, node_fault}
use Rattle.ld_json.specs.declared.code.Code.TheVariants.{WrongShape}
use Rattle.ld_json.specs.Node.{Placed, member_node, item_node}
use Rattle.ld_shape.proofs.Depths.{depth-get}
use Rattle.ld_shape.specs.Lists.{elements_in, each, list_where, two_among, pair_of}
use Rattle.ld_shape.specs.Objects.{needed_in, read_or}
use Rattle.ld_shape.specs.Reading.{Reading, found, faulty, both, mapped, after, or_fault, at_part_agree, part_or}
use Rattle.ld_shape.specs.Recursion.{Formed, KeepsForm, shape_of, rounds, formed_by}
use Rattle.ld_shape.specs.Shapes.{Shape}
use Rattle.ld_shape.specs.Soles.{Case, case, chosen, sole}
use Rattle.std.specs.Prelude.{if◌then◌else◌}
use Rattle.std.specs.Str.{bytes_eq}

-- The two shapes read the same from each node that nests less deep than this.
abbrev pub SameBelow : {A : Type 0} → ℕ → Shape A → Shape A → Type 0
SameBelow deep s t = (below : Placed) → depth below.tree < deep → s.reading below ≡ t.reading below

-- What is read in the shape depends only on what it reads from nodes that nest less deep.
abbrev pub IsLocal : {A B : Type 0} → (Shape A → Placed → Reading B) → Type 0
IsLocal {A} read = (s t : Shape A) (node : Placed) → SameBelow (depth node.tree) s t
    → read s node ≡ read t node

-- The same, of a step from shape to shape.
abbrev pub IsLocalStep : {A B : Type 0} → (Shape A → Shape B) → Type 0
IsLocalStep step = IsLocal (λ s. (step s).reading)

-- The same, of a step from what is so formed.
abbrev pub IsLocalFrom : {A : Type 0} {form : A → Bool} → (Formed form → Shape A) → Type 0
IsLocalFrom {form = form} step = (s t : Formed form) (node : Placed)
    → SameBelow (depth node.tree) (shape_of s) (shape_of t) → (step s).reading node ≡ (step t).reading node

rounds_same : {A : Type 0} {form : A → Bool} (step : Formed form → Shape A) (keeps : KeepsForm form step)
    → IsLocalFrom step
    → (n m : ℕ) (node : Placed) → depth node.tree < n → depth node.tree < m
    → (rounds step keeps n).reading node ≡ (rounds step keeps m).reading node
rounds_same step keeps local zero m node less more = absurd (omega arith)
rounds_same step keeps local (suc n) zero node less more = absurd (omega arith)
rounds_same step keeps local (suc n) (suc m) node less more =
    local (rounds step keeps n) (rounds step keeps m) node
    (λ below deep. rounds_same step keeps local n m below (omega arith) (omega arith))

-- What the step makes of itself is what it reads, in which that stands itself.
pub formed_by_is : {A : Type 0} {form : A → Bool} (step : Formed form → Shape A)
    (keeps : KeepsForm form step) → IsLocalFrom step
    → (node : Placed) → (formed_by step keeps).reading node ≡ (step (formed_by step keeps)).reading node
unfolding formed_by
formed_by_is step keeps local node =
    local (rounds step keeps (depth node.tree)) (formed_by step keeps) node
    (λ below deep. rounds_same step keeps local (depth node.tree) (suc (depth below.tree)) below deep
    (omega arith))

-- ---- what the combinators keep

pub still_local : {A B : Type 0} (read : Placed → Reading B) → IsLocal {A = A} (λ _. read)
still_local read s t node same = refl

pub both_local : {A B C : Type 0} (here : Shape A → Placed → Reading B)
    (next : Shape A → Placed → Reading C) → IsLocal here → IsLocal next
    → IsLocal (λ s node. both (here s node) (next s node))
both_local here next one two s t node same =
    ap (λ x. both x (next s node)) (one s t node same) ∙ ap (λ y. both (here t node) y) (two s t node same)

pub mapped_local : {A B C : Type 0} (f : B → C) (next : Shape A → Placed → Reading B) → IsLocal next
    → IsLocal (λ s node. mapped f (next s node))
mapped_local f next one s t node same = ap (λ x. mapped f x) (one s t node same)

pub after_local : {A B C : Type 0} (before : Placed → Reading B) (next : Shape A → Placed → Reading C)
    → IsLocal next → IsLocal (λ s node. after (before node) (next s node))
after_local before next one s t node same = ap (λ x. after (before node) x) (one s t node same)

each_from : {A : Type 0} (s t : Shape A) (deep : ℕ) → SameBelow deep s t
    → (node : Placed) (index : ℕ) (elements : Items)
    → items_depth elements < deep → each s (nodes_from node index elements) ≡ each t
    (nodes_from node index elements)
each_from s t deep same node index no_items less = refl
each_from s t deep same node index (item tree rest) less =
    ap (λ x. mapped (λ p. p.0 ∷ p.1) (both x (each s (nodes_from node (index + 1) rest))))
    (same (item_node node index tree) (omega arith))
    ∙ ap (λ xs. mapped (λ p. p.0 ∷ p.1) (both (t.reading (item_node node index tree)) xs))
    (each_from s t deep same node (index + 1) rest (omega arith))

each_of : {A : Type 0} (s t : Shape A) (deep : ℕ) → SameBelow deep s t → (node : Placed) (tree : Data)
    → depth tree ≤ deep → each s (nodes_of node (as_array tree)) ≡ each t (nodes_of node (as_array tree))
each_of s t deep same node null less = refl
each_of s t deep same node (boolean _) less = refl
each_of s t deep same node (number _) less = refl
each_of s t deep same node (string _) less = refl
each_of s t deep same node (array elements) less = each_from s t deep same node 0 elements (omega arith)
each_of s t deep same node (object _) less = refl

pub list_local : {A : Type 0} (fits : ℕ → Bool) → IsLocalStep {A = A} (list_where fits)
list_local fits s t node same = ap (λ x. after
    (or_fault (node_fault node WrongShape) (elements_in fits node)) x)
    (each_of s t (depth node.tree) same node node.tree (omega arith))

part_local : {A B : Type 0} (absent : Reading B) (name : List ℕ) (read : Shape A → Shape B) → IsLocalStep read
    → (s t : Shape A) (node : Placed) → SameBelow (depth node.tree) s t → (part : Option Data)
    → get name node.tree ≡ part
    → part_or absent (λ tree. (read s).reading (member_node node name tree)) part ≡ part_or absent
    (λ tree. (read t).reading (member_node node name tree)) part
unfolding at_part_agree
part_local absent name read local s t node same None is = refl
part_local absent name read local s t node same (Some tree) is =
    let less : depth tree < depth node.tree = depth-get name node.tree tree is in
    ap (λ x. part_or absent (λ _. x) (Some tree))
    (local s t (member_node node name tree) (λ below deep. same below (omega arith)))

pub needed_local : {A B : Type 0} (name : List ℕ) (read : Shape A → Shape B) → IsLocalStep read
    → IsLocalStep (λ s. needed_in name (read s))
needed_local name read local s t node same = part_local
    (faulty (missing_at node name)) name read local s t node same (get name node.tree) refl

at_member : {A : Type 0} (name : List ℕ) (s t : Shape A) (node : Placed) → SameBelow (depth node.tree) s t
    → (part : Option Data) → get name node.tree ≡ part
    → part_or (faulty (missing_at node name))
    (λ tree. s.reading (member_node node name tree)) part ≡ part_or (faulty (missing_at node name))
    (λ tree. t.reading (member_node node name tree)) part
unfolding at_part_agree
at_member name s t node same None is = refl
at_member name s t node same (Some tree) is =
    ap (λ x. part_or (faulty (missing_at node name)) (λ (_ : Data). x) (Some tree))
    (same (member_node node name tree) (depth-get name node.tree tree is))

-- A member nests less deep than its object.
pub member_local : {A : Type 0} (name : List ℕ) → IsLocalStep {A = A} (needed_in name)
member_local name s t node same = at_member name s t node same (get name node.tree) refl

pub or_local : {A B : Type 0} (name : List ℕ) (default : B) (read : Shape A → Shape B) → IsLocalStep read
    → IsLocal (λ s. read_or name default (read s))
or_local name default read local s t node same =
    part_local (found default) name read local s t node same (get name node.tree) refl

-- One of two readings, by a test that does not look at the shape.
pub either_local : {A B : Type 0} (test : Placed → Bool) (here there : Shape A → Placed → Reading B)
    → IsLocal here → IsLocal there
    → IsLocal (λ s node. if test node then here s node else there s node)
either_local test here there one two s t node same =
    ap (λ x. if test node then x else there s node) (one s t node same)
    ∙ ap (λ y. if test node then here t node else y) (two s t node same)

-- ---- objects of one member, and pairs

-- What is chosen among the cases is local.
pub record AreLocal {A B : Type 0} (cases : Shape A → List (Case B)) : Type 0 where
  pub alike : (s t : Shape A) (node : Placed) → SameBelow (depth node.tree) s t → (name : List ℕ)
      → chosen (cases s) node name ≡ chosen (cases t) node name

pub no_case_local : {A B : Type 0} (cases : List (Case B)) → AreLocal {A = A} (λ _. cases)
no_case_local cases = record { alike = λ s t node same name. refl }

pub case_local : {A B C : Type 0} (name : List ℕ) (make : C → B) (pick : B → Option C)
    (law : (x : C) → pick (make x) ≡ Some x) (read : Shape A → Shape C) (cases : Shape A → List (Case B))
    → IsLocalStep (λ s. needed_in name (read s)) → AreLocal cases
    → AreLocal (λ s. case name make pick law (read s) ∷ cases s)
case_local name make pick law read cases local rest = record {
  alike = λ s t node same is.
      ap (λ x. if bytes_eq is name then mapped make x else chosen (cases s) node is) (local s t node same)
      ∙ ap (λ y. if bytes_eq is name then mapped make ((needed_in name (read t)).reading node) else y)
      (rest.alike s t node same is);
}

chosen_at : {A B : Type 0} (cases : Shape A → List (Case B)) → AreLocal cases
    → (s t : Shape A) (node : Placed) → SameBelow (depth node.tree) s t
    → (name : Option (List ℕ)) → part_or (faulty (node_fault node WrongShape))
    (chosen (cases s) node) name ≡ part_or (faulty (node_fault node WrongShape))
    (chosen (cases t) node) name
unfolding at_part_agree
chosen_at cases local s t node same None = refl
chosen_at cases local s t node same (Some name) =
    ap (λ x. part_or (faulty (node_fault node WrongShape)) (λ (_ : List ℕ). x) (Some name))
    (local.alike s t node same name)

pub sole_local : {A B : Type 0} (cases : Shape A → List (Case B)) → AreLocal cases
    → IsLocalStep (λ s. sole (cases s))
sole_local cases local s t node same = chosen_at cases local s t node same (sole_of node.tree)

both_of_two : {A : Type 0} (s t : Shape A) (deep : ℕ) → SameBelow deep s t
    → (fault : Told) (node : Placed) (tree : Data) → depth tree ≤ deep
    → part_or (faulty fault) (λ two. both (s.reading two.0) (s.reading two.1))
    (two_among (nodes_of node (as_array tree))) ≡ part_or (faulty fault)
    (λ two. both (t.reading two.0) (t.reading two.1)) (two_among (nodes_of node (as_array tree)))
unfolding at_part_agree
both_of_two s t deep same fault node null less = refl
both_of_two s t deep same fault node (boolean _) less = refl
both_of_two s t deep same fault node (number _) less = refl
both_of_two s t deep same fault node (string _) less = refl
both_of_two s t deep same fault node (array no_items) less = refl
both_of_two s t deep same fault node (array (item _ no_items)) less = refl
both_of_two s t deep same fault node (array (item x (item y no_items))) less =
    ap (λ a. part_or (faulty fault) (λ (two : Placed × Placed). both a (s.reading two.1))
    (Some (item_node node 0 x, item_node node 1 y))) (same (item_node node 0 x) (omega arith))
    ∙ ap (λ b. part_or (faulty fault) (λ (two : Placed × Placed). both (t.reading two.0) b)
    (Some (item_node node 0 x, item_node node 1 y))) (same (item_node node 1 y) (omega arith))
both_of_two s t deep same fault node (array (item _ (item _ (item _ _)))) less = refl
both_of_two s t deep same fault node (object _) less = refl

pub pair_local : {A : Type 0} → IsLocalStep {A = A} pair_of
pair_local s t node same = both_of_two s t (depth node.tree) same (node_fault node WrongShape) node node.tree
    (omega arith)
