-- Lists, read one node after another.
use Rattle.std.proofs.Common.{◌≡◌, ℕ, ◌+◌, List, [], ◌∷◌, ◌++◌, Option, Some, None, drop, slice_get, refl, ap, sym, subst, ◌∙◌, append-nil, append_assoc}
use Rattle.ld_json.proofs.Elements.{drop_at}
use Rattle.ld_json.proofs.First.{says_more}
use Rattle.ld_json.specs.Fault.{Told, SaysFirst}
use Rattle.ld_json.specs.declared.fault.ReadFault.{ReadFault}
use Rattle.ld_json.specs.Node.{Placed}
use Rattle.ld_shape.specs.Lists.{each}
use Rattle.ld_shape.specs.Reading.{option_both, option_mapped}
use Rattle.ld_shape.specs.Shapes.{Shape}

-- The list before, and behind it what is still to be read.
abbrev pub then_read : {A : Type 0} → List A → Option (List A) → Option (List A)
then_read before None = None
then_read before (Some more) = Some (before ++ more)

-- All is read.
pub then_nothing : {A : Type 0} (before : List A) → then_read before (Some []) ≡ Some before
then_nothing before = ap Some (append-nil before)

then_step : {A : Type 0} (before : List A) (x : A) (more : Option (List A))
    → then_read before (option_mapped (λ p. p.0 ∷ p.1) (option_both (Some x) more)) ≡ then_read (before ++ x ∷ []) more
then_step before x None = refl
then_step before x (Some xs) = ap Some (sym (append_assoc before (x ∷ []) xs))

-- One node more is read.
pub one_more : {A : Type 0} (shape : Shape A) (before : List A) (node : Placed) (rest : List Placed) (x : A) → (shape.reading node).value ≡ Some x
    → then_read before (each shape (node ∷ rest)).value ≡ then_read (before ++ x ∷ []) (each shape rest).value
one_more shape before node rest x is = rw is (then_step before x (each shape rest).value)

-- ---- for a loop of one's own, in a function that calls itself

-- A node without faults is passed.
pub pass_faults : {A : Type 0} (shape : Shape A) (nodes : List Placed) (index : ℕ) (node : Placed) (all : List Told)
    → slice_get nodes index ≡ Some node → (shape.reading node).faults ≡ []
    → (each shape (drop index nodes)).faults ≡ all → (each shape (drop (index + 1) nodes)).faults ≡ all
pass_faults shape nodes index node all is none before =
    let split : (each shape (node ∷ drop (index + 1) nodes)).faults ≡ all = rw (drop_at nodes index node is) at before in
    ap (λ own. own ++ (each shape (drop (index + 1) nodes)).faults) (sym none) ∙ split

-- What is read from a node is appended.
pub pass_value : {A : Type 0} (shape : Shape A) (nodes : List Placed) (index : ℕ) (node : Placed) (before : List A) (x : A) (all : Option (List A))
    → slice_get nodes index ≡ Some node → (shape.reading node).value ≡ Some x
    → then_read before (each shape (drop index nodes)).value ≡ all → then_read (before ++ x ∷ []) (each shape (drop (index + 1) nodes)).value ≡ all
pass_value shape nodes index node before x all is reads was =
    sym (one_more shape before node (drop (index + 1) nodes) x reads) ∙ rw (drop_at nodes index node is) at was

-- The first fault of a node that is come to is the first of all.
pub stop_at : {A : Type 0} (shape : Shape A) (nodes : List Placed) (index : ℕ) (node : Placed) (error : ReadFault)
    → slice_get nodes index ≡ Some node → (each shape (drop index nodes)).faults ≡ (each shape nodes).faults
    → SaysFirst (shape.reading node).faults error → SaysFirst (each shape nodes).faults error
stop_at shape nodes index node error is before says =
    let rest = (each shape (drop (index + 1) nodes)).faults in
    let split : (each shape nodes).faults ≡ (shape.reading node).faults ++ rest = sym before ∙ ap (λ those. (each shape those).faults) (drop_at nodes index node is) in
    subst (λ (list : List Told). SaysFirst list error) (sym split) (says_more (shape.reading node).faults rest error says)
