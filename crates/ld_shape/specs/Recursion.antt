-- Shapes that speak of themselves, at nodes that nest less deep.
use Rattle.std.specs.Prelude.{◌≡◌, ℕ, zero, suc, Bool, true}
use Rattle.serde_json.specs.Data.{depth}
use Rattle.ld_json.specs.Fault.{node_fault}
use Rattle.ld_json.specs.Node.{Placed}
use Rattle.ld_json.specs.declared.code.Code.TheVariants.{WrongShape}
use Rattle.ld_shape.specs.Keeping.{Keeps, wider_keeps}
use Rattle.ld_shape.specs.Reading.{Reading, faulty}
use Rattle.ld_shape.specs.Shapes.{Shape}

-- What is read from nodes, of a form that is given.
pub record Formed {A : Type 0} (form : A → Bool) : Type 0 where
  pub reading : Placed → Reading A
  pub formed : (node : Placed) → Keeps form (reading node).value

-- The shape of that form.
abbrev pub shape_of : {A : Type 0} {form : A → Bool} → Formed form → Shape A
shape_of {form = form} given = record { reading = given.reading; has_form = form; formed = given.formed }

-- What a step makes of what is so formed has the form again.
abbrev pub KeepsForm : {A : Type 0} (form : A → Bool) → (Formed form → Shape A) → Type 0
KeepsForm {A} form step = (given : Formed form) (x : A) → (step given).has_form x ≡ true → form x ≡ true

-- The step, done this many times. (What is read at no step at all is never come to.)
abbrev pub rounds : {A : Type 0} {form : A → Bool} (step : Formed form → Shape A) → KeepsForm form step → ℕ
    → Formed form
rounds step keeps zero = record { reading = λ node. faulty (node_fault node WrongShape); formed = λ _. tt }
rounds {form = form} step keeps (suc n) = record {
  reading = (step (rounds step keeps n)).reading;
  formed = λ node. wider_keeps (step (rounds step keeps n)).has_form form (keeps (rounds step keeps n))
      ((step (rounds step keeps n)).reading node).value ((step (rounds step keeps n)).formed node);
}

-- What the step makes of itself: a step for each level of the tree.
unfoldable pub formed_by : {A : Type 0} {form : A → Bool} (step : Formed form → Shape A)
    → KeepsForm form step → Formed form
formed_by step keeps = record {
  reading = λ node. (rounds step keeps (suc (depth node.tree))).reading node;
  formed = λ node. (rounds step keeps (suc (depth node.tree))).formed node;
}
