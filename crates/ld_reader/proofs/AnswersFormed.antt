-- What a reader gives has the form of its shape.
use Rattle.std.proofs.Common.{◌≡◌, true, Result, Ok, Err, subst}
use Rattle.std.specs.Result.{IfOk}
use Rattle.ld_json.specs.declared.fault.ReadFault.{ReadFault}
use Rattle.ld_shape.specs.Keeping.{Keeps}
use Rattle.ld_shape.specs.Reading.{GivesOrSays}
use Rattle.ld_shape.specs.Shapes.{Described}

-- The value that is answered has the form.
pub answers_formed : {Source A : Type 0} (shape : Described Source A) (source : Source)
    (result : Result A ReadFault)
    → GivesOrSays (shape.reading source) result → IfOk result (λ x. shape.has_form x ≡ true)
answers_formed shape source (Ok x) gives =
    subst (λ o. Keeps shape.has_form o) gives.value (shape.formed source)
answers_formed shape source (Err error) says = tt
