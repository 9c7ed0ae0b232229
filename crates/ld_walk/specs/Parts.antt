-- What stands at one place of the documents, as far as anything beyond its shape is asked of it.
use Rattle.std.specs.Prelude.{ℕ, List, Bool, Option}
use Rattle.ld_model.specs.Expressions.{TermOf, TestOf}
use Rattle.ld_model.specs.declared.property.Property.{Property}
use Rattle.ld_model.specs.declared.unit.Level.{Level}
use Rattle.ld_walk.specs.declared.kind.Kind.{Kind}
use Rattle.ld_walk.specs.declared.kind.Wanted.{Wanted}
use Rattle.ld_walk.specs.Places.{At}

-- What is to have the right types: the initial value and the restrictions of a property; the text of a
-- value of a property; a property that is named for the run as a whole; a change of a property to the
-- value of a term, for the run as a whole or for one person; a test.
pub data Typed : Type 0 where
  Declared : (property : Property) → Typed
  ValueOf : (property : List ℕ) → (text : List ℕ) → Typed
  OfRun : (property : List ℕ) → Typed
  Changed : (by_run : Bool) → (property : List ℕ) → (value : TermOf) → Typed
  Tested : (test : TestOf) → Typed

-- An object with an identifier, and whether it is visible at first, where it is shown and hidden; a
-- reference; a list of references; the name of a value that all runs share; when a thing is completed;
-- what follows its completion, and whether it is said there when it is completed; a condition; a leaf of an
-- expression, and whether it is asked of each member of a role; what this engine leaves out; what is to
-- have the right types; or something else.
pub data What : Type 0 where
  Declares : (kind : Kind) → (identifier : List ℕ) → (visible : Option Bool) → What
  Refers : (wanted : Wanted) → (target : List ℕ) → What
  Lists : (wanted : Wanted) → (targets : List (List ℕ)) → What
  Shares : (uri : List ℕ) → What
  Completes : (kind : Kind) → What
  Follows : (completes : Bool) → What
  Judges : (condition : ℕ) → What
  Leaf : (of_members : Bool) → What
  LeftOut : What
  Types : (typed : Typed) → What
  Other : What

-- What stands at a place, and the lowest level of units that have it.
pub record Part : Type 0 where
  pub at : At
  pub level : Level
  pub what : What
