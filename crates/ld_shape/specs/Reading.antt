-- What a part of a document gives: a value, or its faults.
use Rattle.std.specs.Prelude.{◌≡◌, List, [], ◌∷◌, ◌++◌, Option, Some, None, Result, Ok, Err}
use Rattle.ld_json.specs.Fault.{Told, SaysFirst}
use Rattle.ld_json.specs.declared.fault.ReadFault.{ReadFault}

-- There is a value exactly where there is no fault.
abbrev pub ValueOrFaults : {A : Type 0} → Option A → List Told → Type 0
ValueOrFaults (Some _) [] = Unit {0}
ValueOrFaults (Some _) (_ ∷ _) = ⊥
ValueOrFaults None [] = ⊥
ValueOrFaults None (_ ∷ _) = Unit {0}

-- The value, if there is one, and all faults, in the order in which they are looked for.
pub record Reading (A : Type 0) : Type 0 where
  pub value : Option A
  pub faults : List Told
  pub agree : ValueOrFaults value faults

-- ---- a value, or one fault

-- This value, and no fault.
abbrev pub found : {A : Type 0} → A → Reading A
found x = record { value = Some x; faults = []; agree = tt }

-- No value, and this fault.
abbrev pub faulty : {A : Type 0} → Told → Reading A
faulty fault = record { value = None; faults = fault ∷ []; agree = tt }

-- The fault, where nothing is there.
abbrev pub fault_unless : {A : Type 0} → Told → Option A → List Told
fault_unless fault (Some _) = []
fault_unless fault None = fault ∷ []

-- There is a value, or else the fault.
pub or_fault_agree : {A : Type 0} (fault : Told) (x : Option A) → ValueOrFaults x (fault_unless fault x)
or_fault_agree fault (Some _) = tt
or_fault_agree fault None = tt

-- What is there, or this fault.
abbrev pub or_fault : {A : Type 0} → Told → Option A → Reading A
or_fault fault x = record { value = x; faults = fault_unless fault x; agree = or_fault_agree fault x }

-- Nothing but faults: a value that tells nothing where there are none.
abbrev pub none_if : List Told → Option (Unit {0})
none_if [] = Some tt
none_if (_ ∷ _) = None

-- There is the value that tells nothing, or else at least one fault.
pub none_if_agree : (faults : List Told) → ValueOrFaults (none_if faults) faults
none_if_agree [] = tt
none_if_agree (_ ∷ _) = tt

-- These faults; where there are none, a value that tells nothing.
abbrev pub unless_any : List Told → Reading (Unit {0})
unless_any faults = record { value = none_if faults; faults = faults; agree = none_if_agree faults }

-- ---- one reading after another: both values, and the faults of both, in order

-- Both values as a pair, where both are there.
abbrev pub option_both : {A B : Type 0} → Option A → Option B → Option (A × B)
option_both None next = None
option_both (Some x) None = None
option_both (Some x) (Some y) = Some (x, y)

-- What is next, where the first is there.
abbrev pub option_after : {A B : Type 0} → Option A → Option B → Option B
option_after None next = None
option_after (Some _) next = next

-- The value with this done to it, where it is there.
abbrev pub option_mapped : {A B : Type 0} → (A → B) → Option A → Option B
option_mapped f None = None
option_mapped f (Some x) = Some (f x)

-- There are both values exactly where neither of the two readings has a fault.
pub both_agree : {A B : Type 0} (x : Option A) (before : List Told) (y : Option B) (more : List Told)
    → ValueOrFaults x before → ValueOrFaults y more → ValueOrFaults (option_both x y) (before ++ more)
both_agree (Some x) [] (Some y) more is are = are
both_agree (Some x) [] None more is are = are
both_agree (Some x) (_ ∷ _) y more is are = absurd is
both_agree None [] y more is are = absurd is
both_agree None (_ ∷ _) y more is are = tt

-- There is a value behind another exactly where neither of the two readings has a fault.
pub after_agree : {A B : Type 0} (x : Option A) (before : List Told) (y : Option B) (more : List Told)
    → ValueOrFaults x before → ValueOrFaults y more → ValueOrFaults (option_after x y) (before ++ more)
after_agree (Some x) [] y more is are = are
after_agree (Some x) (_ ∷ _) y more is are = absurd is
after_agree None [] y more is are = absurd is
after_agree None (_ ∷ _) y more is are = tt

-- With something done to the value, too, there is one exactly where there is no fault.
pub mapped_agree : {A B : Type 0} (f : A → B) (x : Option A) (faults : List Told) → ValueOrFaults x faults
    → ValueOrFaults (option_mapped f x) faults
mapped_agree f (Some x) [] is = is
mapped_agree f (Some x) (_ ∷ _) is = is
mapped_agree f None [] is = is
mapped_agree f None (_ ∷ _) is = is

-- What is found here, and what is found next.
abbrev pub both : {A B : Type 0} → Reading A → Reading B → Reading (A × B)
both here next = record {
  value = option_both here.value next.value;
  faults = here.faults ++ next.faults;
  agree = both_agree here.value here.faults next.value next.faults here.agree next.agree;
}

-- What is found next, where nothing was wrong before.
abbrev pub after : {A B : Type 0} → Reading A → Reading B → Reading B
after before next = record {
  value = option_after before.value next.value;
  faults = before.faults ++ next.faults;
  agree = after_agree before.value before.faults next.value next.faults before.agree next.agree;
}

-- The value with this done to it.
abbrev pub mapped : {A B : Type 0} → (A → B) → Reading A → Reading B
mapped f reading = record {
  value = option_mapped f reading.value;
  faults = reading.faults;
  agree = mapped_agree f reading.value reading.faults reading.agree;
}

-- ---- a part that may be absent

-- One thing where nothing is there, else another.
abbrev pub at_part : {A X : Type 0} → X → (A → X) → Option A → X
at_part absent there None = absent
at_part absent there (Some part) = there part

-- Whether the part is there or absent, there is a value exactly where there is no fault.
unfoldable pub at_part_agree : {P A : Type 0} (absent : Reading A) (there : P → Reading A) (part : Option P)
    → ValueOrFaults (at_part absent.value (λ p. (there p).value) part)
    (at_part absent.faults (λ p. (there p).faults) part)
at_part_agree absent there None = absent.agree
at_part_agree absent there (Some part) = (there part).agree

-- What is read from a part, or this where the part is absent.
abbrev pub part_or : {P A : Type 0} → Reading A → (P → Reading A) → Option P → Reading A
part_or absent there part = record {
  value = at_part absent.value (λ p. (there p).value) part;
  faults = at_part absent.faults (λ p. (there p).faults) part;
  agree = at_part_agree absent there part;
}

-- ---- what a reader answers

-- The value is this one, and nothing is wrong.
pub record Gives {A : Type 0} (reading : Reading A) (x : A) : Type 0 where
  pub value : reading.value ≡ Some x
  pub faultless : reading.faults ≡ []

-- The value that is found, or the first fault, or that memory ran out.
abbrev pub GivesOrSays : {A : Type 0} → Reading A → Result A ReadFault → Type 0
GivesOrSays reading (Ok x) = Gives reading x
GivesOrSays reading (Err error) = SaysFirst reading.faults error
