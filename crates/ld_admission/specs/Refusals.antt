-- Refusals, with what is printed of each.
use Rattle.std.specs.Prelude.{ℕ, ℤ, List, [], ◌∷◌, Result, Ok, Err, Bool, true, false, codes, decimal, unwrap_or}
use Rattle.ld_lines.specs.Refusals.{word_of_refusal}
use Rattle.ld_value.specs.Calendar.{text_of_moment}

-- Why a line is refused: `MomentBack` tells the run's last moment, `RoleShort` a role, how many members it
-- would have, and how many it needs.
pub data Refusal : Type 0 where
  BadLine : Refusal
  UnknownUnit : Refusal
  RunExists : Refusal
  UnknownRun : Refusal
  MomentBack : ℤ → Refusal
  NotStarted : Refusal
  StartedAlready : Refusal
  UnknownPerson : Refusal
  PersonExists : Refusal
  RunFull : Refusal
  UnknownRole : Refusal
  HoldsAlready : Refusal
  NotHeld : Refusal
  RoleFull : Refusal
  RoleExclusive : Refusal
  RoleShort : List ℕ → ℕ → ℕ → Refusal
  UnknownActivity : Refusal
  NotByChoice : Refusal
  UnknownProperty : Refusal
  UnknownGlobal : Refusal
  BadValue : Refusal
  NotAllowed : Refusal
  TurnBudget : Refusal
  NotOpen : Refusal
  NoMemory : Refusal

-- The number that is printed of each refusal.
abbrev pub refusal_number : Refusal → ℕ
refusal_number BadLine = 1
refusal_number UnknownUnit = 2
refusal_number RunExists = 3
refusal_number UnknownRun = 4
refusal_number (MomentBack _) = 5
refusal_number NotStarted = 6
refusal_number StartedAlready = 7
refusal_number UnknownPerson = 8
refusal_number PersonExists = 9
refusal_number RunFull = 10
refusal_number UnknownRole = 11
refusal_number HoldsAlready = 12
refusal_number NotHeld = 13
refusal_number RoleFull = 14
refusal_number RoleExclusive = 15
refusal_number (RoleShort _ _ _) = 16
refusal_number UnknownActivity = 17
refusal_number NotByChoice = 18
refusal_number UnknownProperty = 19
refusal_number UnknownGlobal = 20
refusal_number BadValue = 21
refusal_number NotAllowed = 22
refusal_number TurnBudget = 30
refusal_number NotOpen = 31
refusal_number NoMemory = 99

-- What is printed behind the word.
abbrev pub details_of : Refusal → List (List ℕ)
details_of (MomentBack last) = text_of_moment last ∷ []
details_of (RoleShort role count least) = role ∷ decimal count ∷ decimal least ∷ []
details_of _ = []

-- `no NUMBER WORD`, and the details.
abbrev pub refusal_words : Refusal → List (List ℕ)
refusal_words refusal =
    let number = refusal_number refusal in
    codes "no" ∷ decimal number ∷ unwrap_or (word_of_refusal number) [] ∷ details_of refusal

-- ---- going on where nothing is refused

-- What the function makes of the value; a refusal stays as it is.
infixl 10 ◌unless_refused◌
abbrev pub ◌unless_refused◌ : {A B : Type 0} → Result A Refusal → (A → Result B Refusal) → Result B Refusal
(Ok x) unless_refused next = next x
(Err refusal) unless_refused next = Err refusal

-- The second where the first passes; a refusal of the first stays.
infixl 10 ◌>>◌
abbrev pub ◌>>◌ : {A B : Type 0} → Result A Refusal → Result B Refusal → Result B Refusal
(Ok x) >> next = next
(Err refusal) >> next = Err refusal

-- It refuses where the truth holds, and else it passes.
abbrev pub refuse_if : Bool → Refusal → Result (Unit {0}) Refusal
refuse_if true refusal = Err refusal
refuse_if false refusal = Ok tt
