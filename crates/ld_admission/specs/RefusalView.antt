-- What a refusal of the program means.
use Rattle.std.specs.Prelude.{◌≡◌, ◌≢◌, Result, Ok, Err}
use Rattle.ld_admission.specs.Refusals.{Refusal, BadLine, UnknownUnit, RunExists, UnknownRun, MomentBack, NotStarted, StartedAlready, UnknownPerson, PersonExists, RunFull, UnknownRole, HoldsAlready, NotHeld, RoleFull, RoleExclusive, RoleShort, UnknownActivity, NotByChoice, UnknownProperty, UnknownGlobal, BadValue, NotAllowed, TurnBudget, NotOpen, NoMemory}
use Rattle.ld_admission.specs.declared.refusal.Refusal.{Refusal as RefusalOf}
use Rattle.ld_admission.specs.declared.refusal.Refusal.TheVariants as given

-- What each refusal of the program means: the one of the same name, with what it tells.
abbrev pub refusal_of : RefusalOf → Refusal
refusal_of given.BadLine = BadLine
refusal_of given.UnknownUnit = UnknownUnit
refusal_of given.RunExists = RunExists
refusal_of given.UnknownRun = UnknownRun
refusal_of (given.MomentBack last) = MomentBack last.0
refusal_of given.NotStarted = NotStarted
refusal_of given.StartedAlready = StartedAlready
refusal_of given.UnknownPerson = UnknownPerson
refusal_of given.PersonExists = PersonExists
refusal_of given.RunFull = RunFull
refusal_of given.UnknownRole = UnknownRole
refusal_of given.HoldsAlready = HoldsAlready
refusal_of given.NotHeld = NotHeld
refusal_of given.RoleFull = RoleFull
refusal_of given.RoleExclusive = RoleExclusive
refusal_of (given.RoleShort role count least) = RoleShort role.now count least
refusal_of given.UnknownActivity = UnknownActivity
refusal_of given.NotByChoice = NotByChoice
refusal_of given.UnknownProperty = UnknownProperty
refusal_of given.UnknownGlobal = UnknownGlobal
refusal_of given.BadValue = BadValue
refusal_of given.NotAllowed = NotAllowed
refusal_of given.TurnBudget = TurnBudget
refusal_of given.NotOpen = NotOpen
refusal_of given.NoMemory = NoMemory

-- What refuses is the refusal, unless memory runs out.
abbrev pub RefusesWith : {A : Type 0} → Result A Refusal → RefusalOf → Type 0
RefusesWith answer refusal = refusal ≢ given.NoMemory → answer ≡ Err (refusal_of refusal)

-- What an answer of the program means, where it is said what its value means.
abbrev pub answer_of : {A B : Type 0} → (A → B) → Result A RefusalOf → Result B Refusal
answer_of meaning (Ok x) = Ok (meaning x)
answer_of meaning (Err refusal) = Err (refusal_of refusal)
