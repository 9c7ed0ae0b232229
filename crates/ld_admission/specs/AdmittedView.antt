-- What an admitted command of the program means, and where it can be done.
use Rattle.std.specs.Prelude.{◌≡◌, ◌<◌, ℕ, ℤ, length, Some, None, Result, Ok, Err, IfOk, Bool, true, false, Contains, ⊤}
use Rattle.ld_value.specs.Datum.{datum_of}
use Rattle.ld_model.specs.Roles.{roles_of}
use Rattle.ld_model.specs.declared.cell.CellName.{CellName}
use Rattle.ld_model.specs.declared.unit.Unit.{Unit}
use Rattle.ld_roles.specs.Persons.{holds_role}
use Rattle.ld_roles.specs.Refusals.{assign_fault, enrol_fault}
use Rattle.ld_roles.specs.RoleBounds.{role_bounds}
use Rattle.ld_roles.specs.declared.limit.TheConstants.{SEATS}
use Rattle.ld_rules.specs.LawWords.{is_property}
use Rattle.ld_state.specs.RunCells.{all_cells, suits_cell, is_activity}
use Rattle.ld_state.specs.RunState.{RunState}
use Rattle.ld_admission.specs.Checks.{admitted, is_started}
use Rattle.ld_admission.specs.Commands.{Admitted, enrols, assigns, drops, starts, opens, completes, sets, clears, gets, shows_tree, shows_outbox, reports, ticks, shows_next}
use Rattle.ld_admission.specs.RefusalView.{RefusesWith, answer_of}
use Rattle.ld_admission.specs.declared.admitted.Admitted.{Admitted as AdmittedOf}
use Rattle.ld_admission.specs.declared.admitted.Admitted.TheVariants as given
use Rattle.ld_admission.specs.declared.refusal.Refusal.{Refusal as RefusalOf}
use Rattle.ld_lines.specs.declared.command.RunCommand.{RunCommand}
use Rattle.ld_lines.specs.declared.command.RunCommand.TheVariants.{Set}

-- What an admitted command of the program means: the same command, by its numbers, its cell and its value.
abbrev pub admitted_of : AdmittedOf → Admitted
admitted_of (given.Enrols name) = enrols name.now
admitted_of (given.Assigns p role) = assigns p.0 role.0
admitted_of (given.Drops p role) = drops p.0 role.0
admitted_of given.Starts = starts
admitted_of (given.Opens p thing) = opens p.0 thing.0
admitted_of (given.Completes p thing) = completes p.0 thing.0
admitted_of (given.Sets cell value) = sets cell (datum_of value)
admitted_of (given.Clears cell) = clears cell
admitted_of (given.Gets cell) = gets cell
admitted_of (given.ShowsTree p) = shows_tree p.0
admitted_of (given.ShowsOutbox p) = shows_outbox p.0
admitted_of given.Reports = reports
admitted_of given.Ticks = ticks
admitted_of given.ShowsNext = shows_next

-- The run has the cell, and it is one of a property.
pub record HasPropertyCell (unit : Unit) (s : RunState) (cell : CellName) : Type 0 where
  pub there : Contains (all_cells unit (length s.persons)) cell
  pub property : is_property cell ≡ true

-- The person and the role are there.
pub record HasPersonAndRole (unit : Unit) (s : RunState) (p role : ℕ) : Type 0 where
  pub has_person : p < length s.persons
  pub has_role : role < length (roles_of unit)

-- The person and the activity are there.
pub record HasPersonAndActivity (unit : Unit) (s : RunState) (p thing : ℕ) : Type 0 where
  pub has_person : p < length s.persons
  pub has_activity : is_activity unit thing ≡ true

-- All that the command names is there, nothing stands against what it changes of the persons, a run that is to
-- start is not started, and one whose next alarm is asked for is.
abbrev pub IsPossible : Unit → RunState → Admitted → Type 0
IsPossible unit s (enrols name) = enrol_fault SEATS s.persons name ≡ None
IsPossible unit s (assigns p role) =
    HasPersonAndRole unit s p role × (assign_fault (role_bounds unit) s.persons role p ≡ None)
IsPossible unit s (drops p role) = HasPersonAndRole unit s p role × (holds_role s.persons role p ≡ true)
IsPossible unit s starts = is_started s ≡ false
IsPossible unit s (opens p thing) = HasPersonAndActivity unit s p thing
IsPossible unit s (completes p thing) = HasPersonAndActivity unit s p thing
IsPossible unit s (sets cell value) = HasPropertyCell unit s cell × (suits_cell unit cell (Some value) ≡ true)
IsPossible unit s (clears cell) = HasPropertyCell unit s cell
IsPossible unit s (gets cell) = HasPropertyCell unit s cell
IsPossible unit s (shows_tree p) = p < length s.persons
IsPossible unit s (shows_outbox p) = p < length s.persons
IsPossible unit s reports = ⊤
IsPossible unit s ticks = ⊤
IsPossible unit s shows_next = is_started s ≡ true

-- The program answers the command as its checks do, and what it admits can be done.
abbrev pub Answers : Unit → RunState → ℤ → RunCommand → Result AdmittedOf RefusalOf → Type 0
Answers unit s moment asked answer =
    (answer_of admitted_of answer ≡ admitted unit s moment asked)
    × IfOk answer (λ done. IsPossible unit s (admitted_of done))

-- The same, where memory may run out.
abbrev pub AnswersInMemory : Unit → RunState → ℤ → RunCommand → Result AdmittedOf RefusalOf → Type 0
AnswersInMemory unit s moment asked (Ok done) =
    (admitted unit s moment asked ≡ Ok (admitted_of done)) × IsPossible unit s (admitted_of done)
AnswersInMemory unit s moment asked (Err refusal) = RefusesWith (admitted unit s moment asked) refusal

-- The command gives a property a value, which may want memory.
abbrev pub wants_memory : RunCommand → Bool
wants_memory (Set person property value) = true
wants_memory _ = false

-- The program answers the command as its checks do; of a value that is set memory may run out.
abbrev pub AnswersAsked : Unit → RunState → ℤ → RunCommand → Result AdmittedOf RefusalOf → Type 0
AnswersAsked unit s moment asked answer =
    AnswersInMemory unit s moment asked answer
    × (wants_memory asked ≡ false → answer_of admitted_of answer ≡ admitted unit s moment asked)
