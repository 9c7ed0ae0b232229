-- What a person who joins leaves as it was.
use Rattle.std.specs.Prelude.{◌≡◌, ◌<◌, ℕ, ℤ, List, length, Ok, false, ⊤}
use Rattle.ld_model.specs.declared.unit.Unit.{Unit}
use Rattle.ld_lines.specs.declared.command.RunCommand.TheVariants.{Enrol}
use Rattle.ld_expr.specs.Membership.{members}
use Rattle.ld_state.specs.GlobalValues.{GlobalValues}
use Rattle.ld_state.specs.RunState.{RunState, is_cell_of, joined, seen_in}
use Rattle.ld_sharing.specs.Globals.{taking_in}
use Rattle.ld_admission.specs.Checks.{is_started}
use Rattle.ld_admission.specs.Commands.{Admitted, gets, shows_tree, shows_next}
use Rattle.ld_replies.specs.Replies.{answer_told}
use Rattle.ld_run.specs.RunStep.{DoneCommand, at_moment, run_step}

-- The command tells of nothing but the run and the persons that it has. The next alarm is one of all sites, and a
-- newcomer has sites, too.
abbrev pub TellsOfPresent : RunState → Admitted → Type 0
TellsOfPresent s (gets cell) = is_cell_of (length s.persons) cell ≡ false
TellsOfPresent s (shows_tree p) = p < length s.persons
TellsOfPresent s shows_next = ⊥
TellsOfPresent s _ = ⊤

-- What the run and its persons are told is the same just before a person joins and just after: values, trees,
-- outboxes and the report. And each role has the same members.
abbrev pub JoiningIsNotSeen : Type 0
JoiningIsNotSeen =
    (unit : Unit) (store : GlobalValues) (s : RunState) (moment : ℤ) (name : List ℕ)
    → ((command : Admitted) → TellsOfPresent s command
    → answer_told unit (joined unit store s moment name) command ≡ answer_told unit s command)
    × ((role : ℕ) → members (seen_in unit (joined unit store s moment name)) role ≡ members (seen_in unit s) role)

-- An enrolment that is done lets the person join and does nothing else, where the run is not started, or else no
-- rule fired: it keeps the moment and takes in the store's values.
abbrev pub EnrolmentJoins : Type 0
EnrolmentJoins =
    (unit : Unit) (s : RunState) (store : GlobalValues) (moment : ℤ) (name : List ℕ) (d : DoneCommand)
    → run_step unit s store moment (Enrol name) ≡ Ok d
    → ((is_started d.state ≡ false → d.state ≡ joined unit store (taking_in unit store (at_moment s moment)) moment name)
    × (d.turns ≡ 0 → d.state ≡ joined unit store (taking_in unit store (at_moment s moment)) moment name))
