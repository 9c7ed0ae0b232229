-- What a run meets in a history, and that the replies to it depend on nothing else.
use Rattle.std.specs.Prelude.{◌≡◌, ℕ, List, [], ◌∷◌, ◌++◌, map, Option, Some, None, Err, Bool, true, false, ◌&&◌, not, ⊤, if◌then◌else◌}
use Rattle.std.specs.List.{flat_map}
use Rattle.std.specs.Option.{option_map_or}
use Rattle.std.specs.Str.{bytes_eq}
use Rattle.ld_value.specs.Datum.{Datum}
use Rattle.ld_model.specs.Properties.{is_personal}
use Rattle.ld_model.specs.declared.property.Property.{Property}
use Rattle.ld_model.specs.declared.unit.Unit.{Unit}
use Rattle.ld_expr.specs.Lookup.{list_from}
use Rattle.ld_expr.specs.Owners.{is_global}
use Rattle.ld_lines.specs.declared.command.RunCommand.{RunCommand}
use Rattle.ld_lines.specs.declared.line.Line.{Line}
use Rattle.ld_lines.specs.declared.line.Line.TheVariants.{Create, OfRun}
use Rattle.ld_state.specs.GlobalValues.{GlobalValues}
use Rattle.ld_state.specs.RunCells.{stored_value}
use Rattle.ld_state.specs.RunState.{RunState}
use Rattle.ld_admission.specs.Refusals.{NoMemory}
use Rattle.ld_world.specs.Answers.{Answers, AnswersLine, line_of}
use Rattle.ld_world.specs.Isolation.{newcomer_of}
use Rattle.ld_world.specs.World.{WorldState, first_world, reply_block, run_named, unit_named, world_step, world_after}

-- ---- histories

-- What was asked by a line, and the text that was written for it.
pub record AnsweredLine : Type 0 where
  pub asked : Option Line
  pub text : List ℕ

-- Each text answers its line in the world that the lines before it have left: it is the line's reply block, or
-- it says that memory ran out, and then the world stays.
abbrev pub AreAnswered : WorldState → List AnsweredLine → Type 0
AreAnswered w [] = ⊤
AreAnswered w (one ∷ more) =
    (new : WorldState) × AnswersLine w one.asked one.text new × AreAnswered new more

-- The lines were answered one after the other by this text, and the history says what was written for each.
pub record IsHistoryOf (w : WorldState) (lines : List (List ℕ)) (text : List ℕ) (history : List AnsweredLine) : Type 0 where
  pub asked : map (λ one. one.asked) history ≡ map line_of lines
  pub written : flat_map (λ one. one.text) history ≡ text
  pub answered : AreAnswered w history

-- The text says that memory ran out: it is `no 99 no-memory` and a line feed.
abbrev pub says_no_memory : List ℕ → Bool
says_no_memory text = bytes_eq text (reply_block (Err NoMemory))

-- The world that the line leaves. One for which memory ran out counts as not given.
abbrev pub left_by : WorldState → AnsweredLine → WorldState
left_by w one = if says_no_memory one.text then w else world_after w (world_step w one.asked)

-- ---- lines of a run

-- The line makes a run of this name, or asks something of it.
abbrev pub names_it : List ℕ → Option Line → Bool
names_it name (Some (Create _ run _)) = bytes_eq run name
names_it name (Some (OfRun _ run _)) = bytes_eq run name
names_it name _ = false

-- The line names the run, and counts as given.
abbrev pub is_met : List ℕ → AnsweredLine → Bool
is_met name one = not (says_no_memory one.text) && names_it name one.asked

-- ---- values of the store

-- The names of the run's persons in the order of enrolment, and of the one who joins by the command.
abbrev pub its_persons : RunState → RunCommand → List (List ℕ)
its_persons s command = map (λ person. person.name) s.persons ++ list_from (λ name. name ∷ []) (newcomer_of command)

-- The values of a global property: those of these persons, where each person has one, and else the one that all
-- share.
abbrev pub global_values : GlobalValues → List (List ℕ) → Property → Bool → List (Option Datum)
global_values store names property true = map (λ name. stored_value store (Some name) property) names
global_values store names property false = stored_value store None property ∷ []

-- The values of any property: none where it is not global.
abbrev pub values_held : GlobalValues → List (List ℕ) → Property → List (Option Datum)
values_held store names property =
    if is_global property.kind then global_values store names property (is_personal property.kind) else []

-- The values of all properties of the unit, in order.
abbrev pub unit_values : Unit → GlobalValues → List (List ℕ) → List (List (Option Datum))
unit_values unit store names = map (values_held store names) unit.properties

-- ---- what is met

-- What a run meets by a line: the published unit of which it is to be made, if there is one; the values that the
-- store holds for it just before; or nothing, where there is no such run. It takes in values afresh at each of its
-- lines, so those of the time at which it was made are none of what it meets.
pub data Meeting : Type 0 where
  the_unit : Option Unit → Meeting
  the_values : List (List (Option Datum)) → Meeting
  nothing : Meeting

-- What it meets in this world by a line that names it.
abbrev pub meeting_by : WorldState → Option Line → Meeting
meeting_by w (Some (Create _ _ id)) = the_unit (unit_named w.units id)
meeting_by w (Some (OfRun _ name command)) = option_map_or
    (λ run. the_values (unit_values run.unit w.store (its_persons run.state command)))
    (run_named w.runs name)
    nothing
meeting_by w _ = nothing

-- A line that names the run, and what the run meets by it.
pub record MetLine : Type 0 where
  pub line : Option Line
  pub meeting : Meeting

-- What the run of this name meets in the history, from the world on: of each line that names it and counts as
-- given the line and what is met by it, in order.
abbrev pub met : WorldState → List ℕ → List AnsweredLine → List MetLine
met w name [] = []
met w name (one ∷ more) =
    let rest = met (left_by w one) name more in
    if is_met name one then record { line = one.asked; meeting = meeting_by w one.asked } ∷ rest else rest

-- The replies to these lines.
abbrev pub replies_to : List ℕ → List AnsweredLine → List (List ℕ)
replies_to name [] = []
replies_to name (one ∷ more) =
    let rest = replies_to name more in
    if is_met name one then one.text ∷ rest else rest

-- ---- the laws

-- If the run of this name meets the same in two histories, of whatever units and with whatever other lines, the
-- replies to the lines by which it meets it are the same. Lines for which memory ran out stand in both histories
-- where they came, and count as not given.
abbrev pub RunsAreIsolated : Type 0
RunsAreIsolated =
    (units other_units : List Unit) (name : List ℕ) (history other : List AnsweredLine)
    → AreAnswered (first_world units) history → AreAnswered (first_world other_units) other
    → met (first_world units) name history ≡ met (first_world other_units) name other
    → replies_to name history ≡ replies_to name other

-- A text that answers lines is that of one history of these lines, and of no other: the text itself tells what
-- was written for each line, and for which of them memory ran out.
abbrev pub TextTellsItsHistory : Type 0
TextTellsItsHistory =
    (w : WorldState) (lines : List (List ℕ)) (text : List ℕ) → Answers w lines text
    → (history : List AnsweredLine) × IsHistoryOf w lines text history
    × ((other : List AnsweredLine) → IsHistoryOf w lines text other → other ≡ history)
