-- When the acts of a play are opened.
use Rattle.std.specs.Prelude.{◌≡◌, ◌⊎◌, ℕ, ℤ, Ok, Some, is_some, slice_get}
use Rattle.ld_value.specs.Datum.{Datum, moment_datum}
use Rattle.ld_model.specs.declared.cell.CellName.TheVariants.{Started}
use Rattle.ld_model.specs.declared.cell.Owner.TheVariants.{Run}
use Rattle.ld_model.specs.declared.method.Act.{Act}
use Rattle.ld_model.specs.declared.unit.Unit.{Unit}
use Rattle.ld_names.specs.declared.rule.Rule.{Rule}
use Rattle.ld_names.specs.Rules.{rules_of}
use Rattle.ld_lines.specs.declared.command.RunCommand.{RunCommand}
use Rattle.ld_lines.specs.declared.command.RunCommand.TheVariants.{Start}
use Rattle.ld_refs.specs.Extents.{act_at}
use Rattle.ld_expr.specs.Seen.{act_opened_cell}
use Rattle.ld_state.specs.GlobalValues.{GlobalValues}
use Rattle.ld_state.specs.RunState.{RunState, seen_in}
use Rattle.ld_firing.specs.Actions.{opened_by}
use Rattle.ld_rules.specs.LawWords.{ActsOpenInOrder, IsValid, is_marked}
use Rattle.ld_rules.specs.SiteTests.{opening_of}
use Rattle.ld_run.specs.Reached.{IsReached}
use Rattle.ld_run.specs.RunStep.{DoneCommand, run_step}
use Rattle.ld_laws.specs.RunLaws.{ComesTo}

-- The rule of this number opens the act of this number.
pub record IsOpener (unit : Unit) (rule thing : ℕ) : Type 0 where
  pub one : Rule
  pub ruled : slice_get (rules_of unit) rule ≡ Some one
  pub opens : opened_by unit one ≡ Some thing

-- In each state that a run of a valid unit comes to, an act but the first of its play is opened only where the act
-- before it is done.
abbrev pub ActsOpenOneAfterAnother : Type 0
ActsOpenOneAfterAnother = (unit : Unit) → IsValid unit → (s : RunState) → IsReached unit s → ActsOpenInOrder unit s

-- In each such state an act is opened exactly where the rule that opens it has said yes.
abbrev pub ActsOpenByTheirRules : Type 0
ActsOpenByTheirRules =
    (unit : Unit) (s : RunState) (rule thing : ℕ) → IsValid unit → ComesTo unit s → IsOpener unit rule thing
    → is_some (s.cells (act_opened_cell thing)) ≡ is_marked s rule Run

-- An act that was opened stays opened, since the same moment.
abbrev pub OpenedActStays : Type 0
OpenedActStays =
    (unit : Unit) (s : RunState) (store : GlobalValues) (moment : ℤ) (asked : RunCommand) (d : DoneCommand)
    (thing : ℕ) (value : Datum)
    → IsValid unit → ComesTo unit s → run_step unit s store moment asked ≡ Ok d
    → s.cells (act_opened_cell thing) ≡ Some value → d.state.cells (act_opened_cell thing) ≡ Some value

-- A command leaves the moment of an act's opening, or opens the act at its own moment.
abbrev pub ActOpensNow : Type 0
ActOpensNow =
    (unit : Unit) (s : RunState) (store : GlobalValues) (moment : ℤ) (asked : RunCommand) (d : DoneCommand)
    (thing : ℕ)
    → run_step unit s store moment asked ≡ Ok d
    → (d.state.cells (act_opened_cell thing) ≡ s.cells (act_opened_cell thing))
    ⊎ (d.state.cells (act_opened_cell thing) ≡ Some (moment_datum moment))

-- A start that is done keeps its moment.
abbrev pub StartKeepsItsMoment : Type 0
StartKeepsItsMoment =
    (unit : Unit) (s : RunState) (store : GlobalValues) (moment : ℤ) (d : DoneCommand)
    → run_step unit s store moment Start ≡ Ok d → d.state.cells Started ≡ Some (moment_datum moment)

-- A start that is done opens the first act of each play, at its moment.
abbrev pub StartOpensFirstActs : Type 0
StartOpensFirstActs =
    (unit : Unit) (s : RunState) (store : GlobalValues) (moment : ℤ) (d : DoneCommand) (p : ℕ) (act : Act)
    → IsValid unit → ComesTo unit s → run_step unit s store moment Start ≡ Ok d
    → act_at unit p 0 ≡ Some act → opening_of unit (seen_in unit d.state) act ≡ Some (moment_datum moment)
