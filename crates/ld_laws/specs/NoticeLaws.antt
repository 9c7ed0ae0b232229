-- Which notices are sent.
use Rattle.std.specs.Prelude.{◌≡◌, ℤ, ◌+◌, List, [], ◌++◌, map, length, Ok}
use Rattle.std.specs.List.{flat_map}
use Rattle.std.specs.Option.{option_map_or}
use Rattle.ld_cascade.specs.Settling.{Firing, all_firings}
use Rattle.ld_model.specs.declared.unit.Unit.{Unit}
use Rattle.ld_names.specs.Rules.{Site}
use Rattle.ld_lines.specs.declared.command.RunCommand.{RunCommand}
use Rattle.ld_state.specs.GlobalValues.{GlobalValues}
use Rattle.ld_state.specs.RunState.{NoticeState, RunState, seen_in}
use Rattle.ld_rules.specs.LawWords.{notices_among}
use Rattle.ld_rules.specs.SiteTests.{rule_of, site_test}
use Rattle.ld_firing.specs.Actions.{actions_of, notice_now, site_firing}
use Rattle.ld_firing.specs.RunSettling.{Settlement}
use Rattle.ld_firing.specs.RunSystem.{of_site, run_system}
use Rattle.ld_run.specs.Changes.{directly_changed}
use Rattle.ld_run.specs.RunStep.{DoneCommand, at_moment, run_step, settled, settled_after}
use Rattle.ld_sharing.specs.Globals.{taking_in}
use Rattle.ld_admission.specs.Checks.{is_started}

-- The notices of a site's firing in this state: those among the actions of its rule, in order, each as it is sent
-- then. A number that is no rule has none.
abbrev pub notices_of : Unit → RunState → Site → List NoticeState
notices_of unit s site = option_map_or
    (λ rule. map (notice_now unit s) (notices_among (actions_of unit rule (site_test unit (seen_in unit s) site))))
    (rule_of unit site)
    []

-- The notices of these firings, one firing after the other.
abbrev pub notices_in : (unit : Unit) → List (Firing (run_system unit)) → List NoticeState
notices_in unit firings = flat_map (λ f. of_site unit f.before f.site (notices_of unit f.before) []) firings

-- A firing sends its notices, each once and in order, and nothing else.
abbrev pub FiringSends : Type 0
FiringSends =
    (unit : Unit) (s : RunState) (site : Site)
    → (site_firing unit s site).state.outbox ≡ s.outbox ++ notices_of unit s site

-- The settlings of a command that is done: the first, where its run is started, from the state that has taken in the
-- store's values; and the one that follows the command's own change.
pub record AreSettlingsOf (unit : Unit) (s : RunState) (store : GlobalValues) (moment : ℤ) (d : DoneCommand) (first second : Settlement) : Type 0 where
  pub before : settled (is_started s) unit (taking_in unit store (at_moment s moment)) ≡ Ok first
  pub behind : settled_after unit store first.state moment d.command ≡ Ok second

-- The firings of both settlings.
abbrev pub firings_of : (unit : Unit) → RunState → GlobalValues → ℤ → DoneCommand → Settlement → Settlement → List (Firing (run_system unit))
firings_of unit s store moment d first second =
    all_firings (run_system unit) (taking_in unit store (at_moment s moment)) first.turns
    ++ all_firings (run_system unit) (directly_changed unit store first.state moment d.command) second.turns

-- A command that is done adds to the outbox exactly the notices of its firings, in the order of the firings and of
-- their lists, and tells their number as sent.
abbrev pub CommandSends : Type 0
CommandSends =
    (unit : Unit) (s : RunState) (store : GlobalValues) (moment : ℤ) (asked : RunCommand) (d : DoneCommand)
    → run_step unit s store moment asked ≡ Ok d
    → (first : Settlement) × (second : Settlement) × AreSettlingsOf unit s store moment d first second
    × (d.state.outbox ≡ s.outbox ++ notices_in unit (firings_of unit s store moment d first second))
    × (d.sums.sent ≡ length (notices_in unit (firings_of unit s store moment d first second)))
