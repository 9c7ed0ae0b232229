-- That a settling goes by the sites of a run in their order, and what it leaves.
use Rattle.std.specs.Prelude.{◌≡◌, ◌≤◌, true, Some, map, length, Contains}
use Rattle.ld_cascade.specs.Settling.{sums_of, sweep_firings, swept}
use Rattle.ld_model.specs.declared.unit.Unit.{Unit}
use Rattle.ld_names.specs.Rules.{Site}
use Rattle.ld_state.specs.RunState.{RunState, seen_in}
use Rattle.ld_rules.specs.SiteTests.{site_mark, site_test}
use Rattle.ld_firing.specs.RunSystem.{run_system, verdict_in}
use Rattle.ld_firing.specs.SiteWalk.{HasSeats, all_sites, walk_firings, walk_sums, walked, with_number}
use Rattle.ld_admission.specs.Checks.{is_started}
use Rattle.ld_laws.specs.RunLaws.{ComesTo}

-- A sweep visits the sites of a run one after another, rule by rule in document order and for each rule of persons
-- in the order in which they joined, and does nothing else: it leaves the state that these visits leave, fires what
-- they fire, and counts what they count.
abbrev pub SweepVisitsSitesInOrder : Type 0
SweepVisitsSitesInOrder =
    (unit : Unit) (s : RunState) → HasSeats s
    → (swept (run_system unit) s ≡ walked unit s (all_sites unit s))
    × (sweep_firings (run_system unit) s ≡ map (with_number unit s.seats) (walk_firings unit s (all_sites unit s)))
    × (sums_of (run_system unit) (sweep_firings (run_system unit) s)
    ≡ walk_sums unit (walk_firings unit s (all_sites unit s)))

-- Each state that a run comes to has a seat for each person, so that sweeps of its settlings are such walks.
abbrev pub PersonsHaveSeats : Type 0
PersonsHaveSeats = (unit : Unit) (s : RunState) → ComesTo unit s → length s.persons ≤ s.seats

-- In each state that a started run comes to, the mark of each rule, for the run or for each of its persons, is what
-- its test says.
abbrev pub MarksTellTests : Type 0
MarksTellTests =
    (unit : Unit) (s : RunState) (site : Site) → ComesTo unit s → is_started s ≡ true
    → Contains (all_sites unit s) site
    → verdict_in (s.cells (site_mark site)) ≡ Some (site_test unit (seen_in unit s) site)
