-- Walks over the sites of a run: a sweep visits them in their order, and does nothing else (`sweep_walks` and
-- `sweep_fires` in proofs/SeatsSweep).
use Rattle.std.specs.Prelude.{ℕ, ◌<◌, ◌≤◌, cond, List, [], ◌∷◌, ◌++◌, fold, length, sum_by, Bool}
use Rattle.ld_cascade.specs.System.{due}
use Rattle.ld_cascade.specs.Settling.{Firing, Sums}
use Rattle.ld_model.specs.declared.unit.Unit.{Unit}
use Rattle.ld_names.specs.Rules.{Site, sites_of}
use Rattle.ld_names.specs.SiteNumbers.{site_number}
use Rattle.ld_firing.specs.Actions.{site_firing}
use Rattle.ld_state.specs.RunState.{RunState, seen_in}
use Rattle.ld_firing.specs.RunSystem.{run_system, verdict_in}
use Rattle.ld_rules.specs.SiteTests.{site_test, site_mark}

-- There is a seat, and one for each person.
pub record HasSeats (s : RunState) : Type 0 where
  pub seat : 0 < s.seats
  pub seated : length s.persons ≤ s.seats

-- The test of the site and its mark differ.
abbrev pub is_due : Unit → RunState → Site → Bool
is_due unit s site = due (site_test unit (seen_in unit s) site) (verdict_in (s.cells (site_mark site)))

-- The state after the visit of a site, which fires it where it is due.
abbrev pub after_visit : Unit → RunState → Site → RunState
after_visit unit s site = cond (is_due unit s site) (site_firing unit s site).state s

-- The firing of a site, and the state before it.
pub record SiteFiring : Type 0 where
  pub before : RunState
  pub site : Site

-- The firing of the visit of a site, or none where it is not due.
abbrev pub visit_firings : Unit → RunState → Site → List SiteFiring
visit_firings unit s site = cond (is_due unit s site) (record { before = s; site = site } ∷ []) []

-- The state after visits of these sites, one after another, and the firings of those visits.
abbrev pub walked : Unit → RunState → List Site → RunState
walked unit s sites = fold (after_visit unit) s sites

-- The firings of those visits, in order.
abbrev pub walk_firings : Unit → RunState → List Site → List SiteFiring
walk_firings unit s [] = []
walk_firings unit s (site ∷ sites) =
    visit_firings unit s site ++ walk_firings unit (after_visit unit s site) sites

-- How many firings there are, how many changes they reject, and how many notices they send.
abbrev pub walk_sums : Unit → List SiteFiring → Sums
walk_sums unit firings = record {
  fired = length firings;
  rejected = sum_by (λ f. (site_firing unit f.before f.site).rejected) firings;
  sent = sum_by (λ f. (site_firing unit f.before f.site).sent) firings;
}

-- All sites of the run, in their order.
abbrev pub all_sites : Unit → RunState → List Site
all_sites unit s = sites_of unit (length s.persons)

-- The firing in the words of the system, where a site is a number.
abbrev pub with_number : (unit : Unit) → ℕ → SiteFiring → Firing (run_system unit)
with_number unit seats f = record { before = f.before; site = site_number unit seats f.site }
