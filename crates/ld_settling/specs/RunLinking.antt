-- The links of a run's sites.
use Rattle.std.specs.Prelude.{◌≡◌, ℕ, ◌≤◌, ◌⊎◌, Bool, true, false, List, [], get_or, Contains}
use Rattle.ld_graph.specs.Table.{has}
use Rattle.ld_cascade.specs.Rooms.{HasRoom, HasRoomOutside}
use Rattle.ld_cascade.specs.System.{fires}
use Rattle.ld_cascade.specs.Tidy.{Bound, Covers, Tidy}
use Rattle.ld_cascade.specs.Wiring.{EdgesAre, IsEmpty, LinksFollow, Wiring}
use Rattle.ld_model.specs.declared.unit.Unit.{Unit}
use Rattle.ld_names.specs.Rules.{Site, sites_of}
use Rattle.ld_names.specs.SiteNumbers.{site_number}
use Rattle.ld_firing.specs.RunSystem.{run_system}
use Rattle.ld_roles.specs.declared.limit.TheConstants.{SEATS}
use Rattle.ld_state.specs.RunState.{RunState}

-- The links of a run, and how many slots the list holds that lends a site's reads.
pub record RunWiring : Type 0 where
  pub wiring : Wiring
  pub room : ℕ

-- Those by their parts.
abbrev pub linked_with : Wiring → ℕ → RunWiring
linked_with wiring room = record { wiring = wiring; room = room }

-- The links are those of the run: each site that is not dirty has the mark that its test gives; each that is
-- not loose has edges equal to its reads, and a loose one is dirty; all sites and all slots are in range.
pub record AreWired (unit : Unit) (s : RunState) (wiring : Wiring) : Type 0 where
  pub tidy : Tidy (run_system unit) s wiring
  pub bound : Bound (run_system unit) s wiring
  pub covers : Covers (run_system unit) s wiring

-- And the list has room for the reads of each site that is not loose.
pub record AreLinksOf (unit : Unit) (s : RunState) (links : RunWiring) : Type 0 where
  pub wired : AreWired unit s links.wiring
  pub rooms : HasRoomOutside (run_system unit) s links.wiring.loose links.room

-- The links of a started run between commands: each site has the mark that its test gives, and edges equal to its
-- reads; no site is dirty or loose; all sites and all slots are in range; and the list has room for the reads of each
-- site.
pub record AreCleanLinks (unit : Unit) (s : RunState) (links : RunWiring) : Type 0 where
  pub marks : (i : ℕ) → fires (run_system unit) s i ≡ false
  pub edges : (i : ℕ) → EdgesAre links.wiring.edges i ((run_system unit).reads s i)
  pub none_dirty : IsEmpty links.wiring.dirty
  pub none_loose : IsEmpty links.wiring.loose
  pub covers : Covers (run_system unit) s links.wiring
  pub room : HasRoom (run_system unit) s links.room

-- The links of a run that is not started: no site has an edge, none is dirty or loose, and none was linked since they
-- began.
pub record AreBare (links : RunWiring) : Type 0 where
  pub no_edges : (i : ℕ) → get_or links.wiring.edges.rows i [] ≡ []
  pub none_dirty : IsEmpty links.wiring.dirty
  pub none_loose : IsEmpty links.wiring.loose
  pub none_relinked : IsEmpty links.wiring.relinked

-- The later links follow the earlier ones, so that they can be made those again; and the list has no less room.
pub record RunLinksFollow (old now : RunWiring) : Type 0 where
  pub links : LinksFollow old.wiring now.wiring
  pub room : old.room ≤ now.room

-- The site is one of a run with more persons, and none of the run with fewer.
pub record IsNewSite (unit : Unit) (from below : ℕ) (site : Site) : Type 0 where
  pub there : Contains (sites_of unit below) site
  pub was_none : Contains (sites_of unit from) site → ⊥

-- The numbers of all sites of a run with this many persons are dirty.
abbrev pub AreDirty : List Bool → Unit → ℕ → Type 0
AreDirty dirty unit persons =
    (site : Site) → Contains (sites_of unit persons) site → has dirty (site_number unit SEATS site) ≡ true

-- The numbers of the sites that came with the persons from one on and below another are in the table.
abbrev pub AreNewcomers : Unit → List Bool → ℕ → ℕ → Type 0
AreNewcomers unit table from below =
    (site : Site) → IsNewSite unit from below site → has table (site_number unit SEATS site) ≡ true

-- The number is that of a site that came with the persons from one on and below another.
pub record IsNewcomer (unit : Unit) (from below i : ℕ) : Type 0 where
  pub site : Site
  pub is_new : IsNewSite unit from below site
  pub number : site_number unit SEATS site ≡ i

-- All that was dirty or loose is so, and what became loose is dirty; the edges, the table of the sites that were
-- relinked, and the range are the same.
pub record Loosens (old now : Wiring) : Type 0 where
  pub dirty : (i : ℕ) → has old.dirty i ≡ true → has now.dirty i ≡ true
  pub loose : (i : ℕ) → has old.loose i ≡ true → has now.loose i ≡ true
  pub only : (i : ℕ) → has now.loose i ≡ true → (has old.loose i ≡ true) ⊎ (has now.dirty i ≡ true)
  pub edges : now.edges ≡ old.edges
  pub relinked : now.relinked ≡ old.relinked
  pub sites : now.sites ≡ old.sites
