-- That the system of a unit's runs keeps the laws.
use Rattle.std.proofs.Common.{◌≡◌, refl, sym, ap, subst, ◌∙◌, ℕ, length, slice_get, Option, Some, false, Contains, arith}
use Rattle.ld_base.specs.Maybe.{◌>>=◌}
use Rattle.ld_cascade.specs.System.{IsSeenAlike, Lawful}
use Rattle.ld_model.specs.declared.cell.CellName.{CellName}
use Rattle.ld_model.specs.declared.unit.Unit.{Unit}
use Rattle.ld_names.specs.Rules.{Site}
use Rattle.ld_expr.specs.Lookup.{list_from}
use Rattle.ld_state.specs.RunCells.{all_cells, slot_of}
use Rattle.ld_state.specs.RunState.{RunState, seen_in, cell_of}
use Rattle.ld_firing.specs.RunSystem.{IsSoundRun, site_at, slots_named, content_of, run_system}
use Rattle.ld_rules.specs.SiteLooks.{site_looks}
use Rattle.ld_rules.specs.SiteTests.{site_test}
use Rattle.ld_rules.proofs.Alike.{AgreeOn}
use Rattle.ld_state.proofs.Cells.{slot_stands}
use Rattle.ld_firing.proofs.ChecksMet.{checks_met}
use Rattle.ld_state.proofs.Elements.{IsIn, contains_from_in, stands_in}
use Rattle.ld_firing.proofs.Found.{in_filter_map}
use Rattle.ld_firing.proofs.Laws.{counted_by, keeps_setting, keeps_sites, keeps_count, keeps_slots, keeps_size, keeps_sound, within, no_test, no_mark, no_reads, no_size, reads_below, changes_below, own_mark, other_marks, reported}
use Rattle.ld_firing.proofs.Growing.{cell_stays, same_given, site_stays, slot_stays}
use Rattle.ld_firing.proofs.ReadsByMark.{reads_by_mark}
use Rattle.ld_firing.proofs.RulesThere.{site_looks_there}
use Rattle.ld_firing.proofs.Sites.{site_found, some_of, said_of}
use Rattle.ld_firing.proofs.SitesNumbered.{seats_of}
use Rattle.ld_rules.proofs.SitesAlike.{same_site_test, same_site_looks}

module _ (unit : Unit) where
  -- What stands in the slot of a cell is the value of the cell.
  holds_value : (s : RunState) (k : ℕ) (c : CellName) → slice_get (all_cells unit (length s.persons)) k ≡ Some c
      → content_of unit s k ≡ cell_of unit s c
  holds_value s k c at = ap (λ (found : Option CellName). found >>= cell_of unit s) at

  -- A sound run has each cell at which the test of one of its sites looks.
  looked_there : (s : RunState) (i : ℕ) → IsSoundRun unit s → (site : Site) → site_at unit s i ≡ Some site
      → (c : CellName) → IsIn (site_looks unit (seen_in unit s) site) c → IsIn (all_cells unit (length s.persons)) c
  looked_there s i sound site at c inside =
      let has = site_found unit s i site at in
      site_looks_there unit (checks_met unit sound.valid) (seen_in unit s) site has.rule has.ruled has.owned c inside

  -- Two states that are seen alike have the same in each cell at which the test of the site looks.
  agree : (s t : RunState) (i : ℕ) → IsSeenAlike (run_system unit) s t i → (site : Site)
      → site_at unit s i ≡ Some site
      → AgreeOn (seen_in unit s) (seen_in unit t) (site_looks unit (seen_in unit s) site)
  agree s t i alike site at c inside =
      let stands = stands_in (all_cells unit (length s.persons)) c (looked_there s i alike.sound site at c inside) in
      let k = stands.number in
      let slot = slot_stands unit (length s.persons) k c stands.at in
      let looked : IsIn (slots_named unit s (site_looks unit (seen_in unit s) site)) k =
      in_filter_map (slot_of unit (length s.persons)) (site_looks unit (seen_in unit s) site) c k inside slot in
      let read : Contains ((run_system unit).reads s i) k =
      contains_from_in ((run_system unit).reads s i) k
      (subst (λ (found : Option Site). IsIn (slots_named unit s (list_from (site_looks unit (seen_in unit s)) found)) k)
      (sym at) looked) in
      let there_too = cell_stays unit (length s.persons) (length t.persons) k c alike.grows.persons stands.at in
      sym (holds_value s k c stands.at) ∙ alike.agree k read ∙ holds_value t k c there_too

  other_site : (s t : RunState) (i : ℕ) → IsSeenAlike (run_system unit) s t i → (site : Site)
      → site_at unit s i ≡ Some site → site_at unit t i ≡ Some site
  other_site s t i alike site at =
      site_stays unit s t i site alike.grows.seats alike.grows.persons (seats_of unit t alike.sound_other) at

  -- A site's test follows from what stands in the slots that it reads.
  pub same_test : (s t : RunState) (i : ℕ) → IsSeenAlike (run_system unit) s t i
      → (run_system unit).test s i ≡ (run_system unit).test t i
  same_test s t i alike =
      let found = some_of (site_at unit s i) alike.there in
      let site = found.0 in
      said_of unit s i site (site_test unit (seen_in unit s)) false found.1
      ∙ same_site_test unit (seen_in unit s) (seen_in unit t) (counted_by unit s t) site (agree s t i alike site found.1)
      ∙ sym (said_of unit t i site (site_test unit (seen_in unit t)) false (other_site s t i alike site found.1))

  -- And so do the slots that it reads.
  pub same_reads : (s t : RunState) (i : ℕ) → IsSeenAlike (run_system unit) s t i
      → (run_system unit).reads s i ≡ (run_system unit).reads t i
  same_reads s t i alike =
      let found = some_of (site_at unit s i) alike.there in
      let site = found.0 in
      let looks = site_looks unit (seen_in unit s) site in
      ap (λ (one : Option Site). slots_named unit s (list_from (site_looks unit (seen_in unit s)) one)) found.1
      ∙ same_given (slot_of unit (length s.persons)) (slot_of unit (length t.persons)) looks
      (λ c inside. slot_stays unit (length s.persons) (length t.persons) c alike.grows.persons
      (looked_there s i alike.sound site found.1 c inside))
      ∙ ap (slots_named unit t) (same_site_looks unit (seen_in unit s) (seen_in unit t)
      (counted_by unit s t) site (agree s t i alike site found.1))
      ∙ sym (ap (λ (one : Option Site). slots_named unit t (list_from (site_looks unit (seen_in unit t)) one))
      (other_site s t i alike site found.1))

-- The system of a unit's runs keeps the laws.
pub run_is_lawful : (unit : Unit) → Lawful (run_system unit)
run_is_lawful unit = record {
  stays = λ e. record { seats = refl; persons = omega arith };
  same_test = same_test unit;
  same_reads = same_reads unit;
  reads_by_mark = reads_by_mark unit;
  keeps_sound = keeps_sound unit;
  keeps_setting = keeps_setting unit;
  keeps_sites = keeps_sites unit;
  keeps_count = keeps_count unit;
  keeps_slots = keeps_slots unit;
  keeps_size = keeps_size unit;
  own_mark = own_mark unit;
  other_marks = other_marks unit;
  reported = reported unit;
  within = within unit;
  no_test = no_test unit;
  no_mark = no_mark unit;
  no_reads = no_reads unit;
  no_size = no_size unit;
  reads_below = reads_below unit;
  changes_below = changes_below unit;
}
