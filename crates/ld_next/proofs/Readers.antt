-- The earliest alarm of the sites that read `Now`, in whatever order, is the next alarm of the run.
use Rattle.std.proofs.Common.{◌≡◌, refl, sym, ap, subst, ◌∙◌, ℕ, ℤ, List, [], ◌∷◌, length, nat_eq, Option, Some, None, true, false, inl, inr, Contains}
use Rattle.std.specs.List.{list_any}
use Rattle.std.specs.Option.{option_map_or}
use Rattle.ld_value.proofs.Choices.{bool_cases}
use Rattle.ld_model.specs.Cells.{same_cell}
use Rattle.ld_model.specs.declared.cell.CellName.{CellName}
use Rattle.ld_model.specs.declared.cell.CellName.TheVariants.{Now}
use Rattle.ld_model.specs.declared.unit.Unit.{Unit}
use Rattle.ld_names.specs.Rules.{Site, sites_of}
use Rattle.ld_names.specs.SiteNumbers.{site_number}
use Rattle.ld_expr.specs.Lookup.{list_from}
use Rattle.ld_state.specs.RunCells.{slot_of}
use Rattle.ld_state.specs.RunState.{RunState, seen_in}
use Rattle.ld_state.proofs.Elements.{IsIn, contains_from_in, in_from_contains}
use Rattle.ld_state.proofs.SameCells.{one_cell}
use Rattle.ld_rules.specs.SiteLooks.{site_looks}
use Rattle.ld_rules.specs.SiteTests.{site_mark, site_test}
use Rattle.ld_cascade.specs.System.{due, fires}
use Rattle.ld_firing.specs.RunSystem.{IsSoundRun, run_system, site_at, slots_named, verdict_in}
use Rattle.ld_firing.specs.SiteWalk.{all_sites}
use Rattle.ld_firing.proofs.Found.{chosen_by, in_filter_map}
use Rattle.ld_firing.proofs.SitesNumbered.{seats_of, site_numbered}
use Rattle.ld_alarm.specs.Alarm.{site_alarm}
use Rattle.ld_alarm.specs.Later.{earliest_of}
use Rattle.ld_alarm.specs.NextAlarm.{next_alarm}
use Rattle.ld_next.specs.Alarms.{alarm_at}
use Rattle.ld_alarm.proofs.Sites.{AreQuiet, alarm_of_sites, no_alarm_elsewhere}
use Rattle.ld_next.proofs.Least.{GivenBy, earliest_least, least_once}

-- Whether a cell is in a list can be told.
there_by : (cell : CellName) (cells : List CellName) → list_any (λ other. same_cell other cell) cells ≡ true → IsIn cells cell
there_by cell [] is = absurd (cc)
there_by cell (c ∷ cells) is = elim (bool_cases (same_cell c cell)) [
  | inl same ↦ inl (one_cell c cell same)
  | inr other ↦ inr (there_by cell cells (rw other at is))
]

not_there_by : (cells : List CellName) → list_any (λ other. same_cell other Now) cells ≡ false → IsIn cells Now → ⊥
not_there_by [] isnt there = there
not_there_by (c ∷ cells) isnt (inl same) = absurd (let wrong : true ≡ false = rw same at isnt in cc)
not_there_by (c ∷ cells) isnt (inr there) = elim (bool_cases (same_cell c Now)) [
  | inl same ↦ absurd (let wrong : true ≡ false = rw same at isnt in cc)
  | inr other ↦ not_there_by cells (rw other at isnt) there
]

module _ (unit : Unit) (s : RunState) (sound : IsSoundRun unit s) (slot : ℕ)
    (is_slot : slot_of unit (length s.persons) Now ≡ Some slot) where
  numbered : (site : Site) → IsIn (all_sites unit s) site → site_at unit s (site_number unit s.seats site) ≡ Some site
  numbered site there =
      site_numbered unit s site (seats_of unit s sound) (contains_from_in (sites_of unit (length s.persons)) site there)

  -- A site of which no number fires is not due.
  quiet_sites : ((i : ℕ) → fires (run_system unit) s i ≡ false) → AreQuiet unit s (all_sites unit s)
  quiet_sites quiet site there =
      sym (ap (λ found. due (option_map_or (site_test unit (seen_in unit s)) found false)
      (option_map_or (λ one. verdict_in (s.cells (site_mark one))) found (Some false))) (numbered site there))
      ∙ quiet (site_number unit s.seats site)

  -- A site that has an alarm looks at `Now`.
  looks_there : (site : Site) (z : ℤ) → site_alarm unit (seen_in unit s) site ≡ Some z → IsIn (site_looks unit (seen_in unit s) site) Now
  looks_there site z rings =
      let looks = site_looks unit (seen_in unit s) site in
      elim (bool_cases (list_any (λ other. same_cell other Now) looks)) [
        | inl is ↦ there_by Now looks is
        | inr isnt ↦ absurd (never (no_alarm_elsewhere unit (seen_in unit s) site (not_there_by looks isnt)) rings)
      ]
    where
      never : {o : Option ℤ} → o ≡ None → o ≡ Some z → ⊥
      never none some = absurd (cc)

  -- So its number reads the slot of `Now`.
  reads_there : (site : Site) (z : ℤ) → IsIn (all_sites unit s) site → site_alarm unit (seen_in unit s) site ≡ Some z
      → Contains ((run_system unit).reads s (site_number unit s.seats site)) slot
  reads_there site z there rings =
      let looks = site_looks unit (seen_in unit s) in
      subst (λ found. Contains (slots_named unit s (list_from looks found)) slot) (sym (numbered site there))
      (contains_from_in (slots_named unit s (looks site)) slot
      (in_filter_map (slot_of unit (length s.persons)) (looks site) Now slot (looks_there site z rings) is_slot))

  -- What a number gives is the alarm of a site, and the other way round.
  site_gives : (readers : List ℕ) (z : ℤ) → GivenBy (alarm_at unit s) readers z → GivenBy (site_alarm unit (seen_in unit s)) (all_sites unit s) z
  site_gives readers z given = by (site_at unit s given.one) refl given.given
    where
      by : (found : Option Site) → site_at unit s given.one ≡ found
          → option_map_or (site_alarm unit (seen_in unit s)) found None ≡ Some z
          → GivenBy (site_alarm unit (seen_in unit s)) (all_sites unit s) z
      by None at rings = absurd (cc)
      by (Some site) at rings = record {
        one = site;
        inside = (chosen_by (λ one. nat_eq (site_number unit s.seats one) given.one) (sites_of unit (length s.persons)) site at).inside;
        given = rings;
      }

  number_gives : (readers : List ℕ) → ((i : ℕ) → Contains ((run_system unit).reads s i) slot → Contains readers i)
      → (z : ℤ) → GivenBy (site_alarm unit (seen_in unit s)) (all_sites unit s) z → GivenBy (alarm_at unit s) readers z
  number_gives readers all z given =
      let number = site_number unit s.seats given.one in
      record {
        one = number;
        inside = in_from_contains readers number (all number (reads_there given.one z given.inside given.given));
        given = ap (λ found. option_map_or (site_alarm unit (seen_in unit s)) found None) (numbered given.one given.inside) ∙ given.given;
      }

  pub alarm_of_readers : ((i : ℕ) → fires (run_system unit) s i ≡ false) → (readers : List ℕ)
      → ((i : ℕ) → Contains ((run_system unit).reads s i) slot → Contains readers i)
      → earliest_of (alarm_at unit s) readers ≡ next_alarm unit s
  alarm_of_readers quiet readers all =
      least_once (GivenBy (alarm_at unit s) readers) (GivenBy (site_alarm unit (seen_in unit s)) (all_sites unit s))
      (earliest_of (alarm_at unit s) readers) (earliest_of (site_alarm unit (seen_in unit s)) (all_sites unit s))
      (site_gives readers) (number_gives readers all)
      (earliest_least (alarm_at unit s) readers) (earliest_least (site_alarm unit (seen_in unit s)) (all_sites unit s))
      ∙ sym (alarm_of_sites unit s (quiet_sites quiet))
