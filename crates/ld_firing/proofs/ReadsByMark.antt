-- That what a site reads follows from the persons and from its own mark.
use Rattle.std.proofs.Common.{◌≡◌, refl, sym, ap, ap₂, ◌∙◌, ℕ, [], ◌∷◌, length, filter_map, Option, Some, None, true, false, ◌&&◌, unwrap_or, if◌then◌else◌}
use Rattle.ld_value.specs.Datum.{Datum, text_datum, truth_datum, number_datum, moment_datum, span_datum}
use Rattle.ld_model.specs.declared.unit.Unit.{Unit}
use Rattle.ld_names.specs.declared.rule.Rule.{Rule}
use Rattle.ld_names.specs.Rules.{Site}
use Rattle.ld_expr.specs.Lookup.{is_some_and, list_from}
use Rattle.ld_expr.specs.Seen.{says_yes}
use Rattle.ld_roles.specs.Roster.{Persons}
use Rattle.ld_state.specs.RunCells.{slot_of}
use Rattle.ld_state.specs.RunState.{RunState, seen_in, cell_of}
use Rattle.ld_firing.specs.RunSystem.{IsSoundRun, run_system, site_at, slots_named, verdict_in}
use Rattle.ld_firing.proofs.Laws.{counted_by, enrolment_persons, enrolment_seats, persons_alike}
use Rattle.ld_firing.proofs.Sites.{some_of, said_of, same_site_at}
use Rattle.ld_rules.specs.SiteLooks.{open_looks, site_looks}
use Rattle.ld_rules.specs.SiteTests.{is_latched, rule_of, says_for_good, site_mark}
use Rattle.ld_rules.proofs.LooksAlike.{same_open_looks}

-- A value says yes where the verdict that it holds is yes.
yes_by_verdict : (value : Option Datum) → says_yes value ≡ unwrap_or (verdict_in value) false
yes_by_verdict None = refl
yes_by_verdict (Some (truth_datum b)) = refl
yes_by_verdict (Some (text_datum _)) = refl
yes_by_verdict (Some (number_datum _)) = refl
yes_by_verdict (Some (moment_datum _)) = refl
yes_by_verdict (Some (span_datum _)) = refl

module _ (unit : Unit) (s t : RunState) where
  -- A rule has said yes for good in both, where the mark holds the same verdict.
  latched_alike : (site : Site) → verdict_in (s.cells (site_mark site)) ≡ verdict_in (t.cells (site_mark site))
      → (rule : Rule) → is_latched (seen_in unit s) site rule ≡ is_latched (seen_in unit t) site rule
  unfolding cell_of
  latched_alike site same rule =
      ap (λ yes. says_for_good rule && yes)
      (yes_by_verdict (s.cells (site_mark site)) ∙ ap (λ verdict. unwrap_or verdict false) same
      ∙ sym (yes_by_verdict (t.cells (site_mark site))))

  looks_by_mark : (site : Site) → s.persons ≡ t.persons
      → verdict_in (s.cells (site_mark site)) ≡ verdict_in (t.cells (site_mark site))
      → site_looks unit (seen_in unit s) site ≡ site_looks unit (seen_in unit t) site
  unfolding site_looks
  looks_by_mark site persons same =
      ap₂ (λ latched looks. if latched then site_mark site ∷ [] else looks)
      (by (rule_of unit site))
      (same_open_looks unit (seen_in unit s) (seen_in unit t) (counted_by unit s t) site
      (persons_alike unit s t persons (open_looks unit (seen_in unit s) site)))
    where
      by : (found : Option Rule) → is_some_and (is_latched (seen_in unit s) site) found
          ≡ is_some_and (is_latched (seen_in unit t) site) found
      by None = refl
      by (Some rule) = latched_alike site same rule

  pub reads_by_mark : (i : ℕ) → IsSoundRun unit s → IsSoundRun unit t
      → (run_system unit).setting s ≡ (run_system unit).setting t → (run_system unit).is_site s i ≡ true
      → (run_system unit).is_site t i ≡ true → (run_system unit).mark s i ≡ (run_system unit).mark t i
      → (run_system unit).reads s i ≡ (run_system unit).reads t i
  reads_by_mark i sound sound_too setting there there_too marks =
      let found = some_of (site_at unit s i) there in
      let site = found.0 in
      let persons = enrolment_persons s t unit setting in
      let at_too : site_at unit t i ≡ Some site =
      sym (same_site_at unit s t i (enrolment_seats s t unit setting) persons) ∙ found.1 in
      let verdicts : verdict_in (s.cells (site_mark site)) ≡ verdict_in (t.cells (site_mark site)) =
      sym (said_of unit s i site (λ one. verdict_in (s.cells (site_mark one))) (Some false) found.1) ∙ marks
      ∙ said_of unit t i site (λ one. verdict_in (t.cells (site_mark one))) (Some false) at_too in
      ap (λ (one : Option Site). slots_named unit s (list_from (site_looks unit (seen_in unit s)) one)) found.1
      ∙ ap (slots_named unit s) (looks_by_mark site persons verdicts)
      ∙ ap (λ (ps : Persons). filter_map (slot_of unit (length ps)) (site_looks unit (seen_in unit t) site)) persons
      ∙ sym (ap (λ (one : Option Site). slots_named unit t (list_from (site_looks unit (seen_in unit t)) one)) at_too)
