-- The sites of a run: each has the number that it is found by.
use Rattle.std.proofs.Common.{◌≡◌, refl, sym, ap, subst, ℕ, ◌<◌, ◌≤◌, inl, [], ◌∷◌, length, map, slice_get, Some, Contains, arith}
use Rattle.ld_base.specs.Numbers.{numbers_below}
use Rattle.ld_model.specs.declared.cell.Owner.TheVariants.{Run}
use Rattle.ld_model.specs.declared.unit.Unit.{Unit}
use Rattle.ld_names.specs.declared.rule.Rule.{Rule}
use Rattle.ld_names.specs.declared.rule.RuleKind.TheVariants.{Person as OfPerson, Run as OfRun}
use Rattle.ld_names.specs.SiteNumbers.{site_number}
use Rattle.ld_names.proofs.SitesNumbered.{is_numbering, site_numbered as numbers_site}
use Rattle.ld_names.specs.Rules.{Site, kind_of, person_site, rules_of, sites_by_kind, sites_of, sites_of_rule}
use Rattle.ld_state.specs.RunState.{RunState}
use Rattle.ld_state.specs.StateView.{StateView, run_of}
use Rattle.ld_state.proofs.Elements.{IsIn, contains_from_in, in_below, in_each, in_map}
use Rattle.ld_firing.specs.RunSystem.{IsSoundRun, site_at}
use Rattle.ld_firing.specs.SiteWalk.{HasSeats}
use Rattle.ld_state.proofs.SeenSame.{persons_counted}

-- ---- numbers

pub seats_of : (unit : Unit) (s : RunState) → IsSoundRun unit s → HasSeats s
seats_of unit s sound = record { seat = sound.seat; seated = sound.seated }

-- A site is the one of its number.
pub site_numbered : (unit : Unit) (s : RunState) (site : Site) → HasSeats s → Contains (sites_of unit (length s.persons)) site
    → site_at unit s (site_number unit s.seats site) ≡ Some site
site_numbered unit s site seats there =
    numbers_site unit s.seats (length s.persons) site (is_numbering unit s.seats (length s.persons) seats.seat seats.seated) there

-- ---- which sites there are

-- A site of a rule is one of the run.
pub site_of_rule_there : (unit : Unit) (persons number : ℕ) (rule : Rule) (site : Site) → slice_get (rules_of unit) number ≡ Some rule
    → IsIn (sites_of_rule persons number rule) site → Contains (sites_of unit persons) site
site_of_rule_there unit persons number rule site at inside =
    contains_from_in (sites_of unit persons) site
    (in_each (sites_of_rule persons) (rules_of unit) number rule site at inside)

-- ---- how many persons there are

-- A run has at most 200 persons, since it has as many seats.
pub persons_few : (unit : Unit) (s : StateView) → IsSoundRun unit (run_of s) → length s.rows ≤ 200
persons_few unit s sound = omega (arith, sound.seated, persons_counted s)

-- ---- the sites of a rule

pub sites_for_persons : (persons number : ℕ) (rule : Rule) → OfPerson ≡ kind_of rule → sites_of_rule persons number rule ≡ map (person_site number) (numbers_below persons)
sites_for_persons persons number rule is = ap (sites_by_kind persons number) (sym is)

pub sites_for_run : (persons number : ℕ) (rule : Rule) → OfRun ≡ kind_of rule → sites_of_rule persons number rule ≡ record { rule = number; owner = Run } ∷ []
sites_for_run persons number rule is = ap (sites_by_kind persons number) (sym is)

pub person_site_there : (unit : Unit) (persons number : ℕ) (rule : Rule) (p : ℕ) → slice_get (rules_of unit) number ≡ Some rule → OfPerson ≡ kind_of rule → p < persons
    → Contains (sites_of unit persons) (person_site number p)
person_site_there unit persons number rule p at is below =
    site_of_rule_there unit persons number rule (person_site number p) at
    (subst (λ sites. IsIn sites (person_site number p)) (sym (sites_for_persons persons number rule is))
    (in_map (person_site number) (numbers_below persons) p (in_below persons p below)))

pub run_site_there : (unit : Unit) (persons number : ℕ) (rule : Rule) → slice_get (rules_of unit) number ≡ Some rule → OfRun ≡ kind_of rule
    → Contains (sites_of unit persons) (record { rule = number; owner = Run })
run_site_there unit persons number rule at is =
    site_of_rule_there unit persons number rule (record { rule = number; owner = Run }) at
    (subst (λ sites. IsIn sites (record { rule = number; owner = Run })) (sym (sites_for_run persons number rule is)) (inl refl))
