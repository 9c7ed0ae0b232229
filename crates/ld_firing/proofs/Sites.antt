-- The sites of a run by their numbers: each has a rule, an owner that the run has, and a number below the count.
use Rattle.std.proofs.Common.{◌≡◌, refl, ap, ap₂, subst, ◌∙◌, ℕ, ◌<◌, ◌≤◌, inl, inr, length, slice_get, Option, Some, None, Bool, true, false, is_some, nat_eq, Contains}
use Rattle.std.proofs.lemmas.Bool.{eqb-true}
use Rattle.std.specs.Option.{option_map_or}
use Rattle.ld_base.specs.Numbers.{numbers_below}
use Rattle.ld_model.specs.declared.cell.Owner.{Owner}
use Rattle.ld_model.specs.declared.cell.Owner.TheVariants.{Run, Person}
use Rattle.ld_model.specs.declared.unit.Unit.{Unit}
use Rattle.ld_names.specs.declared.rule.Rule.{Rule}
use Rattle.ld_names.specs.declared.rule.RuleKind.{RuleKind}
use Rattle.ld_names.specs.declared.rule.RuleKind.TheVariants.{Person as OfPerson, Run as OfRun}
use Rattle.ld_names.specs.Rules.{Site, rules_of, kind_of, person_site, sites_by_kind, sites_of_rule, sites_of, is_for_persons}
use Rattle.ld_names.specs.SiteNumbers.{numbered_site, site_count, site_number}
use Rattle.ld_names.proofs.SitesNumbered.{is_numbering}
use Rattle.ld_firing.specs.Actions.{Doing, nothing_done, site_firing}
use Rattle.ld_state.specs.RunState.{RunState}
use Rattle.ld_firing.specs.RunSystem.{site_at, of_site, firing_at}
use Rattle.ld_rules.specs.SiteTests.{rule_of}
use Rattle.ld_state.proofs.Elements.{IsIn, contains_from_in, in_from_contains, is_below, from_each, from_map}
use Rattle.ld_firing.proofs.Found.{chosen_by}

-- A run of this many persons has the owner: for what each person has, one of them, else the run.
pub data IsOwner (persons : ℕ) : Bool → Owner → Type 0 where
  a_person : (p : ℕ) → p < persons → IsOwner persons true (Person (record { 0 = p }))
  the_run : IsOwner persons false Run

-- What is a site of the rule of a number.
pub record IsOfRule (persons n : ℕ) (kind : RuleKind) (site : Site) : Type 0 where
  pub number : site.rule ≡ n
  pub owned : IsOwner persons (is_for_persons kind) site.owner

pub of_rule : (persons n : ℕ) (kind : RuleKind) (site : Site) → IsIn (sites_by_kind persons n kind) site
    → IsOfRule persons n kind site
of_rule persons n OfPerson site inside =
    let by = from_map (person_site n) (numbers_below persons) site inside in
    subst (λ found. IsOfRule persons n OfPerson found) by.is
    (record { number = refl; owned = a_person by.element (is_below persons by.element by.inside) })
of_rule persons n OfRun site (inl is) = subst (λ found. IsOfRule persons n OfRun found) is (record { number = refl; owned = the_run })
of_rule persons n OfRun site (inr later) = absurd later

-- The rule of a site of a run, whose owner the run has.
pub record HasRule (unit : Unit) (persons : ℕ) (site : Site) : Type 0 where
  pub rule : Rule
  pub ruled : rule_of unit site ≡ Some rule
  pub owned : IsOwner persons (is_for_persons (kind_of rule)) site.owner

pub rule_listed : (unit : Unit) (persons : ℕ) (site : Site) → Contains (sites_of unit persons) site
    → HasRule unit persons site
rule_listed unit persons site there =
    let by = from_each (sites_of_rule persons) (rules_of unit) site (in_from_contains (sites_of unit persons) site there) in
    let mine = of_rule persons by.number (kind_of by.element) site by.inside in
    record { rule = by.element; ruled = ap (slice_get (rules_of unit)) mine.number ∙ by.at; owned = mine.owned }

-- The site of a number, its rule, and that the run has its owner.
pub record HasSite (unit : Unit) (s : RunState) (i : ℕ) (site : Site) : Type 0 where
  pub at : site_at unit s i ≡ Some site
  pub number : site_number unit s.seats site ≡ i
  pub there : Contains (sites_of unit (length s.persons)) site
  pub rule : Rule
  pub ruled : rule_of unit site ≡ Some rule
  pub owned : IsOwner (length s.persons) (is_for_persons (kind_of rule)) site.owner

pub site_found : (unit : Unit) (s : RunState) (i : ℕ) (site : Site) → site_at unit s i ≡ Some site
    → HasSite unit s i site
site_found unit s i site at =
    let chosen = chosen_by (λ one. nat_eq (site_number unit s.seats one) i) (sites_of unit (length s.persons)) site at in
    let there = contains_from_in (sites_of unit (length s.persons)) site chosen.inside in
    let has = rule_listed unit (length s.persons) site there in
    record {
      at = at;
      number = eqb-true (site_number unit s.seats site) i chosen.passes;
      there = there;
      rule = has.rule;
      ruled = has.ruled;
      owned = has.owned;
    }

-- ---- a number that is one of a site

pub some_of : {A : Type 0} → (o : Option A) → is_some o ≡ true → (x : A) × (o ≡ Some x)
some_of None is = absurd (cc)
some_of (Some x) is = (x, refl)

pub none_of : {A : Type 0} → (o : Option A) → is_some o ≡ false → o ≡ None
none_of None is = refl
none_of (Some x) is = absurd (cc)

-- What is said of the site that a number has, and of one that has none.
pub said_of : {A : Type 0} → (unit : Unit) (s : RunState) (i : ℕ) (site : Site) (said : Site → A) (other : A)
    → site_at unit s i ≡ Some site → of_site unit s i said other ≡ said site
said_of unit s i site said other at = ap (λ o. option_map_or said o other) at

pub said_of_none : {A : Type 0} → (unit : Unit) (s : RunState) (i : ℕ) (said : Site → A) (other : A)
    → site_at unit s i ≡ None → of_site unit s i said other ≡ other
said_of_none unit s i said other at = ap (λ o. option_map_or said o other) at

-- ---- the same enrolment

pub same_site_at : (unit : Unit) (s t : RunState) (i : ℕ) → s.seats ≡ t.seats → s.persons ≡ t.persons
    → site_at unit s i ≡ site_at unit t i
same_site_at unit s t i seats persons =
    ap₂ (λ n ps. numbered_site unit n (length ps) i) seats persons

-- ---- the count

pub site_below : (unit : Unit) (s : RunState) (i : ℕ) (site : Site) → 0 < s.seats → length s.persons ≤ s.seats
    → HasSite unit s i site → i < site_count unit s.seats
site_below unit s i site seat seated has =
    subst (λ n. n < site_count unit s.seats) has.number
    ((is_numbering unit s.seats (length s.persons) seat seated).below site has.there)

-- ---- what a firing leaves

-- What holds of nothing done, and of the firing of the site of the number, holds of what its firing does.
pub at_firing : (unit : Unit) (s : RunState) (i : ℕ) (P : Doing → Type 0) → P (nothing_done s)
    → ((site : Site) → site_at unit s i ≡ Some site → P (site_firing unit s site)) → P (firing_at unit s i)
at_firing unit s i P nothing fired = by (site_at unit s i) fired
  where
    by : (found : Option Site) → ((site : Site) → found ≡ Some site → P (site_firing unit s site))
        → P (option_map_or (site_firing unit s) found (nothing_done s))
    by None each = nothing
    by (Some site) each = each site refl
