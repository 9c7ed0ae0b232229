-- The numbers of a unit's sites. Each rule has as many in a row as its kind needs, so that sites stand in the order of
-- their numbers, and keep them when a person joins.
use Rattle.std.specs.Prelude.{◌≡◌, ℕ, ◌+◌, ◌<◌, ◌≤◌, List, [], ◌∷◌, Option, Contains, find, nat_eq, sum_by, take}
use Rattle.ld_model.specs.declared.cell.Owner.{Owner}
use Rattle.ld_model.specs.declared.cell.Owner.TheVariants.{Run, Person}
use Rattle.ld_model.specs.declared.unit.Unit.{Unit}
use Rattle.ld_names.specs.declared.rule.Rule.{Rule}
use Rattle.ld_names.specs.declared.rule.RuleKind.{RuleKind}
use Rattle.ld_names.specs.declared.rule.RuleKind.TheVariants.{Person as OfPerson, Run as OfRun}
use Rattle.ld_names.specs.Rules.{Site, kind_of, rules_of, sites_of}

-- How many numbers a rule of this kind has, in a run with this many seats.
abbrev pub places_of : ℕ → RuleKind → ℕ
places_of seats OfPerson = seats
places_of seats OfRun = seats

-- The place of an owner's site among the numbers of its rule: 0 for the run, and for a person the person's number.
abbrev pub owner_place : Owner → ℕ
owner_place Run = 0
owner_place (Person p) = p.0

-- How many numbers these rules have.
abbrev pub places_in : ℕ → List Rule → ℕ
places_in seats rules = sum_by (λ rule. places_of seats (kind_of rule)) rules

-- The first number of the rule with this number: as many are lower as the rules before it have.
abbrev pub base_of : Unit → ℕ → ℕ → ℕ
base_of unit seats rule = places_in seats (take rule (rules_of unit))

-- The number of a site.
abbrev pub site_number : Unit → ℕ → Site → ℕ
site_number unit seats site = base_of unit seats site.rule + owner_place site.owner

-- How many numbers there are.
abbrev pub site_count : Unit → ℕ → ℕ
site_count unit seats = places_in seats (rules_of unit)

-- The site with this number, in a run with this many persons.
abbrev pub numbered_site : Unit → ℕ → ℕ → ℕ → Option Site
numbered_site unit seats persons number =
    find (λ site. nat_eq (site_number unit seats site) number) (sites_of unit persons)

-- The numbers of the elements ascend from a on, and are below b.
abbrev pub Ascends : {X : Type 0} → (X → ℕ) → ℕ → List X → ℕ → Type 0
Ascends number a [] b = a ≤ b
Ascends number a (x ∷ xs) b = (a ≤ number x) × Ascends number (number x + 1) xs b

-- Of a run with this many persons: two sites have two numbers; the numbers stand in the order of the sites, and are
-- below their count.
pub record IsNumbering (unit : Unit) (seats persons : ℕ) : Type 0 where
  pub apart : (a b : Site) → Contains (sites_of unit persons) a → Contains (sites_of unit persons) b
      → site_number unit seats a ≡ site_number unit seats b → a ≡ b
  pub ascending : Ascends (site_number unit seats) 0 (sites_of unit persons) (site_count unit seats)
  pub below : (a : Site) → Contains (sites_of unit persons) a → site_number unit seats a < site_count unit seats
