-- The numbers of a unit's sites tell them apart, and stand in their order.
use Rattle.std.proofs.Common.{◌≡◌, ℕ, zero, suc, ◌+◌, ◌*◌, ◌<◌, ◌≤◌, List, [], ◌∷◌, ◌++◌, length, map, filter_map, slice_get, take, Some, Contains, refl, sym, ap, ◌∙◌, arith}
use Rattle.std.specs.List.{range_with_len}
use Rattle.std.proofs.Math.Seq.{take-suc}
use Rattle.std.proofs.lemmas.List.{length-take-le, take_all}
use Rattle.std.proofs.lemmas.List.Sums.{sum_by-cons, sum_by_push}
use Rattle.std.proofs.lemmas.Option.{get_or_from_slice_get, slice_get_within}
use Rattle.ld_base.specs.Numbers.{numbers_below}
use Rattle.ld_model.specs.Counting.{each_numbered_from}
use Rattle.ld_model.specs.declared.unit.Unit.{Unit}
use Rattle.ld_names.specs.declared.rule.Rule.{Rule}
use Rattle.ld_names.specs.declared.rule.RuleKind.{RuleKind}
use Rattle.ld_names.specs.declared.rule.RuleKind.TheVariants.{Person as OfPerson, Run as OfRun}
use Rattle.ld_names.specs.Rules.{Site, kind_of, person_site, rules_of, sites_by_kind, sites_of, sites_of_rule}
use Rattle.ld_names.specs.SiteNumbers.{Ascends, IsNumbering, base_of, numbered_site, places_in, places_of, site_count, site_number}
use Rattle.ld_names.proofs.Ascending.{ascends_on, found_again, is_found, told_apart, widened}

-- ---- in their order

-- The sites of one rule for persons, from one person on.
persons_ascend : (unit : Unit) (seats rule n p : ℕ)
    → Ascends (site_number unit seats) (base_of unit seats rule + p) (map (person_site rule) (range_with_len p n)) (base_of unit seats rule + p + n)
persons_ascend unit seats rule zero p = omega arith
persons_ascend unit seats rule (suc n) p =
    let base = base_of unit seats rule in (
      omega arith,
      widened (site_number unit seats) (base + p + 1) (base + (p + 1)) (base + (p + 1) + n) (base + p + suc n)
          (map (person_site rule) (range_with_len (p + 1) n)) (omega arith) (omega arith) (persons_ascend unit seats rule n (p + 1)),
    )

-- The sites of one rule.
kind_ascends : (unit : Unit) (seats persons rule : ℕ) (kind : RuleKind) → 0 < seats → persons ≤ seats
    → Ascends (site_number unit seats) (base_of unit seats rule) (sites_by_kind persons rule kind) (base_of unit seats rule + places_of seats kind)
kind_ascends unit seats persons rule OfPerson seat seated =
    let base = base_of unit seats rule in
    widened (site_number unit seats) base (base + 0) (base + 0 + persons) (base + seats) (map (person_site rule) (numbers_below persons))
    (omega arith) (omega (arith, seated)) (persons_ascend unit seats rule persons 0)
kind_ascends unit seats persons rule OfRun seat seated = (omega arith, omega (arith, seat))

-- A rule's numbers end where the next one's begin.
pub next_base : (unit : Unit) (seats n : ℕ) (rule : Rule) → slice_get (rules_of unit) n ≡ Some rule
    → base_of unit seats (suc n) ≡ base_of unit seats n + places_of seats (kind_of rule)
next_base unit seats n rule at =
    let rules = rules_of unit in
    ap (places_in seats) (take-suc rules n rule (slice_get_within rules n rule at)
    ∙ ap (λ one. take n rules ++ one ∷ []) (get_or_from_slice_get rules n rule rule at))
    ∙ sum_by_push (λ one. places_of seats (kind_of one)) (take n rules) rule

-- The sites of the rules from one on, where these are the rest of the unit's.
rules_ascend : (unit : Unit) (seats persons n : ℕ) (rules : List Rule) → 0 < seats → persons ≤ seats
    → ((k : ℕ) (rule : Rule) → slice_get rules k ≡ Some rule → slice_get (rules_of unit) (n + k) ≡ Some rule)
    → Ascends (site_number unit seats) (base_of unit seats n) (each_numbered_from (sites_of_rule persons) n rules) (base_of unit seats (n + length rules))
rules_ascend unit seats persons n [] seat seated rest =
    let end : n ≡ n + 0 = omega arith in
    omega (arith, ap (base_of unit seats) end)
rules_ascend unit seats persons n (rule ∷ rules) seat seated rest =
    let base = base_of unit seats in
    let number = site_number unit seats in
    let here : n + 0 ≡ n = omega arith in
    let next : suc n ≡ n + 1 = omega arith in
    let end : n + 1 + length rules ≡ n + length (rule ∷ rules) = omega arith in
    let at = sym (ap (slice_get (rules_of unit)) here) ∙ rest 0 rule refl in
    ascends_on number (base n) (base n + places_of seats (kind_of rule)) (base (n + length (rule ∷ rules))) (sites_of_rule persons n rule)
    (each_numbered_from (sites_of_rule persons) (n + 1) rules)
    (kind_ascends unit seats persons n (kind_of rule) seat seated)
    (widened number (base n + places_of seats (kind_of rule)) (base (n + 1)) (base (n + 1 + length rules)) (base (n + length (rule ∷ rules)))
    (each_numbered_from (sites_of_rule persons) (n + 1) rules)
    (omega (arith, next_base unit seats n rule at, ap base next)) (omega (arith, ap base end))
    (rules_ascend unit seats persons (n + 1) rules seat seated (later rest)))
  where
    later : ((k : ℕ) (one : Rule) → slice_get (rule ∷ rules) k ≡ Some one → slice_get (rules_of unit) (n + k) ≡ Some one)
        → (k : ℕ) (one : Rule) → slice_get rules k ≡ Some one → slice_get (rules_of unit) (n + 1 + k) ≡ Some one
    later all k one at =
        let moved : n + 1 + k ≡ n + suc k = omega arith in
        ap (slice_get (rules_of unit)) moved ∙ all (suc k) one at

all_ascend : (unit : Unit) (seats persons : ℕ) → 0 < seats → persons ≤ seats
    → Ascends (site_number unit seats) 0 (sites_of unit persons) (site_count unit seats)
all_ascend unit seats persons seat seated =
    let rules = rules_of unit in
    let all : 0 + length rules ≡ length rules = omega arith in
    let end : base_of unit seats (0 + length rules) ≡ site_count unit seats =
    ap (base_of unit seats) all ∙ ap (places_in seats) (take_all (length rules) rules (omega arith)) in
    widened (site_number unit seats) 0 (base_of unit seats 0) (base_of unit seats (0 + length rules)) (site_count unit seats) (sites_of unit persons)
    (omega arith) (omega (arith, end))
    (rules_ascend unit seats persons 0 rules seat seated (λ k rule at.
    let same : 0 + k ≡ k = omega arith in
    ap (slice_get rules) same ∙ at))

-- ---- the numbering

-- Where each person has a seat, the numbers are a numbering of the sites.
pub is_numbering : (unit : Unit) (seats persons : ℕ) → 0 < seats → persons ≤ seats → IsNumbering unit seats persons
is_numbering unit seats persons seat seated =
    let ascends = all_ascend unit seats persons seat seated in
    record {
      apart = λ a b there other same. told_apart (site_number unit seats) 0 (site_count unit seats) (sites_of unit persons) a b ascends there other same;
      ascending = ascends;
      below = λ a there. (is_found (site_number unit seats) 0 (site_count unit seats) (sites_of unit persons) a ascends there).below;
    }

-- A site is the one of its number.
pub site_numbered : (unit : Unit) (seats persons : ℕ) (site : Site) → IsNumbering unit seats persons → Contains (sites_of unit persons) site
    → numbered_site unit seats persons (site_number unit seats site) ≡ Some site
site_numbered unit seats persons site numbering there =
    (is_found (site_number unit seats) 0 (site_count unit seats) (sites_of unit persons) site numbering.ascending there).found

-- The numbers that there are, in order, have the sites in their order.
pub sites_in_order : (unit : Unit) (seats persons : ℕ) → IsNumbering unit seats persons
    → filter_map (numbered_site unit seats persons) (numbers_below (site_count unit seats)) ≡ sites_of unit persons
sites_in_order unit seats persons numbering =
    let count = site_count unit seats in
    let sites = sites_of unit persons in
    found_again (site_number unit seats) sites count 0 sites
    (widened (site_number unit seats) 0 0 count (0 + count) sites (omega arith) (omega arith) numbering.ascending) (λ i _. refl)

-- ---- as many for each rule

-- A rule of either kind has a number for each seat; so its first number is a product.
places_same : (seats : ℕ) (kind : RuleKind) → places_of seats kind ≡ seats
places_same seats OfPerson = refl
places_same seats OfRun = refl

pub count_constant : (seats : ℕ) (rules : List Rule) → places_in seats rules ≡ length rules * seats
count_constant seats [] = omega arith
count_constant seats (rule ∷ rules) =
    sum_by-cons (λ one. places_of seats (kind_of one)) rule rules
    ∙ omega (arith, places_same seats (kind_of rule), count_constant seats rules)

pub base_of_constant : (unit : Unit) (seats rule : ℕ) → rule ≤ length (rules_of unit) → base_of unit seats rule ≡ rule * seats
base_of_constant unit seats rule within =
    count_constant seats (take rule (rules_of unit)) ∙ ap (λ n. n * seats) (length-take-le rule (rules_of unit) within)
