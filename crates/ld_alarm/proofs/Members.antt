-- Members of a role that are asked, one after another, when a test next switches.
use Rattle.std.proofs.Common.{◌≡◌, ℕ, ℤ, ◌+◌, ◌*◌, ◌≤◌, List, ◌∷◌, ◌++◌, filter, length, length-append, map, Option, true, false, refl, sym, ap, ◌∙◌, arith}
use Rattle.std.specs.List.{flat_map}
use Rattle.ld_model.specs.Expressions.{TestOf}
use Rattle.ld_model.specs.declared.unit.Unit.{Unit}
use Rattle.ld_expr.specs.Membership.{is_member}
use Rattle.ld_expr.specs.Seen.{Seen, member_cell}
use Rattle.ld_expr.specs.Users.{looks_for, looks_for_members}
use Rattle.ld_expr.proofs.Asking.{looks_left}
use Rattle.ld_alarm.specs.Later.{earlier, next_after}
use Rattle.ld_alarm.specs.UsersSwitches.{switches_for, switches_for_members}
use Rattle.ld_alarm.proofs.NextAfter.{earlier_assoc, next_append}

-- The switches of the test for the members among these persons.
abbrev pub switches_left : Unit → Seen → ℕ → TestOf → List ℕ → List ℤ
switches_left unit seen role test persons = flat_map (switches_for unit seen test) (filter (is_member seen role) persons)

looks_member : (unit : Unit) (seen : Seen) (role : ℕ) (test : TestOf) (p : ℕ) (more : List ℕ) → is_member seen role p ≡ true
    → looks_left unit seen role test (p ∷ more) ≡ member_cell role p ∷ (map (member_cell role) more ++ (looks_for unit seen test p ++ flat_map (looks_for unit seen test) (filter (is_member seen role) more)))
looks_member unit seen role test p more there = rw there refl

looks_other : (unit : Unit) (seen : Seen) (role : ℕ) (test : TestOf) (p : ℕ) (more : List ℕ) → is_member seen role p ≡ false
    → looks_left unit seen role test (p ∷ more) ≡ member_cell role p ∷ looks_left unit seen role test more
looks_other unit seen role test p more there = rw there refl

switches_member : (unit : Unit) (seen : Seen) (role : ℕ) (test : TestOf) (p : ℕ) (more : List ℕ) → is_member seen role p ≡ true
    → switches_left unit seen role test (p ∷ more) ≡ switches_for unit seen test p ++ switches_left unit seen role test more
switches_member unit seen role test p more there = rw there refl

switches_other : (unit : Unit) (seen : Seen) (role : ℕ) (test : TestOf) (p : ℕ) (more : List ℕ) → is_member seen role p ≡ false
    → switches_left unit seen role test (p ∷ more) ≡ switches_left unit seen role test more
switches_other unit seen role test p more there = rw there refl

length_member : (unit : Unit) (seen : Seen) (role : ℕ) (test : TestOf) (p : ℕ) (more : List ℕ) → is_member seen role p ≡ true
    → length (looks_left unit seen role test (p ∷ more)) ≡ 1 + length (looks_for unit seen test p) + length (looks_left unit seen role test more)
length_member unit seen role test p more there =
    let own = looks_for unit seen test p in
    let cells = map (member_cell role) more in
    let rest = flat_map (looks_for unit seen test) (filter (is_member seen role) more) in
    omega (arith, ap length (looks_member unit seen role test p more there), length-append cells (own ++ rest), length-append own rest, length-append cells rest)

-- These persons are still to be asked, after this many steps from the start; before them this switch was found.
pub record Looking (unit : Unit) (seen : Seen) (role : ℕ) (test : TestOf) (after : ℤ) (next : Option ℤ) (persons : List ℕ) (steps start : ℕ) : Type 0 where
  pub value : earlier next (next_after after (switches_left unit seen role test persons)) ≡ next_after after (switches_for_members unit seen role test)
  pub cost : 2 * steps + length (switches_for_members unit seen role test) + 2 * length (looks_left unit seen role test persons)
      ≤ 2 * start + 2 * length (looks_for_members unit seen role test) + length (switches_left unit seen role test persons)

pub passes_over : {unit : Unit} {seen : Seen} {role : ℕ} {test : TestOf} {after : ℤ} {next : Option ℤ} {persons : List ℕ} {steps start : ℕ} (p : ℕ) (more : List ℕ) (now : ℕ)
    → Looking unit seen role test after next persons steps start → persons ≡ p ∷ more → is_member seen role p ≡ false → now ≡ steps + 1
    → Looking unit seen role test after next more now start
passes_over {unit = unit} {seen = seen} {role = role} {test = test} {after = after} {next = next} p more now looking is there cost =
    let other = looks_other unit seen role test p more there in
    let switches = switches_other unit seen role test p more there in
    let value = rw is at looking.value in
    let within = rw is at looking.cost in
    record {
      value = ap (λ xs. earlier next (next_after after xs)) (sym switches) ∙ value;
      cost = omega (arith, within, cost, ap length other, ap length switches);
    }

pub goes_on : {unit : Unit} {seen : Seen} {role : ℕ} {test : TestOf} {after : ℤ} {next : Option ℤ} {persons : List ℕ} {steps start : ℕ} (p : ℕ) (more : List ℕ) (now : ℕ) (own both : Option ℤ)
    → Looking unit seen role test after next persons steps start → persons ≡ p ∷ more → is_member seen role p ≡ true
    → own ≡ next_after after (switches_for unit seen test p) → both ≡ earlier next own
    → 2 * now + length (switches_for unit seen test p) ≤ 2 * (steps + 1) + 2 * length (looks_for unit seen test p)
    → Looking unit seen role test after both more now start
goes_on {unit = unit} {seen = seen} {role = role} {test = test} {after = after} {next = next} p more now own both looking is there own_is both_is cost =
    let left = switches_left unit seen role test more in
    let switches = switches_member unit seen role test p more there in
    let value = rw is at looking.value in
    let within = rw is at looking.cost in
    record {
      value =
          ap (λ o. earlier o (next_after after left)) (both_is ∙ ap (earlier next) own_is)
          ∙ earlier_assoc next (next_after after (switches_for unit seen test p)) (next_after after left)
          ∙ ap (earlier next) (sym (next_append after (switches_for unit seen test p) left))
          ∙ ap (λ xs. earlier next (next_after after xs)) (sym switches)
          ∙ value;
      cost = omega (arith, within, cost, length_member unit seen role test p more there, ap length switches, length-append (switches_for unit seen test p) left);
    }
