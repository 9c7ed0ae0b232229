-- Members of a role that are asked one after another.
use Rattle.std.proofs.Common.{◌≡◌, ℕ, suc, ◌+◌, ◌-◌, ◌<◌, ◌≤◌, List, ◌∷◌, ◌++◌, filter, length, length-append, map, Bool, true, false, refl, sym, ap, ◌∙◌, arith}
use Rattle.std.specs.List.{flat_map, list_all, range_with_len}
use Rattle.ld_model.specs.Expressions.{TestOf}
use Rattle.ld_model.specs.declared.cell.CellName.{CellName}
use Rattle.ld_model.specs.declared.unit.Unit.{Unit}
use Rattle.ld_expr.specs.Membership.{is_member, some_and_each}
use Rattle.ld_expr.specs.Seen.{Seen, member_cell}
use Rattle.ld_expr.specs.Users.{holds_for, holds_for_members, looks_for, looks_for_members}

-- Below the end the next number comes first.
pub range_more : (from end : ℕ) → from < end → range_with_len from (end - from) ≡ from ∷ range_with_len (from + 1) (end - (from + 1))
range_more from end below =
    let one : end - from ≡ suc (end - (from + 1)) = omega arith in
    rw one refl

-- What is still to be said of the members among these persons, where there was a member before or not.
abbrev pub answer_left : (ℕ → Bool) → (ℕ → Bool) → Bool → List ℕ → Bool
answer_left member test true persons = list_all test (filter member persons)
answer_left member test false persons = some_and_each test (filter member persons)

answer_member : (member test : ℕ → Bool) (some : Bool) (p : ℕ) (more : List ℕ) → member p ≡ true → test p ≡ true → answer_left member test some (p ∷ more) ≡ answer_left member test true more
answer_member member test true p more there holds = rw (there, holds) refl
answer_member member test false p more there holds = rw (there, holds) refl

answer_other : (member test : ℕ → Bool) (some : Bool) (p : ℕ) (more : List ℕ) → member p ≡ false → answer_left member test some (p ∷ more) ≡ answer_left member test some more
answer_other member test true p more there = rw there refl
answer_other member test false p more there = rw there refl

-- Where one looks for that.
abbrev pub looks_left : Unit → Seen → ℕ → TestOf → List ℕ → List CellName
looks_left unit seen role test persons =
    map (member_cell role) persons ++ flat_map (looks_for unit seen test) (filter (is_member seen role) persons)

looks_member : (unit : Unit) (seen : Seen) (role : ℕ) (test : TestOf) (p : ℕ) (more : List ℕ) → is_member seen role p ≡ true → looks_left unit seen role test (p ∷ more) ≡ member_cell role p ∷ (map (member_cell role) more ++ (looks_for unit seen test p ++ flat_map (looks_for unit seen test) (filter (is_member seen role) more)))
looks_member unit seen role test p more there = rw there refl

looks_other : (unit : Unit) (seen : Seen) (role : ℕ) (test : TestOf) (p : ℕ) (more : List ℕ) → is_member seen role p ≡ false → looks_left unit seen role test (p ∷ more) ≡ member_cell role p ∷ looks_left unit seen role test more
looks_other unit seen role test p more there = rw there refl

length_member : (unit : Unit) (seen : Seen) (role : ℕ) (test : TestOf) (p : ℕ) (more : List ℕ) → is_member seen role p ≡ true → length (looks_left unit seen role test (p ∷ more)) ≡ 1 + length (looks_for unit seen test p) + length (looks_left unit seen role test more)
length_member unit seen role test p more there =
    let own = looks_for unit seen test p in
    let cells = map (member_cell role) more in
    let rest = flat_map (looks_for unit seen test) (filter (is_member seen role) more) in
    omega (arith, ap length (looks_member unit seen role test p more there), length-append cells (own ++ rest), length-append own rest, length-append cells rest)

-- These persons are still to be asked, after this many steps from the start; there was a member before or
-- not, and the test held for each.
pub record Asking (unit : Unit) (seen : Seen) (role : ℕ) (test : TestOf) (some : Bool) (persons : List ℕ) (steps start : ℕ) : Type 0 where
  pub value : answer_left (is_member seen role) (holds_for unit seen test) some persons ≡ holds_for_members unit seen role test
  pub cost : steps + length (looks_left unit seen role test persons) ≤ start + length (looks_for_members unit seen role test)

pub passes_over : {unit : Unit} {seen : Seen} {role : ℕ} {test : TestOf} {some : Bool} {persons : List ℕ} {steps start : ℕ} (p : ℕ) (more : List ℕ) (now : ℕ) → Asking unit seen role test some persons steps start → persons ≡ p ∷ more → is_member seen role p ≡ false → now ≡ steps + 1 → Asking unit seen role test some more now start
passes_over {unit = unit} {seen = seen} {role = role} {test = test} {some = some} p more now asking is there cost =
    let other = looks_other unit seen role test p more there in
    let value = rw is at asking.value in
    let within = rw is at asking.cost in
    record {
      value = sym (answer_other (is_member seen role) (holds_for unit seen test) some p more there) ∙ value;
      cost = omega (arith, within, cost, ap length other);
    }

pub goes_on : {unit : Unit} {seen : Seen} {role : ℕ} {test : TestOf} {some : Bool} {persons : List ℕ} {steps start : ℕ} (p : ℕ) (more : List ℕ) (now : ℕ) → Asking unit seen role test some persons steps start → persons ≡ p ∷ more → is_member seen role p ≡ true → holds_for unit seen test p ≡ true → now ≤ steps + 1 + length (looks_for unit seen test p) → Asking unit seen role test true more now start
goes_on {unit = unit} {seen = seen} {role = role} {test = test} {some = some} p more now asking is there holds cost =
    let own = looks_for unit seen test p in
    let before = map (member_cell role) more in
    let rest = flat_map (looks_for unit seen test) (filter (is_member seen role) more) in
    let value = rw is at asking.value in
    let within = rw is at asking.cost in
    record {
      value = sym (answer_member (is_member seen role) (holds_for unit seen test) some p more there holds) ∙ value;
      cost = omega (arith, within, cost, length_member unit seen role test p more there);
    }

pub stops_within : {unit : Unit} {seen : Seen} {role : ℕ} {test : TestOf} {some : Bool} {persons : List ℕ} {steps start : ℕ} (p : ℕ) (more : List ℕ) (now : ℕ) → Asking unit seen role test some persons steps start → persons ≡ p ∷ more → is_member seen role p ≡ true → now ≤ steps + 1 + length (looks_for unit seen test p) → now ≤ start + length (looks_for_members unit seen role test)
stops_within {unit = unit} {seen = seen} {role = role} {test = test} p more now asking is there cost =
    let within = rw is at asking.cost in
    omega (arith, within, cost, length_member unit seen role test p more there)
