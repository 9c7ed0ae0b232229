-- What is judged in parts.
use Rattle.std.proofs.Common.{◌≡◌, ℕ, List, [], ◌∷◌, length, Bool, true, false, ◌&&◌, ◌||◌, Some, slice_get, ◌<◌, refl, sym, ap, ◌∙◌, arith}
use Rattle.std.proofs.lemmas.List.{length-map}
use Rattle.std.proofs.lemmas.Option.{slice_get_within, slice_get-map}
use Rattle.std.specs.List.{list_all}
use Rattle.std.specs.Option.{option_map}
use Rattle.ld_model.specs.declared.activity.Activity.{Activity}
use Rattle.ld_model.specs.declared.unit.Unit.{Unit}
use Rattle.ld_expr.specs.Membership.{some_and_each}
use Rattle.ld_rules.specs.MembersDoing.{some_of}
use Rattle.ld_rules.specs.ReachTable.{reach_of}
use Rattle.ld_rules.specs.SiteLooks.{reaching_roles}
use Rattle.ld_state.proofs.Elements.{some_same}

-- ---- role-parts

all_pass : (xs : List ℕ) → list_all (λ p. true) xs ≡ true
all_pass [] = refl
all_pass (x ∷ xs) = all_pass xs

some_pass : (xs : List ℕ) → some_of xs ≡ some_and_each (λ p. true) xs
some_pass [] = refl
some_pass (x ∷ xs) = sym (all_pass xs)

pub nothing_to_do : (opened nothing member : Bool) (done : ℕ → Bool) (xs : List ℕ) → opened ≡ true → nothing ≡ true → member ≡ some_of xs → member ≡ (opened && some_and_each (λ p. nothing || done p) xs)
nothing_to_do opened nothing member done xs opens is member_is = rw (opens, is, member_is) (some_pass xs)

pub all_to_do : (opened nothing all : Bool) (done : ℕ → Bool) (xs : List ℕ) → opened ≡ true → nothing ≡ false → all ≡ some_and_each done xs → all ≡ (opened && some_and_each (λ p. nothing || done p) xs)
all_to_do opened nothing all done xs opens is all_is = rw (opens, is, all_is) refl

-- ---- activities

pub row_is : (unit : Unit) (reach : List (List ℕ)) (n : ℕ) (activity : Activity) (row : List ℕ) → reach ≡ reach_of unit → slice_get unit.activities n ≡ Some activity → Some row ≡ slice_get reach n → row ≡ reaching_roles unit activity.identifier
row_is unit reach n activity row is at found =
    some_same (found ∙ ap (λ rows. slice_get rows n) is ∙ slice_get-map (λ (one : Activity). reaching_roles unit one.identifier) unit.activities n ∙ ap (option_map (λ (one : Activity). reaching_roles unit one.identifier)) at)

pub row_there : (unit : Unit) (reach : List (List ℕ)) (n : ℕ) (activity : Activity) → reach ≡ reach_of unit → slice_get unit.activities n ≡ Some activity → n < length reach
row_there unit reach n activity is at =
    omega (arith, slice_get_within unit.activities n activity at, length-map unit.activities (λ (one : Activity). reaching_roles unit one.identifier), ap length is)
