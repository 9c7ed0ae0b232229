-- How many lines there are.
use Rattle.std.proofs.Common.{◌≡◌, ◌∙◌, ℕ, zero, suc, ◌+◌, ◌*◌, ◌<◌, ◌≤◌, ◌^◌, ◌∷◌, ◌++◌, length, map, arith, length-append}
use Rattle.std.specs.List.{flat_map, range_with_len}
use Rattle.std.proofs.lemmas.List.{length-map}
use Rattle.std.proofs.lemmas.List.FromFn.{length-range_with_len}
use Rattle.ld_base.specs.Numbers.{numbers_below}
use Rattle.ld_generator.specs.GeneratedLines.{activity_of, generated_asks, round_of}
use Rattle.ld_generator.specs.declared.ask.Ask.{Ask}
use Rattle.ld_generator.specs.declared.ask.Ask.TheVariants.{Enrol, Assign, Start, Complete}

one_of_each : (f : ℕ → Ask) (n : ℕ) → length (map f (numbers_below n)) ≡ n
one_of_each f n = length-map (numbers_below n) f ∙ length-range_with_len 0 n

rounds : (number persons a n : ℕ) → length (flat_map (round_of number persons) (range_with_len a n)) ≡ n * persons
rounds number persons a zero = omega arith
rounds number persons a (suc n) =
    omega (
      arith,
      length-append (round_of number persons a) (flat_map (round_of number persons) (range_with_len (a + 1) n)),
      one_of_each (λ person. Complete person (activity_of number a person)) persons,
      rounds number persons (a + 1) n,
    )

-- There are 2 lines, 2 for each person, and 50 for each person.
pub few_asks : (number persons : ℕ) → persons < 256 → length (generated_asks number persons) ≤ 2 ^ 16
few_asks number persons few =
    let rest = flat_map (round_of number persons) (numbers_below 50) in
    omega (
      arith,
      few,
      one_of_each Enrol persons,
      one_of_each Assign persons,
      rounds number persons 0 50,
      length-append (map Assign (numbers_below persons)) (Start ∷ rest),
      length-append (map Enrol (numbers_below persons)) (map Assign (numbers_below persons) ++ Start ∷ rest),
    )
