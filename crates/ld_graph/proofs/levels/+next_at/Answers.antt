use Rattle.std.proofs.Common.{rules, arith, ◌≡◌, ℕ, true, ◌<◌, ◌≤◌, ◌^◌, List, [], ◌∷◌, length, subst}
use Rattle.std.proofs.lemmas.List.{nil_from_length}
use Rattle.ld_graph.specs.Words.{bit, lowest, AreLevels}
use Rattle.ld_graph.proofs.Bits.{bit_beyond}
use Rattle.ld_graph.proofs.Marking.{marked_within}
use Rattle.ld_graph.proofs.levels.+next_at.Goals as goal

pub returns-in_default-clause-none : goal.returns-in_default-clause-none
returns-in_default-clause-none t c k le =
    let none : c.args.levels.now ≡ [] = nil_from_length c.args.levels.now (search rules) in
    rw none (bit_beyond [] k (omega arith))

pub returns-then-from-len-clause-none : goal.returns-then-from-len-clause-none
returns-then-from-len-clause-none t c k le =
    let first : c.args.levels.now ≡ c.in-Some.lower.now ∷ c.in-Some.above.now = search rules in
    rw first (bit_beyond c.in-Some.lower.now k (let e = c.len.ensures in omega arith))

within : (levels above : List (List ℕ)) (lower : List ℕ) → levels ≡ lower ∷ above → AreLevels levels → 0 < length (lowest above)
    → (word : ℕ) → bit (lowest above) word ≡ true → (word < length lower) × (length lower ≤ 2 ^ 32)
within levels above lower e are some word is =
    let here : AreLevels (lower ∷ above) = subst AreLevels e are in
    (marked_within (here.1 some) word is, here.0)

pub overflow_mul-word : goal.overflow_mul-word
overflow_mul-word t c =
    let w = within c.args.levels.now c.in-Some.above.now c.in-Some.lower.now (search rules) c.requires (search rules) c.in_ok-word.word
    c.in_ok-word.ensures.found.1 in
    omega arith

pub first_in_word-requires-2 : goal.first_in_word-requires-2
first_in_word-requires-2 t c =
    let w = within c.args.levels.now c.in-Some.above.now c.in-Some.lower.now (search rules) c.requires (search rules) c.in_ok-word.word
    c.in_ok-word.ensures.found.1 in
    omega arith
