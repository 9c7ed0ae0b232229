use Rattle.std.proofs.Common.{rules, arith, ◌≡◌, ℕ, ◌-◌, ◌*◌, ◌%◌, ◌^◌, ◌/◌, ◌+◌, ◌<◌, get_or, bit_and, refl, sym}
use Rattle.std.specs.Int.{trailing_zeros, w64}
use Rattle.std.proofs.lemmas.List.{get_or_read}
use Rattle.ld_graph.proofs.Bits.{rest_none, rest_some, Lowest}
use Rattle.ld_graph.proofs.level.Level.first_in_word.Goals as goal

pub returns-then-rest-eq0-clause-none : goal.returns-then-rest-eq0-clause-none
returns-then-rest-eq0-clause-none c =
    rest_none c.args.self.now c.args.from c.index.result.now (sym (get_or_read c.args.self.now (c.args.from / 64) c.index.result.now (search rules) (search rules) 0)) c.if-rest-eq0.true

pub returns-clause-found : goal.returns-clause-found
returns-clause-found c =
    let x : ℕ = bit_and c.index.result.now ((2 ^ 64 - 1) * 2 ^ (c.args.from % 64) % 2 ^ 64) in
    let is : get_or c.args.self.now (c.args.from / 64) 0 ≡ c.index.result.now =
    sym (get_or_read c.args.self.now (c.args.from / 64) c.index.result.now (search rules) (search rules) 0) in
    let some : x ≡ 0 → ⊥ = search rules in
    let fits : x < 2 ^ 64 = search rules in
    let low : Lowest c.args.self.now c.args.from c.index.result.now is (c.args.from / 64 * 64 + trailing_zeros w64 x) =
    rest_some c.args.self.now c.args.from c.index.result.now is x refl (omega arith) fits in
    (low.after, low.here, low.is_set)

pub returns-clause-least : goal.returns-clause-least
returns-clause-least c =
    let x : ℕ = bit_and c.index.result.now ((2 ^ 64 - 1) * 2 ^ (c.args.from % 64) % 2 ^ 64) in
    let is : get_or c.args.self.now (c.args.from / 64) 0 ≡ c.index.result.now =
    sym (get_or_read c.args.self.now (c.args.from / 64) c.index.result.now (search rules) (search rules) 0) in
    let some : x ≡ 0 → ⊥ = search rules in
    let fits : x < 2 ^ 64 = search rules in
    let low : Lowest c.args.self.now c.args.from c.index.result.now is (c.args.from / 64 * 64 + trailing_zeros w64 x) =
    rest_some c.args.self.now c.args.from c.index.result.now is x refl (omega arith) fits in
    low.least
