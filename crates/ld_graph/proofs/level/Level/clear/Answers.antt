use Rattle.std.proofs.Common.{rules, arith, ◌≡◌, ℕ, ◌-◌, ◌*◌, ◌%◌, ◌^◌, ◌/◌, ◌<◌, List, length, set, bit_and, ◌∙◌, ap, sym}
use Rattle.std.proofs.lemmas.List.{get_or-set_same}
use Rattle.std.proofs.lemmas.Bool.{eqb-true, eqb-false}
use Rattle.std.proofs.lemmas.List.{get_or_read}
use Rattle.ld_graph.specs.Words.{bit}
use Rattle.ld_graph.proofs.Bits.{clear_own, clear_others, zero_word, full_word}
use Rattle.ld_graph.proofs.level.Level.clear.Goals as goal

pub returns-clause-own : goal.returns-clause-own
returns-clause-own c = clear_own c.self.inside.words.items c.args.at c.index.result.now (search rules)

pub returns-clause-others : goal.returns-clause-others
returns-clause-others c n ne =
    clear_others c.self.inside.words.items c.args.at c.index.result.now (search rules)
    (sym (get_or_read c.self.inside.words.items (c.args.at / 64) c.index.result.now (search rules) (search rules) 0)) n ne
    ∙ ap (λ (x : List ℕ). bit x n) c.self.view_is

pub returns-clause-zero : goal.returns-clause-zero
returns-clause-zero c is n e =
    let x : ℕ = bit_and c.index.result.now (2 ^ 64 - 1 - 1 * 2 ^ (c.args.at % 64) % 2 ^ 64) in
    let within : c.args.at / 64 < length c.self.inside.words.items = search rules in
    zero_word (set c.self.inside.words.items (c.args.at / 64) x) (c.args.at / 64)
    (get_or-set_same c.self.inside.words.items (c.args.at / 64) x 0 within ∙ eqb-true x 0 is) n e

pub returns-clause-full : goal.returns-clause-full
returns-clause-full c is =
    let x : ℕ = bit_and c.index.result.now (2 ^ 64 - 1 - 1 * 2 ^ (c.args.at % 64) % 2 ^ 64) in
    let within : c.args.at / 64 < length c.self.inside.words.items = search rules in
    let some : x ≡ 0 → ⊥ = eqb-false x 0 is in
    full_word (set c.self.inside.words.items (c.args.at / 64) x) (c.args.at / 64) x
    (get_or-set_same c.self.inside.words.items (c.args.at / 64) x 0 within) (omega arith) (search rules)
