use Rattle.std.proofs.Common.{arith, ◌≡◌, ℕ, ◌<◌, List, Bool, sym, ◌∙◌}
use Rattle.ld_graph.specs.Words.{bit, lowest, IsTable, bits_of}
use Rattle.ld_graph.specs.Table.{has}
use Rattle.ld_graph.proofs.Marking.{table_has, table_length, length_bits, has_bits}
use Rattle.ld_graph.proofs.dirty.Dirty.grow.Goals as goal

pub returns-in_ok-grow-clause-ok : goal.returns-in_ok-grow-clause-ok
returns-in_ok-grow-clause-ok c =
    let l = table_length c.self.inside.levels c.self.inside.range c.args.self.now c.self.view_is in
    let m = length_bits (lowest c.grow.new.levels) c.args.sites in
    omega arith

grown : {levels : List (List ℕ)} {range : ℕ} (levels' : List (List ℕ)) → IsTable levels range → (sites : ℕ) → range < sites
    → ((n : ℕ) → bit (lowest levels') n ≡ bit (lowest levels) n) → (table : List Bool) → bits_of (lowest levels) range ≡ table
    → (n : ℕ) → has (bits_of (lowest levels') sites) n ≡ has table n
grown {levels} levels' t sites lt same table is n =
    has_bits (lowest levels') sites (λ k le. same k ∙ t.none_beyond k (omega arith)) n ∙ (same n ∙ sym (table_has t table is n))

pub returns-in_ok-grow-clause-same : goal.returns-in_ok-grow-clause-same
returns-in_ok-grow-clause-same c n =
    grown c.grow.new.levels c.self.invariant.0 c.args.sites c.if-sites-self.true c.grow.ensures.same c.args.self.now c.self.view_is n

pub returns-else-sites-self-clause-ok : goal.returns-else-sites-self-clause-ok
returns-else-sites-self-clause-ok c =
    let l = table_length c.self.inside.levels c.self.inside.range c.args.self.now c.self.view_is in
    omega arith

pub returns-in_err-grow-clause-within : goal.returns-in_err-grow-clause-within
returns-in_err-grow-clause-within c le =
    let l = table_length c.self.inside.levels c.self.inside.range c.args.self.now c.self.view_is in
    let more = c.if-sites-self.true in
    absurd (omega arith)
