use Rattle.std.proofs.Common.{◌≡◌, ◌<◌, ℕ, false, map, length, sym, arith}
use Rattle.std.proofs.lemmas.List.{length-map}
use Rattle.ld_cycles.specs.Graphs.{is_on_cycle}
use Rattle.ld_cycles.proofs.CycleLaws.{NeverRise, first_number, no_number, off_cycle}
use Rattle.ld_cycles.proofs.cycles.first_on_cycle.Goals as goal

pub returns-in_default : goal.returns-in_default
returns-in_default c =
    let g = map (λ next. next.items) c.args.edges.now in
    let nodes = length-map c.args.edges.now (λ next. next.items) in
    let labels = c.in_ok-labels.labels.items in
    let never : NeverRise labels g = rw c.deref.ensures.value at (c.never_rise.ensures c.if-not-never_rise.false) in
    let falls = rw c.deref-2.ensures.value at c.in_default.ensures.none in
    let off : (k : ℕ) → k < length g → is_on_cycle g k ≡ false = λ k within. off_cycle labels g k never (falls k (omega (arith, nodes))) in
    sym (no_number (is_on_cycle g) (length g) off)

pub returns-then-branch : goal.returns-then-branch
returns-then-branch c =
    let g = map (λ next. next.items) c.args.edges.now in
    let nodes = length-map c.args.edges.now (λ next. next.items) in
    let labels = c.in_ok-labels.labels.items in
    let never : NeverRise labels g = rw c.deref.ensures.value at (c.never_rise.ensures c.if-not-never_rise.false) in
    let falls = rw c.deref-2.ensures.value at c.in-Some.ensures.before in
    let off : (k : ℕ) → k < c.in-Some.node → is_on_cycle g k ≡ false = λ k before. off_cycle labels g k never (falls k before) in
    let within : c.in-Some.node < length g = omega (arith, nodes, c.in-Some.ensures.within) in
    sym (first_number (is_on_cycle g) (length g) c.in-Some.node within (c.in_ok-leads_back.ensures c.if-branch.true) off)
