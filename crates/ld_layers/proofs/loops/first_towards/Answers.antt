use Rattle.std.proofs.Common.{ℕ, ◌<◌, ◌≤◌, ◌&&◌, map, length, sym, ap, ◌∙◌, arith}
use Rattle.std.proofs.lemmas.Bool.{and_from}
use Rattle.std.proofs.lemmas.List.{length-map}
use Rattle.std.specs.Option.{unwrap_or}
use Rattle.ld_cycles.proofs.CycleLaws.{first_number, no_number}
use Rattle.ld_layers.specs.Layers.{leads_on}
use Rattle.ld_layers.specs.Loops.{way_in}
use Rattle.ld_layers.proofs.Ranges.{swapped}
use Rattle.ld_layers.proofs.loops.first_towards.Goals as goal

pub returns-then-leads_on : goal.returns-then-leads_on
returns-then-leads_on c = λ n end names.
    let g = map (λ next. next.items) c.args.edges.now in
    let nodes = length-map c.args.edges.now (λ next. next.items) in
    let test = λ (k : ℕ). leads_on g c.args.node k && way_in g n k end in
    let same = λ (k : ℕ). swapped (leads_on g c.args.node k) (way_in g n k end) ∙ ap (λ b. b && leads_on g c.args.node k) (sym (names k)) in
    let within : c.loop-next.next < length g = omega (arith, nodes, c.loop-next-test.true) in
    let passes = and_from (leads_on g c.args.node c.loop-next.next) (way_in g n c.loop-next.next end)
    (sym c.leads_on.ensures ∙ c.if-leads_on.true) (sym (names c.loop-next.next) ∙ sym c.leads.ensures ∙ c.if-leads.true) in
    sym (ap (λ found. unwrap_or found 0)
    (first_number test (length g) c.loop-next.next within passes (λ k before. same k ∙ c.loop-next.invariant k before)))

pub returns : goal.returns
returns c = λ n end names.
    let g = map (λ next. next.items) c.args.edges.now in
    let nodes = length-map c.args.edges.now (λ next. next.items) in
    let test = λ (k : ℕ). leads_on g c.args.node k && way_in g n k end in
    let same = λ (k : ℕ). swapped (leads_on g c.args.node k) (way_in g n k end) ∙ ap (λ b. b && leads_on g c.args.node k) (sym (names k)) in
    let all : length g ≤ c.loop-next.next = omega (arith, nodes, c.loop-next-test.false) in
    sym (ap (λ found. unwrap_or found 0)
    (no_number test (length g) (λ k within. same k ∙ c.loop-next.invariant k (omega (arith, within, all)))))
