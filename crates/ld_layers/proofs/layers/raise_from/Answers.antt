use Rattle.std.proofs.Common.{◌<◌, length, map, sym, ◌∙◌, arith}
use Rattle.std.proofs.lemmas.List.{length-map}
use Rattle.ld_layers.proofs.LayerLaws.{layer_low}
use Rattle.ld_layers.proofs.Ranges.{next_read}
use Rattle.ld_layers.proofs.Raised.{grown_from, low_from, raised_row, read_number, risen_from}
use Rattle.ld_layers.proofs.layers.raise_from.Goals as goal

pub overflow_add-above : goal.overflow_add-above
overflow_add-above c =
    let g = map (λ next. next.items) c.args.edges.now in
    let count = length-map c.args.edges.now (λ next. next.items) in
    let low = c.requires.low in
    let within : c.args.node < length g = omega (arith, c.requires.node, count) in
    omega (arith, low.low c.args.node within, layer_low g (length g) c.args.node, low.few, read_number c.args.numbers.now c.args.node (omega (arith, within, low.each)))

pub returns-clause-low : goal.returns-clause-low
returns-clause-low c =
    let read = next_read (λ next. next.items) c.args.edges.now c.args.node c.index-edges-node.result c.requires.node c.index-edges-node.is in
    let within : c.args.node < length c.args.numbers.now = omega (arith, c.requires.node, length-map c.args.edges.now (λ next. next.items), c.requires.low.each) in
    let raised = raised_row (map (λ next. next.items) c.args.edges.now) c.args.node c.args.numbers.now c.raise_each.new.numbers c.deref.result.now within (c.deref.ensures.value ∙ sym read) c.raise_each.ensures.value in
    low_from (map (λ next. next.items) c.args.edges.now) c.args.node c.args.numbers.now c.raise_each.new.numbers c.requires.acyclic c.requires.low c.raise_each.ensures.each raised

pub returns-clause-grow : goal.returns-clause-grow
returns-clause-grow c =
    let read = next_read (λ next. next.items) c.args.edges.now c.args.node c.index-edges-node.result c.requires.node c.index-edges-node.is in
    let within : c.args.node < length c.args.numbers.now = omega (arith, c.requires.node, length-map c.args.edges.now (λ next. next.items), c.requires.low.each) in
    let raised = raised_row (map (λ next. next.items) c.args.edges.now) c.args.node c.args.numbers.now c.raise_each.new.numbers c.deref.result.now within (c.deref.ensures.value ∙ sym read) c.raise_each.ensures.value in
    grown_from (map (λ next. next.items) c.args.edges.now) c.args.node c.args.numbers.now c.raise_each.new.numbers c.raise_each.ensures.each raised

pub returns-clause-rise : goal.returns-clause-rise
returns-clause-rise c = λ b below.
    let read = next_read (λ next. next.items) c.args.edges.now c.args.node c.index-edges-node.result c.requires.node c.index-edges-node.is in
    let within : c.args.node < length c.args.numbers.now = omega (arith, c.requires.node, length-map c.args.edges.now (λ next. next.items), c.requires.low.each) in
    let raised = raised_row (map (λ next. next.items) c.args.edges.now) c.args.node c.args.numbers.now c.raise_each.new.numbers c.deref.result.now within (c.deref.ensures.value ∙ sym read) c.raise_each.ensures.value in
    risen_from (map (λ next. next.items) c.args.edges.now) c.args.node c.args.numbers.now c.raise_each.new.numbers
    raised b
    (omega (arith, below, length-map c.args.edges.now (λ next. next.items), c.requires.low.each))
