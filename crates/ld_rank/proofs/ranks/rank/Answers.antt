use Rattle.std.proofs.Common.{ℕ, ◌<◌, List, map, length, sym, subst, ◌∙◌, arith}
use Rattle.std.proofs.lemmas.List.{length-map}
use Rattle.std.specs.List.{All}
use Rattle.ld_layers.specs.Layers.{AreLayers}
use Rattle.ld_layers.specs.Loops.{IsFirstLoop}
use Rattle.ld_layers.proofs.LoopLaws.{loop_within}
use Rattle.ld_rank.specs.Reports.{IsRankedBy, IsLoopedBy}
use Rattle.ld_rank.proofs.Deciding.{ranked_by, looped_by, all_few}
use Rattle.ld_rank.proofs.ranks.rank.Goals as goal

pub rules_from-requires : goal.rules_from-requires
rules_from-requires c =
    let edges = c.in_ok-edges.edges.items in
    let g = map (λ next. next.items) edges in
    let loop : IsFirstLoop g c.in_ok-nodes-in-Some.nodes.items =
    subst (λ own. IsFirstLoop (map (λ next. next.items) own) c.in_ok-nodes-in-Some.nodes.items) c.deref-in-Some.ensures.value c.in_ok-nodes-in-Some.ensures in
    let nodes = loop_within g c.in_ok-nodes-in-Some.nodes.items loop.closes in
    let many = length-map edges (λ next. next.items) in
    let all : All (λ node. node < 4294967296) c.in_ok-nodes-in-Some.nodes.items =
    λ k d below. omega (arith, nodes k d below, many, c.in_ok-edges.ensures.few) in
    subst (λ (nodes : List ℕ). All (λ node. node < 4294967296) nodes) (sym c.deref-in-Some-2.ensures.value) all

pub returns-in-Some : goal.returns-in-Some
returns-in-Some c =
    let unit = c.args.unit.now in
    let edges = c.in_ok-edges.edges.items in
    let nodes = c.in_ok-nodes-in-Some.nodes.items in
    let loop : IsFirstLoop (map (λ next. next.items) edges) nodes =
    subst (λ own. IsFirstLoop (map (λ next. next.items) own) nodes) c.deref-in-Some.ensures.value c.in_ok-nodes-in-Some.ensures in
    let known : IsLoopedBy unit nodes = looped_by unit (map (λ next. next.items) edges) nodes c.in_ok-edges.ensures.graph loop in
    subst (λ (rules : List ℕ). IsLoopedBy unit rules) (sym (c.in_ok-rules-in-Some.ensures ∙ c.deref-in-Some-2.ensures.value)) known

pub ranks_from-requires : goal.ranks_from-requires
ranks_from-requires c =
    let edges = c.in_ok-edges.edges.items in
    let g = map (λ next. next.items) edges in
    let layers = c.in_ok-layers-in-None.layers.items in
    let are : AreLayers g layers =
    subst (λ own. AreLayers (map (λ next. next.items) own) layers) c.deref-in-None.ensures.value c.in_ok-layers-in-None.ensures in
    let all = all_few layers (length g) 4294967296 are.few (omega (arith, length-map edges (λ next. next.items), c.in_ok-edges.ensures.few)) in
    subst (λ (numbers : List ℕ). All (λ layer. layer < 4294967296) numbers) (sym c.deref-in-None-2.ensures.value) all

pub returns : goal.returns
returns c =
    let unit = c.args.unit.now in
    let edges = c.in_ok-edges.edges.items in
    let layers = c.in_ok-layers-in-None.layers.items in
    let are : AreLayers (map (λ next. next.items) edges) layers =
    subst (λ own. AreLayers (map (λ next. next.items) own) layers) c.deref-in-None.ensures.value c.in_ok-layers-in-None.ensures in
    let known : IsRankedBy unit layers = ranked_by unit (map (λ next. next.items) edges) layers c.unit.ensures.valid c.in_ok-edges.ensures.graph are in
    subst (λ (ranks : List ℕ). IsRankedBy unit ranks) (sym (c.in_ok-ranks-in-None.ensures ∙ c.deref-in-None-2.ensures.value)) known
