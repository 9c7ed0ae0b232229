-- That the layers of the graph of a unit's rules are a ranking, and that its loops are loops of rules.
use Rattle.std.proofs.Common.{◌≡◌, refl, sym, ◌∙◌, ℕ, ◌<◌, List, [], ◌∷◌, length, slice_get, Option, Some, None, true, arith}
use Rattle.std.proofs.lemmas.Option.{slice_get_within}
use Rattle.std.specs.Option.{unwrap_or}
use Rattle.ld_cycles.specs.Graphs.{Graph, IsNext, number_or_zero, number_or_zero_at}
use Rattle.ld_model.specs.declared.unit.Unit.{Unit}
use Rattle.ld_names.specs.Rules.{rules_of}
use Rattle.ld_expr.specs.Lookup.{is_some_and}
use Rattle.ld_layers.specs.Layers.{AreLayers}
use Rattle.ld_layers.specs.Loops.{GoesOn, IsLoop, IsFirstLoop}
use Rattle.ld_rank.specs.Alone.{feeds_by, feeds_between}
use Rattle.ld_rank.specs.Feeding.{Feeds}
use Rattle.ld_rank.specs.Ranking.{rank_at, IsRanking, IsTight}
use Rattle.ld_rank.specs.Rules.{FeedsOn, IsRuleLoop, IsFirstRuleLoop, IsGraphOf}
use Rattle.ld_rank.proofs.Exact.{feeding_found, found_feeding, some_passes}

rank_is : (ranks : List ℕ) (a : ℕ) → rank_at ranks a ≡ number_or_zero_at ranks a
rank_is ranks a = by (slice_get ranks a)
  where
    by : (o : Option ℕ) → unwrap_or o 0 ≡ number_or_zero o
    by None = refl
    by (Some n) = refl

-- What is fed is a rule.
pub fed_is_rule : (unit : Unit) (a b : ℕ) → feeds_between unit a b ≡ true → b < length (rules_of unit)
fed_is_rule unit a b have =
    let first = some_passes (λ first. is_some_and (λ second. feeds_by unit a b first second) (slice_get (rules_of unit) b)) (slice_get (rules_of unit) a) have in
    let second = some_passes (λ second. feeds_by unit a b first.0 second) (slice_get (rules_of unit) b) first.2 in
    slice_get_within (rules_of unit) b second.0 second.1

module _ (unit : Unit) (g : Graph) (of : IsGraphOf unit g) where
  to_edge : (a b : ℕ) → Feeds unit a b → IsNext g a b
  to_edge a b fed = of.edges a b ∙ feeding_found unit a b fed

  from_edge : (a b : ℕ) → IsNext g a b → Feeds unit a b
  from_edge a b next = found_feeding unit a b (sym (of.edges a b) ∙ next)

  pub layers_rank : (layers : List ℕ) → AreLayers g layers → IsRanking unit layers
  layers_rank layers are = record {
    each = are.each ∙ of.each;
    from_one = λ rule within.
        let one = are.from_one rule (omega (arith, within, are.each)) in
        omega (arith, one, rank_is layers rule);
    rises = λ a b fed.
        let below = fed_is_rule unit a b (feeding_found unit a b fed) in
        let more = are.rise a b (omega (arith, below, of.each)) (to_edge a b fed) in
        omega (arith, more, rank_is layers a, rank_is layers b);
  }

  pub layers_tight : (layers : List ℕ) → AreLayers g layers → IsTight unit layers
  layers_tight layers are b above =
      let found = are.tight b (omega (arith, above, rank_is layers b)) in
      (found.0, from_edge found.0 b found.1, omega (arith, found.2, rank_is layers found.0, rank_is layers b))

  feeds_on : (a : ℕ) (more : List ℕ) (end : ℕ) → GoesOn g a more end → FeedsOn unit a more end
  feeds_on a [] end goes = from_edge a end goes
  feeds_on a (b ∷ more) end goes = (from_edge a b goes.0, feeds_on b more end goes.1)

  goes_on : (a : ℕ) (more : List ℕ) (end : ℕ) → FeedsOn unit a more end → GoesOn g a more end
  goes_on a [] end feeds = to_edge a end feeds
  goes_on a (b ∷ more) end feeds = (to_edge a b feeds.0, goes_on b more end feeds.1)

  rule_loop : (loop : List ℕ) → IsLoop g loop → IsRuleLoop unit loop
  rule_loop [] is = is
  rule_loop (a ∷ more) is = feeds_on a more a is

  loop_of : (loop : List ℕ) → IsRuleLoop unit loop → IsLoop g loop
  loop_of [] is = is
  loop_of (a ∷ more) is = goes_on a more a is

  pub first_rule_loop : (loop : List ℕ) → IsFirstLoop g loop → IsFirstRuleLoop unit loop
  first_rule_loop loop is = record {
    start = is.start;
    begins = is.begins;
    closes = rule_loop loop is.closes;
    least = λ other a loops begins. is.least other a (loop_of other loops) begins;
    shortest = λ other loops begins. is.shortest other (loop_of other loops) begins;
    first = λ other loops begins counted. is.first other (loop_of other loops) begins counted;
  }

-- ---- loops have no ranking

rises_on : (unit : Unit) (ranks : List ℕ) → IsRanking unit ranks → (a : ℕ) (more : List ℕ) (end : ℕ)
    → FeedsOn unit a more end → rank_at ranks a < rank_at ranks end
rises_on unit ranks ranking a [] end feeds = ranking.rises a end feeds
rises_on unit ranks ranking a (b ∷ more) end feeds =
    let here = ranking.rises a b feeds.0 in
    let later = rises_on unit ranks ranking b more end feeds.1 in
    omega (arith, here, later)

pub no_ranking : (unit : Unit) (loop : List ℕ) → IsRuleLoop unit loop → (ranks : List ℕ) → IsRanking unit ranks → ⊥
no_ranking unit [] is ranks ranking = is
no_ranking unit (a ∷ more) is ranks ranking =
    let more_than = rises_on unit ranks ranking a more a is in
    absurd (omega (arith, more_than))
