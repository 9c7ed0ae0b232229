-- That the test of a ranking decides it, and the graph of a unit's rules.
use Rattle.std.proofs.Common.{◌≡◌, refl, sym, ap, subst, ◌∙◌, ℕ, zero, suc, ◌+◌, ◌<◌, ◌≤◌, ◌⊎◌, inl, inr, List, [], ◌∷◌, filter, map, length, slice_get, Bool, true, false, cond, ◌&&◌, ◌||◌, not, nat_eq, nat_lt, arith}
use Rattle.std.proofs.lemmas.Bool.{cases_eq, cases_lt, and_from, and_parts, and_right, or_cases, or_left, or_right, false≢true, ltb-true, lt-ltb, eq-eqb, ne_eqb}
use Rattle.std.proofs.lemmas.List.FromFn.{get_or-map-range_with_len, length-map-range_with_len}
use Rattle.std.proofs.lemmas.Option.{slice_get-get_or, slice_get_past, slice_get_within}
use Rattle.std.specs.List.{All, list_all, list_any, range_with_len}
use Rattle.ld_base.specs.Numbers.{numbers_below}
use Rattle.ld_cycles.specs.Graphs.{Graph, next_of, nodes_or_none, number_or_zero, number_or_zero_at}
use Rattle.ld_model.specs.declared.unit.Unit.{Unit}
use Rattle.ld_names.specs.Rules.{rules_of}
use Rattle.ld_expr.specs.Lookup.{is_some_and}
use Rattle.ld_refs.specs.Checks.{IsValid}
use Rattle.ld_layers.specs.Layers.{leads_on, AreLayers}
use Rattle.ld_layers.specs.Loops.{IsFirstLoop}
use Rattle.ld_rank.specs.Alone.{feeds_by, feeds_between}
use Rattle.ld_rank.specs.Feeding.{Feeds}
use Rattle.ld_rank.specs.Ranking.{rank_at, IsRanking, is_rising, rises_from}
use Rattle.ld_rank.specs.Reports.{IsRankedBy, IsLoopedBy}
use Rattle.ld_rank.specs.Rules.{IsGraphOf}
use Rattle.ld_rank.proofs.Exact.{feeding_found, found_feeding, some_passes}
use Rattle.ld_rank.proofs.Numbering.{fed_is_rule, layers_rank, layers_tight, first_rule_loop, no_ranking}
use Rattle.ld_rank.proofs.Sweeps.{fires_by_rank, passes_no_budget}

-- ---- all numbers below another

all_from : (p : ℕ → Bool) (n a : ℕ) → ((k : ℕ) → a ≤ k → k < a + n → p k ≡ true) → list_all p (range_with_len a n) ≡ true
all_from p zero a each = refl
all_from p (suc n) a each =
    and_from (p a) (list_all p (range_with_len (a + 1) n)) (each a (omega arith) (omega arith))
    (all_from p n (a + 1) (λ k from below. each k (omega (arith, from)) (omega (arith, below))))

pub all_below : (p : ℕ → Bool) (n : ℕ) → ((k : ℕ) → k < n → p k ≡ true) → list_all p (numbers_below n) ≡ true
all_below p n each = all_from p n 0 (λ k from below. each k (omega (arith, below)))

each_from : (p : ℕ → Bool) (n a k : ℕ) → list_all p (range_with_len a n) ≡ true → a ≤ k → k < a + n → p k ≡ true
each_from p zero a k all from below = absurd (omega (arith, from, below))
each_from p (suc n) a k all from below =
    let parts = and_parts (p a) (list_all p (range_with_len (a + 1) n)) all in
    elim (cases_eq a k) [
      | inl same ↦ subst (λ m. p m ≡ true) same parts.0
      | inr other ↦ each_from p n (a + 1) k parts.1 (omega (arith, from, other)) (omega (arith, below))
    ]

pub each_below : (p : ℕ → Bool) (n k : ℕ) → list_all p (numbers_below n) ≡ true → k < n → p k ≡ true
each_below p n k all below = each_from p n 0 k all (omega arith) (omega (arith, below))

pub one_fails : (p : ℕ → Bool) (n k : ℕ) → k < n → p k ≡ false → list_all p (numbers_below n) ≡ false
one_fails p n k below fails = by (list_all p (numbers_below n)) refl
  where
    by : (b : Bool) → list_all p (numbers_below n) ≡ b → b ≡ false
    by false is = refl
    by true is = absurd (false≢true (sym fails ∙ each_below p n k is below))

-- ---- rankings

rising_fed : (unit : Unit) (ranks : List ℕ) (a b : ℕ) → is_rising unit ranks a b ≡ true → Feeds unit a b
    → rank_at ranks a < rank_at ranks b
rising_fed unit ranks a b rising fed =
    elim (or_cases (not (feeds_between unit a b)) (nat_lt (rank_at ranks a) (rank_at ranks b)) rising) [
      | inl unfed ↦ absurd (false≢true (ap not (sym (feeding_found unit a b fed)) ∙ unfed))
      | inr less ↦ ltb-true (rank_at ranks a) (rank_at ranks b) less
    ]

fed_rises : (unit : Unit) (ranks : List ℕ) (a b : ℕ) → (Feeds unit a b → rank_at ranks a < rank_at ranks b)
    → is_rising unit ranks a b ≡ true
fed_rises unit ranks a b rises = by (feeds_between unit a b) refl
  where
    by : (fed : Bool) → feeds_between unit a b ≡ fed → (not fed || nat_lt (rank_at ranks a) (rank_at ranks b)) ≡ true
    by false is = refl
    by true is = lt-ltb (rank_at ranks a) (rank_at ranks b) (rises (found_feeding unit a b is))

-- What feeds is a rule.
feeding_is_rule : (unit : Unit) (a b : ℕ) → feeds_between unit a b ≡ true → a < length (rules_of unit)
feeding_is_rule unit a b have =
    let first = some_passes (λ first. is_some_and (λ second. feeds_by unit a b first second) (slice_get (rules_of unit) b)) (slice_get (rules_of unit) a) have in
    slice_get_within (rules_of unit) a first.0 first.1

pub ranking_from : (unit : Unit) (ranks : List ℕ) → length ranks ≡ length (rules_of unit)
    → ((k : ℕ) → k < length (rules_of unit) → rises_from unit ranks k ≡ true) → IsRanking unit ranks
ranking_from unit ranks each rise = record {
  each = each;
  from_one = λ rule within.
      let parts = and_parts (nat_lt 0 (rank_at ranks rule)) (list_all (is_rising unit ranks rule) (numbers_below (length (rules_of unit)))) (rise rule (omega (arith, within, each))) in
      ltb-true 0 (rank_at ranks rule) parts.0;
  rises = λ a b fed.
      let have = feeding_found unit a b fed in
      let parts = and_parts (nat_lt 0 (rank_at ranks a)) (list_all (is_rising unit ranks a) (numbers_below (length (rules_of unit)))) (rise a (feeding_is_rule unit a b have)) in
      rising_fed unit ranks a b (each_below (is_rising unit ranks a) (length (rules_of unit)) b parts.1 (fed_is_rule unit a b have)) fed;
}

pub from_ranking : (unit : Unit) (ranks : List ℕ) (k : ℕ) → IsRanking unit ranks → k < length (rules_of unit)
    → rises_from unit ranks k ≡ true
from_ranking unit ranks k ranking within =
    and_from (nat_lt 0 (rank_at ranks k)) (list_all (is_rising unit ranks k) (numbers_below (length (rules_of unit))))
    (lt-ltb 0 (rank_at ranks k) (ranking.from_one k (omega (arith, within, ranking.each))))
    (all_below (is_rising unit ranks k) (length (rules_of unit)) (λ b below. fed_rises unit ranks k b (ranking.rises k b)))

-- ---- the graph of the rules

among_filtered : (p : ℕ → Bool) (xs : List ℕ) (b : ℕ)
    → list_any (λ c. nat_eq c b) (filter p xs) ≡ (p b && list_any (λ c. nat_eq c b) xs)
among_filtered p [] b = sym (and_right (p b) false refl)
among_filtered p (x ∷ xs) b = by (p x) refl (among_filtered p xs b) (cases_eq x b)
  where
    by : (kept : Bool) → p x ≡ kept → list_any (λ c. nat_eq c b) (filter p xs) ≡ (p b && list_any (λ c. nat_eq c b) xs)
        → (x ≡ b) ⊎ (x ≡ b → ⊥)
        → list_any (λ c. nat_eq c b) (cond kept (x ∷ filter p xs) (filter p xs)) ≡ (p b && (nat_eq x b || list_any (λ c. nat_eq c b) xs))
    by true is rest (inl same) = rw (eq-eqb x b same, ap p (sym same) ∙ is) refl
    by true is rest (inr other) = rw (ne_eqb x b other) rest
    by false is rest (inl same) = rest ∙ rw (ap p (sym same) ∙ is) refl
    by false is rest (inr other) = rw (ne_eqb x b other) rest

among_all : (n a b : ℕ) → a ≤ b → b < a + n → list_any (λ c. nat_eq c b) (range_with_len a n) ≡ true
among_all zero a b from below = absurd (omega (arith, from, below))
among_all (suc n) a b from below = elim (cases_eq a b) [
  | inl same ↦ or_left (nat_eq a b) (list_any (λ c. nat_eq c b) (range_with_len (a + 1) n)) (eq-eqb a b same)
  | inr other ↦ or_right (nat_eq a b) (list_any (λ c. nat_eq c b) (range_with_len (a + 1) n)) (among_all n (a + 1) b (omega (arith, from, other)) (omega (arith, below)))
]

-- The list of this row of a table.
row_at : (row : ℕ → List ℕ) (n a : ℕ) → a < n → next_of (map row (numbers_below n)) a ≡ row a
row_at row n a within =
    ap nodes_or_none (slice_get-get_or (map row (numbers_below n)) a [] (omega (arith, within, length-map-range_with_len row 0 n)))
    ∙ get_or-map-range_with_len row 0 n a a [] within (omega arith)

edge_within : (p : ℕ → ℕ → Bool) (n a b : ℕ) → a < n → (p a b ≡ true → b < n)
    → leads_on (map (λ a. filter (p a) (numbers_below n)) (numbers_below n)) a b ≡ p a b
edge_within p n a b within below =
    ap (list_any (λ c. nat_eq c b)) (row_at (λ a. filter (p a) (numbers_below n)) n a within)
    ∙ among_filtered (p a) (numbers_below n) b
    ∙ by (p a b) below
  where
    by : (led : Bool) → (led ≡ true → b < n) → (led && list_any (λ c. nat_eq c b) (numbers_below n)) ≡ led
    by true inside = among_all n 0 b (omega arith) (omega (arith, inside refl))
    by false inside = refl

edge_past : (p : ℕ → ℕ → Bool) (n a b : ℕ) → n ≤ a → p a b ≡ false
    → leads_on (map (λ a. filter (p a) (numbers_below n)) (numbers_below n)) a b ≡ p a b
edge_past p n a b past none =
    ap (λ o. list_any (λ c. nat_eq c b) (nodes_or_none o))
    (slice_get_past (map (λ a. filter (p a) (numbers_below n)) (numbers_below n)) a (omega (arith, past, length-map-range_with_len (λ a. filter (p a) (numbers_below n)) 0 n)))
    ∙ sym none

edge : (unit : Unit) (a b : ℕ)
    → leads_on (map (λ a. filter (feeds_between unit a) (numbers_below (length (rules_of unit)))) (numbers_below (length (rules_of unit)))) a b ≡ feeds_between unit a b
edge unit a b = elim (cases_lt a (length (rules_of unit))) [
  | inl within ↦ edge_within (feeds_between unit) (length (rules_of unit)) a b within (fed_is_rule unit a b)
  | inr past ↦ edge_past (feeds_between unit) (length (rules_of unit)) a b past
      (ap (λ o. is_some_and (λ first. is_some_and (λ second. feeds_by unit a b first second) (slice_get (rules_of unit) b)) o) (slice_get_past (rules_of unit) a past))
]

pub graph_of : (unit : Unit) (g : Graph)
    → g ≡ map (λ a. filter (feeds_between unit a) (numbers_below (length (rules_of unit)))) (numbers_below (length (rules_of unit)))
    → IsGraphOf unit g
graph_of unit g is = record {
  each = ap length is ∙ length-map-range_with_len (λ a. filter (feeds_between unit a) (numbers_below (length (rules_of unit)))) 0 (length (rules_of unit));
  edges = λ a b. ap (λ (graph : Graph). leads_on graph a b) is ∙ edge unit a b;
}

-- ---- what a report says

pub ranked_by : (unit : Unit) (g : Graph) (layers : List ℕ) → IsValid unit → IsGraphOf unit g → AreLayers g layers
    → IsRankedBy unit layers
ranked_by unit g layers valid of are =
    let ranking = layers_rank unit g of layers are in
    record {
      ranking = ranking;
      tight = layers_tight unit g of layers are;
      in_time = fires_by_rank unit valid layers ranking;
      never_passes = passes_no_budget unit valid layers ranking;
    }

pub looped_by : (unit : Unit) (g : Graph) (loop : List ℕ) → IsGraphOf unit g → IsFirstLoop g loop → IsLoopedBy unit loop
looped_by unit g loop of is =
    let first = first_rule_loop unit g of loop is in
    record { first = first; unranked = no_ranking unit loop first.closes }

-- A number in a list whose numbers are all at most this, as it is read.
pub all_few : (numbers : List ℕ) (most bound : ℕ) → ((k : ℕ) → number_or_zero_at numbers k ≤ most) → most < bound
    → All (λ number. number < bound) numbers
all_few numbers most bound each few k d below =
    let here = each k in
    let read = ap number_or_zero (slice_get-get_or numbers k d below) in
    omega (arith, here, read, few)
