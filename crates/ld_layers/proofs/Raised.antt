-- That numbers which are raised until none is become layers.
use Rattle.std.proofs.Common.{◌≡◌, ℕ, zero, suc, ◌+◌, ◌<◌, ◌≤◌, inl, inr, List, length, get_or, Bool, true, false, cond, nat_eq, max, refl, sym, ap, ap₂, ◌∙◌, arith}
use Rattle.std.proofs.lemmas.Bool.{cases_lt}
use Rattle.std.proofs.lemmas.Option.{slice_get_past, slice_get-get_or}
use Rattle.std.specs.List.{list_any}
use Rattle.ld_base.specs.Numbers.{numbers_below}
use Rattle.ld_cycles.specs.Graphs.{Graph, IsNext, next_of, number_or_zero, number_or_zero_at}
use Rattle.ld_layers.specs.Layers.{leads_on, before, greatest, layer_within, layers_of, AreLayers}
use Rattle.ld_layers.specs.Raising.{AreLow}
use Rattle.ld_layers.proofs.LayerLaws.{NoCycle, are_layers, attained, layer, layer_at, layer_past, layer_rises, leading_is_node}

-- After a round the numbers reach the layers of ways of one more node.
pub reached_next : (g : Graph) (k : ℕ) (old new : List ℕ)
    → ((a : ℕ) → a < length g → layer_within g k a ≤ number_or_zero_at old a)
    → ((a b : ℕ) → b < length g → IsNext g a b → number_or_zero_at old a < number_or_zero_at new b)
    → ((b : ℕ) → b < length g → 0 < number_or_zero_at new b)
    → (b : ℕ) → b < length g → layer_within g (suc k) b ≤ number_or_zero_at new b
reached_next g k old new reach rise some b within = elim (cases_lt 0 (greatest (layer_within g k) (before g b))) [
  | inl more ↦ (let found = attained (layer_within g k) (λ a. leads_on g a b) (numbers_below (length g)) more in
      omega (arith, found.2, reach found.0 (leading_is_node g found.0 b found.1), rise found.0 b within found.1))
  | inr nothing ↦ omega (arith, nothing, some b within)
]

-- Once a round raises none, they reach all layers.
reached : (g : Graph) (numbers : List ℕ) → AreLow g numbers
    → ((a b : ℕ) → b < length g → IsNext g a b → number_or_zero_at numbers a < number_or_zero_at numbers b)
    → (k b : ℕ) → b < length g → layer_within g k b ≤ number_or_zero_at numbers b
reached g numbers low rise zero b within = omega arith
reached g numbers low rise (suc k) b within =
    reached_next g k numbers numbers (reached g numbers low rise k) rise low.from_one b within

-- Low numbers that reach the layers are the layers.
pub reaching_layers : (g : Graph) (numbers : List ℕ) → NoCycle g → AreLow g numbers
    → ((b : ℕ) → b < length g → layer_within g (length g) b ≤ number_or_zero_at numbers b) → AreLayers g numbers
reaching_layers g numbers none low reach = record {
  each = low.each;
  from_one = low.from_one;
  few = λ b. omega (arith, same b, layers.few b);
  rise = λ a b within next. omega (arith, same a, same b, layers.rise a b within next);
  tight = λ b above.
      let found = layers.tight b (omega (arith, same b, above)) in
      (found.0, found.1, omega (arith, same found.0, same b, found.2));
}
  where
    layers : AreLayers g (layers_of g)
    layers = are_layers g none

    same : (b : ℕ) → number_or_zero_at numbers b ≡ number_or_zero_at (layers_of g) b
    same b = elim (cases_lt b (length g)) [
      | inl within ↦ omega (arith, low.low b within, reach b within, layer_at g b within)
      | inr past ↦ ap number_or_zero (slice_get_past numbers b (omega (arith, past, low.each))) ∙ sym (layer_past g b past)
    ]

pub still_layers : (g : Graph) (numbers : List ℕ) → NoCycle g → AreLow g numbers
    → ((a b : ℕ) → b < length g → IsNext g a b → number_or_zero_at numbers a < number_or_zero_at numbers b)
    → AreLayers g numbers
still_layers g numbers none low rise = reaching_layers g numbers none low (reached g numbers low rise (length g))

-- ---- the steps from one node

pub read_number : (numbers : List ℕ) (node : ℕ) → node < length numbers → number_or_zero_at numbers node ≡ get_or numbers node 0
read_number numbers node within = ap number_or_zero (slice_get-get_or numbers node 0 within)

-- What the numbers are once those of the nodes are raised to which the node leads.
abbrev pub IsRaised : Graph → ℕ → List ℕ → List ℕ → Type 0
IsRaised g node old new =
    (b : ℕ) → b < length old
    → number_or_zero_at new b ≡ max (number_or_zero_at old b) (cond (leads_on g node b) (number_or_zero_at old node + 1) 0)

pub raised_row : (g : Graph) (node : ℕ) (old new next : List ℕ) → node < length old → next ≡ next_of g node
    → ((b : ℕ) → b < length old → number_or_zero_at new b ≡ max (number_or_zero_at old b) (cond (list_any (λ c. nat_eq c b) next) (get_or old node 0 + 1) 0))
    → IsRaised g node old new
raised_row g node old new next within is are b below =
    are b below ∙ ap₂ (λ (leading : List ℕ) least. max (number_or_zero_at old b) (cond (list_any (λ c. nat_eq c b) leading) (least + 1) 0)) is (sym (read_number old node within))

pub grown_from : (g : Graph) (node : ℕ) (old new : List ℕ) → length new ≡ length old → IsRaised g node old new
    → (b : ℕ) → number_or_zero_at old b ≤ number_or_zero_at new b
grown_from g node old new same are b = elim (cases_lt b (length old)) [
  | inl within ↦ omega (arith, are b within)
  | inr past ↦ omega (arith, ap number_or_zero (slice_get_past old b past))
]

pub risen_from : (g : Graph) (node : ℕ) (old new : List ℕ) → IsRaised g node old new
    → (b : ℕ) → b < length old → IsNext g node b → number_or_zero_at old node < number_or_zero_at new b
risen_from g node old new are b within next =
    omega (arith, are b within, ap (λ leads. cond leads (number_or_zero_at old node + 1) 0) next)

-- What is raised from a node stays low.
pub low_from : (g : Graph) (node : ℕ) (old new : List ℕ) → NoCycle g → AreLow g old → length new ≡ length old
    → IsRaised g node old new → AreLow g new
low_from g node old new none low same are = record {
  each = same ∙ low.each;
  from_one = λ b within. omega (arith, low.from_one b within, are b (omega (arith, within, low.each)));
  low = λ b within. by b within (leads_on g node b) refl (are b (omega (arith, within, low.each)));
  few = low.few;
}
  where
    by : (b : ℕ) → b < length g → (leads : Bool) → leads_on g node b ≡ leads
        → number_or_zero_at new b ≡ max (number_or_zero_at old b) (cond leads (number_or_zero_at old node + 1) 0)
        → number_or_zero_at new b ≤ layer g b
    by b within true is at =
        let here = low.low node (leading_is_node g node b is) in
        omega (arith, at, low.low b within, here, layer_rises g none node b within is)
    by b within false is at = omega (arith, at, low.low b within)
