-- Loops of rules, and the graph of a unit's rules.
use Rattle.std.specs.Prelude.{◌≡◌, ℕ, ◌<◌, ◌≤◌, List, [], ◌∷◌, length, slice_get, Bool, false}
use Rattle.std.specs.Option.{unwrap_or}
use Rattle.ld_model.specs.declared.unit.Unit.{Unit}
use Rattle.ld_names.specs.Rules.{rules_of}
use Rattle.ld_cycles.specs.Graphs.{Graph}
use Rattle.ld_layers.specs.Layers.{leads_on}
use Rattle.ld_layers.specs.Loops.{BeginsWith, IsNotAfter}
use Rattle.ld_rank.specs.Alone.{feeds_between}
use Rattle.ld_rank.specs.Feeding.{Feeds}

-- From the rule along the others, each of which the one before it feeds, and from the last to the end.
abbrev pub FeedsOn : Unit → ℕ → List ℕ → ℕ → Type 0
FeedsOn unit a [] end = Feeds unit a end
FeedsOn unit a (b ∷ more) end = Feeds unit a b × FeedsOn unit b more end

-- Each rule feeds the next one, and the last the first; there is one.
abbrev pub IsRuleLoop : Unit → List ℕ → Type 0
IsRuleLoop unit [] = ⊥
IsRuleLoop unit (a ∷ more) = FeedsOn unit a more a

-- The loop begins with the least rule that any loop begins with, is of least length from there, and of these
-- the first, compared from the left.
pub record IsFirstRuleLoop (unit : Unit) (loop : List ℕ) : Type 0 where
  pub start : ℕ
  pub begins : BeginsWith loop start
  pub closes : IsRuleLoop unit loop
  pub least : (other : List ℕ) (a : ℕ) → IsRuleLoop unit other → BeginsWith other a → start ≤ a
  pub shortest :
      (other : List ℕ) → IsRuleLoop unit other → BeginsWith other start → length loop ≤ length other
  pub first :
      (other : List ℕ) → IsRuleLoop unit other → BeginsWith other start → length other ≡ length loop
      → IsNotAfter loop other

-- A node for each rule, and an edge where one feeds another.
pub record IsGraphOf (unit : Unit) (g : Graph) : Type 0 where
  pub each : length g ≡ length (rules_of unit)
  pub edges : (a b : ℕ) → leads_on g a b ≡ feeds_between unit a b

-- The table names the rule of this number.
abbrev pub is_named : List Bool → ℕ → Bool
is_named table rule = unwrap_or (slice_get table rule) false

-- The table names just the rules that the rule feeds.
pub record IsRowOf (unit : Unit) (rule : ℕ) (table : List Bool) : Type 0 where
  pub each : length table ≡ length (rules_of unit)
  pub value : (b : ℕ) → b < length (rules_of unit) → is_named table b ≡ feeds_between unit rule b
