-- Numbers of rules that rise wherever one rule feeds another.
use Rattle.std.specs.Prelude.{◌≡◌, ℕ, suc, ◌<◌, List, [], ◌∷◌, length, max, slice_get, Bool, ◌&&◌, ◌||◌, not, nat_lt}
use Rattle.std.specs.List.{list_all}
use Rattle.std.specs.Option.{unwrap_or}
use Rattle.ld_model.specs.declared.unit.Unit.{Unit}
use Rattle.ld_names.specs.Rules.{rules_of}
use Rattle.ld_state.specs.RunState.{RunState}
use Rattle.ld_firing.specs.RunSystem.{of_site}
use Rattle.ld_base.specs.Numbers.{numbers_below}
use Rattle.ld_rank.specs.Alone.{feeds_between}
use Rattle.ld_rank.specs.Feeding.{Feeds}

-- The number of the rule.
abbrev pub rank_at : List ℕ → ℕ → ℕ
rank_at ranks rule = unwrap_or (slice_get ranks rule) 0

-- Each rule has a number from 1 on, and whatever it feeds has a greater one.
pub record IsRanking (unit : Unit) (ranks : List ℕ) : Type 0 where
  pub each : length ranks ≡ length (rules_of unit)
  pub from_one : (rule : ℕ) → rule < length ranks → 0 < rank_at ranks rule
  pub rises : (a b : ℕ) → Feeds unit a b → rank_at ranks a < rank_at ranks b

-- The greatest number.
abbrev pub depth_of : List ℕ → ℕ
depth_of [] = 0
depth_of (rank ∷ ranks) = max rank (depth_of ranks)

-- Each rule with a number above 1 is fed by one whose number is one less.
abbrev pub IsTight : Unit → List ℕ → Type 0
IsTight unit ranks =
    (b : ℕ) → 1 < rank_at ranks b → (a : ℕ) × Feeds unit a b × (suc (rank_at ranks a) ≡ rank_at ranks b)

-- The number of the rule of a site, by the site's number.
abbrev pub site_rank : Unit → List ℕ → RunState → ℕ → ℕ
site_rank unit ranks s site = of_site unit s site (λ found. rank_at ranks found.rule) 0

-- Where the first rule feeds the second, its number is less.
abbrev pub is_rising : Unit → List ℕ → ℕ → ℕ → Bool
is_rising unit ranks a b = not (feeds_between unit a b) || nat_lt (rank_at ranks a) (rank_at ranks b)

-- The rule has a number from 1 on, and what it feeds has a greater one.
abbrev pub rises_from : Unit → List ℕ → ℕ → Bool
rises_from unit ranks a =
    nat_lt 0 (rank_at ranks a) && list_all (is_rising unit ranks a) (numbers_below (length (rules_of unit)))
