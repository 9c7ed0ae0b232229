-- Slots in the order of their last use, the latest first, each with the number of that use.
use Rattle.std.specs.Prelude.{◌≡◌, ◌^◌, ◌-◌, ℕ, ◌≤◌, ◌<◌, List, [], ◌∷◌, ◌++◌, length, nat_eq, IsSome, Option, Some, None}
use Rattle.std.specs.List.{AllByRecursion}
use Rattle.std.specs.Map.{lookup}
use Rattle.lru.specs.LruCache.{LruCache}

-- The numbers never rise from one to the next.
abbrev pub Falls : List (ℕ × ℕ) → Type 0
Falls [] = Unit {0}
Falls (e ∷ es) = AllByRecursion (λ f. f.1 ≤ e.1) es × Falls es

-- The slots are all those below the length, and their numbers never rise.
abbrev pub IsRecency : List (ℕ × ℕ) → Type 0
IsRecency es = AllByRecursion (λ e. e.0 < length es) es × ((slot : ℕ) → slot < length es → IsSome (lookup (nat_eq slot) es)) × Falls es

-- Slots that were never used were put at the end.
pub record Grows (old new : List (ℕ × ℕ)) : Type 0 where
  pub added : List (ℕ × ℕ)
  pub all : new ≡ old ++ added
  pub unused : AllByRecursion (λ e. (e.1 ≡ 0) × (length old ≤ e.0)) added

-- The slots of a cache; before it is made there are none.
abbrev pub slots_in : Option (LruCache ℕ ℕ) → List (ℕ × ℕ)
slots_in None = []
slots_in (Some cache) = cache.entries

-- The cache, if it is made, never puts a slot out.
abbrev pub IsEndless : Option (LruCache ℕ ℕ) → Type 0
IsEndless None = Unit {0}
IsEndless (Some cache) = cache.cap ≡ 2 ^ 64 - 1
