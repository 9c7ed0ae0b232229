-- The first loop of a graph: it begins with the least node that leads to itself, is as short as any from
-- there, and of those the first, compared node by node.
use Rattle.std.specs.Prelude.{◌≡◌, ℕ, zero, suc, ◌<◌, ◌≤◌, ◌⊎◌, List, [], ◌∷◌, length, Bool, ◌&&◌, nat_eq, ⊤}
use Rattle.std.specs.List.{list_any, position}
use Rattle.std.specs.Option.{unwrap_or}
use Rattle.ld_base.specs.Numbers.{numbers_below}
use Rattle.ld_cycles.specs.Graphs.{Graph, IsNext, next_of}
use Rattle.ld_layers.specs.Layers.{leads_on}

-- ---- loops

-- From the node along the others, each of which the one before it leads to, and from the last to the end.
abbrev pub GoesOn : Graph → ℕ → List ℕ → ℕ → Type 0
GoesOn g a [] end = IsNext g a end
GoesOn g a (b ∷ more) end = IsNext g a b × GoesOn g b more end

-- Each node leads to the next one, and the last to the first; there is one.
abbrev pub IsLoop : Graph → List ℕ → Type 0
IsLoop g [] = ⊥
IsLoop g (a ∷ more) = GoesOn g a more a

-- The first list is not after the second, compared from the left.
abbrev pub IsNotAfter : List ℕ → List ℕ → Type 0
IsNotAfter [] ys = ⊤
IsNotAfter (x ∷ xs) [] = ⊥
IsNotAfter (x ∷ xs) (y ∷ ys) = (x < y) ⊎ ((x ≡ y) × IsNotAfter xs ys)

-- The first node is the same.
abbrev pub BeginsWith : List ℕ → ℕ → Type 0
BeginsWith [] a = ⊥
BeginsWith (x ∷ xs) a = x ≡ a

-- The loop begins with the least node that any loop begins with, is of least length from there, and of these the
-- first.
pub record IsFirstLoop (g : Graph) (loop : List ℕ) : Type 0 where
  pub start : ℕ
  pub begins : BeginsWith loop start
  pub closes : IsLoop g loop
  pub least : (other : List ℕ) (a : ℕ) → IsLoop g other → BeginsWith other a → start ≤ a
  pub shortest : (other : List ℕ) → IsLoop g other → BeginsWith other start → length loop ≤ length other
  pub first :
      (other : List ℕ) → IsLoop g other → BeginsWith other start → length other ≡ length loop
      → IsNotAfter loop other

-- ---- how it is found

-- A way of exactly this many steps leads from the first node to the second.
abbrev pub way_in : Graph → ℕ → ℕ → ℕ → Bool
way_in g zero a b = nat_eq a b
way_in g (suc n) a b = list_any (λ c. way_in g n c b) (next_of g a)

-- The least node to which the node leads and from which a way of this many steps leads to the end.
abbrev pub next_towards : Graph → ℕ → ℕ → ℕ → ℕ
next_towards g n a end =
    unwrap_or (position (λ c. leads_on g a c && way_in g n c end) (numbers_below (length g))) 0

-- The nodes of a way of this many steps to the end, without the end, each the least that there can be.
abbrev pub first_way : Graph → ℕ → ℕ → ℕ → List ℕ
first_way g zero a end = []
first_way g (suc n) a end = a ∷ first_way g n (next_towards g n a end) end
