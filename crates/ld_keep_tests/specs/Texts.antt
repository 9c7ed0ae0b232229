-- Lines in memory, and files that keep some of them.
use Rattle.std.specs.Prelude.{ℕ, ◌≤◌, List, ◌++◌, Vec, map, take, ◌≡◌}
use Rattle.std.specs.Borrow.{Bor}
use Rattle.std.specs.declared.alloc.Global.{Global}
use Rattle.ld_keep.specs.Kept.{kept_lines}

-- The bytes of each vector.
abbrev pub texts : List (Vec ℕ Global) → List (List ℕ)
texts = map (λ v. v.items)

-- The bytes of each text.
abbrev pub words : List (Bor (List ℕ)) → List (List ℕ)
words = map (λ s. s.now)

-- The file keeps the old lines and then the first n of these, where n is at least `least`.
abbrev pub KeepsFrom : ℕ → List (List ℕ) → List (List ℕ) → List ℕ → Type 0
KeepsFrom least old lines file = (n : ℕ) × (least ≤ n) × (kept_lines file ≡ old ++ take n lines)
