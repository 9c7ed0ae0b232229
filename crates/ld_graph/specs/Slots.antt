use Rattle.std.specs.Prelude.{◌≡◌, ℕ, ◌<◌, List, length, get_or}

-- what callers see of a list of slots: its slots in the order in which they came, and how many it can hold
pub record Slots : Type 0 where
  pub items : List ℕ
  pub room : ℕ

-- no number stands twice in the list
abbrev pub AreDistinct : List ℕ → Type 0
AreDistinct numbers = (i j : ℕ) → i < length numbers → j < length numbers → get_or numbers i 0 ≡ get_or numbers j 0 → i ≡ j
