use Rattle.std.proofs.Common.{◌≡◌, ℕ, ◌<◌, ◌⊎◌, inl, inr, Bool, true, false, List, length, set, sym, ◌∙◌}
use Rattle.std.proofs.lemmas.Bool.{cases_eq}
use Rattle.std.proofs.lemmas.List.{get_or-set_other, get_or-set_same}
use Rattle.ld_graph.specs.Table.{has}

-- a table after one more number is put into it
pub has_set : (table : List Bool) (m i : ℕ) → m < length table → has table i ≡ true → has (set table m true) i ≡ true
has_set table m i lt is_in = elim (cases_eq i m) [
  | inl e ↦ rw e (get_or-set_same table m true false lt)
  | inr ne ↦ get_or-set_other table m i true false ne ∙ is_in
]

pub set_has : (table : List Bool) (m i : ℕ) → has (set table m true) i ≡ true → (i ≡ m) ⊎ (has table i ≡ true)
set_has table m i is_in = elim (cases_eq i m) [
  | inl e ↦ inl e
  | inr ne ↦ inr (sym (get_or-set_other table m i true false ne) ∙ is_in)
]

pub set_now : (table : List Bool) (m : ℕ) → m < length table → has (set table m true) m ≡ true
set_now table m lt = get_or-set_same table m true false lt
