-- Which rules look at which cells.
use Rattle.std.specs.Prelude.{◌≡◌, ℕ, List, slice_get, Bool, true, nat_eq}
use Rattle.std.specs.BTreeMap.{get}
use Rattle.std.specs.List.{list_any}
use Rattle.std.specs.declared.cmp.Ordering.{Ordering}
use Rattle.ld_model.specs.Cells.{same_cell}
use Rattle.ld_model.specs.contracts.cell.CellNameOrd.TheImpl as cell_ord
use Rattle.ld_model.specs.declared.cell.CellName.{CellName}
use Rattle.ld_model.specs.declared.unit.Unit.{Unit}
use Rattle.ld_names.specs.Rules.{rules_of}
use Rattle.ld_expr.specs.Lookup.{is_some_and, list_from}
use Rattle.ld_rank.specs.Alone.{is_fed, looks_alone}
use Rattle.ld_rank.specs.declared.lookers.Lookers.{Lookers}

-- The order of cells.
abbrev pub cell_cmp : CellName → CellName → Ordering
cell_cmp = (cell_ord.ghosts).cmp

-- The rules that are noted for the cell, by their numbers.
abbrev pub rules_at : Lookers → CellName → List ℕ
rules_at lookers cell = list_from (λ rules. rules.items) (get cell_cmp lookers.by_cell cell)

-- The rule of this number is among those that are noted for the cell.
abbrev pub is_at : Lookers → CellName → ℕ → Bool
is_at lookers cell rule = list_any (λ each. nat_eq each rule) (rules_at lookers cell)

-- The rule of this number looks at the cell in a run of one person.
abbrev pub rule_looks_at : Unit → ℕ → CellName → Bool
rule_looks_at unit number cell =
    is_some_and (λ rule. list_any (same_cell cell) (looks_alone unit rule)) (slice_get (rules_of unit) number)

-- For each cell that a firing may write, just those rules are noted that look at it.
pub record AreLookers (unit : Unit) (lookers : Lookers) : Type 0 where
  pub exact : (cell : CellName) (rule : ℕ) → is_fed cell ≡ true → is_at lookers cell rule ≡ rule_looks_at unit rule cell
