-- What a view of a state shows of its run: the same values, which suit their cells and can be printed.
use Rattle.std.proofs.Common.{◌≡◌, refl, sym, ap, ap₂, subst, ◌∙◌, ℕ, ℤ, ◌+◌, ◌≤◌, List, length, Option, Some, None, true, Contains, IfSome, arith}
use Rattle.ld_base.specs.Maybe.{◌>>=◌}
use Rattle.ld_value.specs.Calendar.{IsMoment}
use Rattle.ld_value.specs.Datum.{Datum, text_datum, truth_datum, number_datum, moment_datum, span_datum}
use Rattle.ld_value.specs.Values.{HasText, is_value}
use Rattle.ld_value.specs.declared.kind.Kind.{Kind}
use Rattle.ld_value.specs.declared.kind.Kind.TheVariants.{String, Text, Uri, Boolean, Integer, Datetime, Duration}
use Rattle.ld_value.proofs.Laws.{IsMoment-from}
use Rattle.ld_model.specs.declared.cell.CellName.{CellName}
use Rattle.ld_model.specs.declared.unit.Unit.{Unit}
use Rattle.ld_expr.specs.Lookup.{is_some_and}
use Rattle.ld_expr.specs.Seen.{Seen, moment_of_value}
use Rattle.ld_state.specs.Layout.{Layout, cells_in, slot_in}
use Rattle.ld_state.specs.RunCells.{all_cells, cell_kind, suits_cell}
use Rattle.ld_state.specs.RunState.{seen_in}
use Rattle.ld_state.specs.StateView.{StateView, IsStateOf, run_of, seen_in_slot, seen_of}
use Rattle.ld_state.proofs.Elements.{IsIn, contains_from_in, in_stands, none_is_some, some_same, different}
use Rattle.ld_state.proofs.Laid.{cells_laid}
use Rattle.ld_state.proofs.SeenSame.{persons_counted, seen_same}
use Rattle.ld_state.proofs.Standing.{stands_at}
use Rattle.ld_firing.specs.RunSystem.{IsSoundRun}
use Rattle.ld_tree.specs.TreeLooks.{tree_looks}
use Rattle.ld_replies.specs.Printing.{HasMoments}

-- ---- values that can be printed

of_kind : (value : Datum) (kind : Kind) → is_value kind value ≡ true → HasText value
of_kind (text_datum text) kind is = tt
of_kind (truth_datum b) kind is = tt
of_kind (number_datum z) kind is = tt
of_kind (span_datum n) kind is = tt
of_kind (moment_datum z) Datetime is = IsMoment-from z is
of_kind (moment_datum z) String is = different (sym is)
of_kind (moment_datum z) Text is = different (sym is)
of_kind (moment_datum z) Uri is = different (sym is)
of_kind (moment_datum z) Boolean is = different (sym is)
of_kind (moment_datum z) Integer is = different (sym is)
of_kind (moment_datum z) Duration is = different (sym is)

of_some : (value : Datum) (kind : Option Kind) → is_some_and (λ datatype. is_value datatype value) kind ≡ true
    → HasText value
of_some value None is = different (sym is)
of_some value (Some kind) is = of_kind value kind is

-- A value that suits its cell can be printed.
pub suits_printable : (unit : Unit) (name : CellName) (value : Datum)
    → suits_cell unit name (Some value) ≡ true → HasText value
suits_printable unit name value is = of_some value (cell_kind unit name) is

suits_moment : (unit : Unit) (name : CellName) (value : Option Datum) (z : ℤ)
    → suits_cell unit name value ≡ true → moment_of_value value ≡ Some z → IsMoment z
suits_moment unit name None z suits is = none_is_some is
suits_moment unit name (Some (moment_datum m)) z suits is =
    subst IsMoment (some_same is) (suits_printable unit name (moment_datum m) suits)
suits_moment unit name (Some (text_datum _)) z suits is = none_is_some is
suits_moment unit name (Some (truth_datum _)) z suits is = none_is_some is
suits_moment unit name (Some (number_datum _)) z suits is = none_is_some is
suits_moment unit name (Some (span_datum _)) z suits is = none_is_some is

-- ---- a state of the unit

module _ (unit : Unit) (s : StateView) (own : IsStateOf unit s) where
  -- A cell of the state is one of the run.
  stands : (name : CellName) (slot : ℕ) → slot_in s.layout (length s.rows) name ≡ Some slot
      → Contains (all_cells unit (length (run_of s).persons)) name
  stands name slot at =
      let laid : cells_in s.layout (length s.rows) ≡ all_cells unit (length s.rows) = ap (λ (layout : Layout). cells_in layout (length s.rows)) own.layout ∙ cells_laid unit (length s.rows) in
      let inside = in_stands (cells_in s.layout (length s.rows)) slot name (stands_at s.layout (length s.rows) slot name at) in
      subst (λ n. Contains (all_cells unit n) name) (sym (persons_counted s))
      (contains_from_in (all_cells unit (length s.rows)) name (subst (λ (cells : List CellName). IsIn cells name) laid inside))

  module _ (sound : IsSoundRun unit (run_of s)) where
    -- A value that is seen suits its cell.
    value_suits : (name : CellName) (value : Datum) → (seen_of s).value name ≡ Some value
        → suits_cell unit name (Some value) ≡ true
    value_suits name value is = by (slot_in s.layout (length s.rows) name) refl is
      where
        by : (slot : Option ℕ) → slot_in s.layout (length s.rows) name ≡ slot
            → (slot >>= seen_in_slot s name) ≡ Some value → suits_cell unit name (Some value) ≡ true
        by None at some = none_is_some some
        by (Some slot) at some =
            ap (suits_cell unit name) (sym is ∙ ap (λ (seen : Seen). seen.value name) (seen_same unit s own))
            ∙ sound.seen.values name (stands name slot at)

    -- A moment in a cell has a text.
    pub has_moments : HasMoments (seen_of s).value
    has_moments name z is = by ((seen_of s).value name) refl is
      where
        by : (value : Option Datum) → (seen_of s).value name ≡ value → moment_of_value value ≡ Some z → IsMoment z
        by None seen moment = none_is_some moment
        by (Some value) seen moment = suits_moment unit name (Some value) z (value_suits name value seen) moment

    -- The value of a cell can be printed.
    pub value_printable : (name : CellName) (value : Option Datum) → value ≡ (seen_of s).value name → IfSome value HasText
    value_printable name None is = tt
    value_printable name (Some value) is = suits_printable unit name value (value_suits name value (sym is))

-- ---- what a tree costs

-- The looks of a tree of a state are those of a tree of its run.
pub tree_costs : (unit : Unit) (s : StateView) → IsStateOf unit s → (one : Unit) (view : StateView) → one ≡ unit → view ≡ s
    → (p before after : ℕ) → after ≤ before + length (tree_looks one (seen_of view) p)
    → after ≤ before + length (tree_looks unit (seen_in unit (run_of s)) p)
tree_costs unit s own one view same_unit same_view p before after cost =
    let looks = ap₂ (λ (u : Unit) (seen : Seen). length (tree_looks u seen p)) same_unit (ap seen_of same_view ∙ seen_same unit s own) in
    omega (arith, cost, looks)
