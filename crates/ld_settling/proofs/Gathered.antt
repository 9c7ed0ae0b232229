-- Cells whose slots are gathered one after another.
use Rattle.std.proofs.Common.{◌≡◌, ℕ, suc, ◌+◌, ◌-◌, ◌<◌, ◌≤◌, List, [], ◌∷◌, ◌++◌, flat_map, filter, fold, length, length-append, map, Contains, Bool, true, false, cond, nat_eq, refl, sym, ap, ◌∙◌, arith}
use Rattle.std.proofs.lemmas.List.Elements.{filter_map-append}
use Rattle.std.proofs.lemmas.List.Sums.{fold-append}
use Rattle.std.specs.List.{range_with_len}
use Rattle.std.specs.Set.{distinct_count}
use Rattle.ld_graph.specs.Slots.{Slots}
use Rattle.ld_model.specs.declared.cell.CellName.{CellName}
use Rattle.ld_model.specs.declared.unit.Unit.{Unit}
use Rattle.ld_state.specs.RunCells.{slot_of}
use Rattle.ld_state.specs.RunState.{RunState}
use Rattle.ld_firing.specs.RunSystem.{slots_named}
use Rattle.ld_settling.specs.Gathering.{FallsShort, Gathers, cells_if, with_cells, with_slot}
use Rattle.ld_settling.proofs.SlotSets.{grows, slots_all, slots_count, slots_only}

module _ (unit : Unit) (s : RunState) where
  cells_both : (slots : List ℕ) (xs ys : List CellName)
      → with_cells unit s slots (xs ++ ys) ≡ with_cells unit s (with_cells unit s slots xs) ys
  cells_both slots xs ys =
      ap (fold with_slot slots) (filter_map-append (slot_of unit (length s.persons)) xs ys)
      ∙ fold-append with_slot slots (slots_named unit s xs) (slots_named unit s ys)

  -- The list never gets shorter.
  cells_grow : (slots : List ℕ) (cells : List CellName) → length slots ≤ length (with_cells unit s slots cells)
  cells_grow slots cells = grows slots (slots_named unit s cells)

  -- ---- one after another

  pub gathers_nothing : (list : Slots) → Gathers unit s [] list list
  gathers_nothing list = record { items = refl; room = omega arith }

  pub gathers_both : {xs ys : List CellName} {a b c : Slots} → Gathers unit s xs a b → Gathers unit s ys b c
      → Gathers unit s (xs ++ ys) a c
  gathers_both {xs} {ys} {a} {b} {c} first second = record {
    items =
        second.items ∙ ap (λ items. with_cells unit s items ys) first.items ∙ sym (cells_both a.items xs ys);
    room = omega (arith, first.room, second.room);
  }

  pub short_first : (xs ys : List CellName) (a : Slots) → FallsShort unit s xs a
      → FallsShort unit s (xs ++ ys) a
  short_first xs ys a short =
      omega (arith, short, cells_grow (with_cells unit s a.items xs) ys, ap length (cells_both a.items xs ys))

  pub short_then : (xs ys : List CellName) (a b : Slots) → Gathers unit s xs a b → FallsShort unit s ys b
      → FallsShort unit s (xs ++ ys) a
  short_then xs ys a b first short =
      let same = ap (λ items. length (with_cells unit s items ys)) first.items in
      omega (arith, short, first.room, same, ap length (cells_both a.items xs ys))

-- ---- in a loop

-- The slots of all cells are those of the list now, and of the rest of the cells.
pub record Remaining (unit : Unit) (s : RunState) (whole rest : List CellName) (start now : Slots) : Type 0 where
  pub items : with_cells unit s now.items rest ≡ with_cells unit s start.items whole
  pub room : start.room ≤ now.room

pub gathers_on : {unit : Unit} {s : RunState} {whole rest : List CellName} {start now next : Slots}
    (first more : List CellName) → Remaining unit s whole rest start now → rest ≡ first ++ more
    → Gathers unit s first now next → Remaining unit s whole more start next
gathers_on {unit} {s} {whole} {rest} {start} {now} {next} first more before is one = record {
  items =
      ap (λ items. with_cells unit s items more) one.items
      ∙ sym (cells_both unit s now.items first more)
      ∙ ap (with_cells unit s now.items) (sym is)
      ∙ before.items;
  room = omega (arith, before.room, one.room);
}

pub falls_short : {unit : Unit} {s : RunState} {whole rest : List CellName} {start now : Slots}
    (first more : List CellName) → Remaining unit s whole rest start now → rest ≡ first ++ more
    → FallsShort unit s first now → FallsShort unit s whole start
falls_short {unit} {s} {whole} {rest} {start} {now} first more before is short =
    let later = short_first unit s first more now short in
    let all = ap (λ cells. length (with_cells unit s now.items cells)) is in
    omega (arith, later, all, ap length before.items, before.room)

-- ---- members

-- What is gathered of those among the persons who are members.
abbrev pub of_members : (ℕ → List CellName) → (ℕ → Bool) → List ℕ → List CellName
of_members looks member persons = flat_map looks (filter member persons)

pub first_member : (looks : ℕ → List CellName) (member : ℕ → Bool) (p : ℕ) (more : List ℕ)
    → of_members looks member (p ∷ more) ≡ cells_if (member p) (looks p) ++ of_members looks member more
first_member looks member p more = by (member p)
  where
    by : (b : Bool) → flat_map looks (cond b (p ∷ filter member more) (filter member more)) ≡ cells_if b (looks p) ++ of_members looks member more
    by true = refl
    by false = refl

-- Below the end the next number comes first; from the end on there is none.
pub range_more : (i end : ℕ) → i < end
    → range_with_len i (end - i) ≡ i ∷ range_with_len (i + 1) (end - (i + 1))
range_more i end below =
    let one : end - i ≡ suc (end - (i + 1)) = omega arith in
    rw one refl

pub range_none : (i end : ℕ) → end ≤ i → range_with_len i (end - i) ≡ []
range_none i end past =
    let none : end - i ≡ 0 = omega arith in
    rw none refl

-- The persons from this one on.
pub next_member : (looks : ℕ → List CellName) (member : ℕ → Bool) (i end : ℕ) → i < end
    → of_members looks member (range_with_len i (end - i)) ≡ cells_if (member i) (looks i) ++ of_members looks member (range_with_len (i + 1) (end - (i + 1)))
next_member looks member i end below =
    ap (of_members looks member) (range_more i end below)
    ∙ first_member looks member i (range_with_len (i + 1) (end - (i + 1)))

pub no_member : (looks : ℕ → List CellName) (member : ℕ → Bool) (i end : ℕ) → end ≤ i
    → of_members looks member (range_with_len i (end - i)) ≡ []
no_member looks member i end past = ap (of_members looks member) (range_none i end past)

pub range_counted : (i end : ℕ) → i < end
    → length (range_with_len i (end - i)) ≡ suc (length (range_with_len (i + 1) (end - (i + 1))))
range_counted i end below = ap length (range_more i end below)

pub members_counted : (looks : ℕ → List CellName) (member : ℕ → Bool) (i end : ℕ) → i < end
    → length (of_members looks member (range_with_len i (end - i))) ≡ length (cells_if (member i) (looks i)) + length (of_members looks member (range_with_len (i + 1) (end - (i + 1))))
members_counted looks member i end below =
    ap length (next_member looks member i end below)
    ∙ length-append (cells_if (member i) (looks i)) (of_members looks member (range_with_len (i + 1) (end - (i + 1))))

pub next_cell : (cell : ℕ → CellName) (i end : ℕ) → i < end
    → map cell (range_with_len i (end - i)) ≡ cell i ∷ map cell (range_with_len (i + 1) (end - (i + 1)))
next_cell cell i end below = ap (map cell) (range_more i end below)

pub no_cell : (cell : ℕ → CellName) (i end : ℕ) → end ≤ i → map cell (range_with_len i (end - i)) ≡ []
no_cell cell i end past = ap (map cell) (range_none i end past)

-- ---- from an empty list on

module _ (unit : Unit) (s : RunState) (cells : List CellName) where
  pub gathered_named : (k : ℕ) → Contains (with_cells unit s [] cells) k → Contains (slots_named unit s cells) k
  gathered_named k there = slots_only (slots_named unit s cells) k there

  pub gathered_all : (k : ℕ) → Contains (slots_named unit s cells) k → Contains (with_cells unit s [] cells) k
  gathered_all k there = slots_all (slots_named unit s cells) k there

  pub gathered_count : length (with_cells unit s [] cells) ≡ distinct_count nat_eq (slots_named unit s cells)
  gathered_count = slots_count (slots_named unit s cells)
