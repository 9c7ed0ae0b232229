-- What a reader sees of a run: the slots of its cells, its persons, and who is a member of a role.
use Rattle.std.proofs.Common.{◌≡◌, ℕ, ◌+◌, ◌<◌, ◌≤◌, List, [], ◌∷◌, ◌++◌, drop, flat_map, fold, get_or, length, length-append, map, Option, Some, None, Result, Ok, Err, OnErr, OnOk, sym, ap, subst, ◌∙◌, arith}
use Rattle.std.proofs.lemmas.List.{length-map}
use Rattle.std.specs.List.{cons_option}
use Rattle.ld_graph.specs.Slots.{Slots}
use Rattle.ld_model.specs.Expressions.{TestOf, tests_from}
use Rattle.ld_model.specs.declared.cell.CellName.{CellName}
use Rattle.ld_model.specs.declared.cell.CellName.TheVariants.{Roster}
use Rattle.ld_model.specs.declared.cell.Owner.{Owner}
use Rattle.ld_model.specs.declared.unit.Unit.{Unit}
use Rattle.ld_names.specs.Names.{role_number}
use Rattle.ld_expr.proofs.Totals.{from_here}
use Rattle.ld_expr.specs.Looks.{members_looks, test_looks, tests_looks}
use Rattle.ld_expr.specs.Lookup.{list_from}
use Rattle.ld_expr.specs.Membership.{is_member, members, members_of}
use Rattle.ld_expr.specs.Seen.{Seen, everyone, member_cell, says_yes}
use Rattle.ld_state.specs.Layout.{slot_in}
use Rattle.ld_state.specs.RunCells.{slot_of}
use Rattle.ld_state.specs.RunState.{seen_in}
use Rattle.ld_state.specs.StateView.{StateView, IsStateOf, run_of, seen_of}
use Rattle.ld_state.proofs.SeenSame.{persons_counted, seen_same}
use Rattle.ld_firing.proofs.SlotsThere.{slot_same}
use Rattle.ld_settling.specs.Gathering.{FallsShort, Gathers, with_cells, with_slot}

pub on_ok : {T E P Q : Type 0} → (result : Result T E) → (P → Q) → OnOk result P → OnOk result Q
on_ok (Ok value) gives told = gives told
on_ok (Err error) gives told = told

pub on_err : {T E P Q : Type 0} → (result : Result T E) → (P → Q) → OnErr result P → OnErr result Q
on_err (Ok value) gives told = told
on_err (Err error) gives told = gives told

-- What is true in any case is true where there is an error.
pub so_err : {T E P : Type 0} → (result : Result T E) → P → OnErr result P
so_err (Ok value) told = tt
so_err (Err error) told = told

-- The cells at which the tests from this one on look.
pub tests_counted : (unit : Unit) (seen : Seen) (owner : Owner) (tests : List TestOf) (i : ℕ) (test : TestOf)
    → i < length tests → test ≡ get_or tests i test
    → length (tests_looks unit seen owner (tests_from (drop i tests))) ≡ length (test_looks unit seen owner test) + length (tests_looks unit seen owner (tests_from (drop (i + 1) tests)))
tests_counted unit seen owner tests i test within is =
    ap (λ rest. length (tests_looks unit seen owner (tests_from rest))) (from_here tests i test within is)
    ∙ length-append (test_looks unit seen owner test) (tests_looks unit seen owner (tests_from (drop (i + 1) tests)))

-- Whoever asks each person once, and takes what the members' cells allow, stays within the cells of all.
pub users_within : (unit : Unit) (seen : Seen) (role : List ℕ) (looks : ℕ → List CellName) (r new start : ℕ)
    → Some r ≡ role_number unit role
    → new ≤ start + (length (everyone seen) + length (flat_map looks (members seen r)))
    → new ≤ start + length (members_looks unit seen role ++ flat_map looks (members_of unit seen role))
users_within unit seen role looks r new start is within =
    let cells = map (member_cell r) (everyone seen) in
    let more = flat_map looks (members seen r) in
    subst
    (λ number. new ≤ start + length ((Roster ∷ list_from (λ n. map (member_cell n) (everyone seen)) number) ++ flat_map looks (list_from (members seen) number)))
    is
    (omega (arith, within, length-append cells more, length-map (everyone seen) (member_cell r)))

module _ (unit : Unit) (state : StateView) (own : IsStateOf unit state) where
  module _ (cell : CellName) where
    slot_is : slot_of unit (length (run_of state).persons) cell ≡ slot_in state.layout (length state.rows) cell
    slot_is = ap (λ n. slot_of unit n cell) (persons_counted state) ∙ sym (slot_same unit state own cell)

    cells_are : (found : Option ℕ) → found ≡ slot_in state.layout (length state.rows) cell → (slots : List ℕ)
        → with_cells unit (run_of state) slots (cell ∷ []) ≡ fold with_slot slots (cons_option found [])
    cells_are found is slots = ap (λ one. fold with_slot slots (cons_option one [])) (slot_is ∙ sym is)

    -- There is no such cell, and nothing to gather.
    pub gathers_none : None ≡ slot_in state.layout (length state.rows) cell → (list : Slots)
        → Gathers unit (run_of state) (cell ∷ []) list list
    gathers_none is list = record { items = sym (cells_are None is list.items); room = omega arith }

    pub gathers_one : (slot : ℕ) → Some slot ≡ slot_in state.layout (length state.rows) cell
        → {old new : Slots} → new.items ≡ with_slot old.items slot → old.room ≤ new.room
        → Gathers unit (run_of state) (cell ∷ []) old new
    gathers_one slot is {old} put room = record { items = put ∙ sym (cells_are (Some slot) is old.items); room = room }

    pub short_one : (slot : ℕ) → Some slot ≡ slot_in state.layout (length state.rows) cell → (old : Slots)
        → old.room < length (with_slot old.items slot) → FallsShort unit (run_of state) (cell ∷ []) old
    short_one slot is old short = omega (arith, short, ap length (cells_are (Some slot) is old.items))

  pub member_seen : (r p : ℕ)
      → says_yes ((seen_of state).value (member_cell r p)) ≡ is_member (seen_in unit (run_of state)) r p
  member_seen r p = ap (λ (seen : Seen). is_member seen r p) (seen_same unit state own)
