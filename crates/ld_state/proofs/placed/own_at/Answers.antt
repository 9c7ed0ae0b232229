use Rattle.std.proofs.Common.{◌≡◌, ◌∙◌, ap, sym, Some, arith, length, ◌*◌, ◌≤◌}
use Rattle.ld_state.proofs.SlotCells.{no_length, none_past, own_stands, past_last, some_length}
use Rattle.ld_state.proofs.placed.own_at.Goals as goal

pub returns-then-is_empty : goal.returns-then-is_empty
returns-then-is_empty c =
    let own = c.args.own.now in
    let none : length own ≡ 0 = no_length own (sym c.is_empty.ensures ∙ c.if-is_empty.true) in
    none_past own c.args.persons c.args.place (omega (arith, ap (λ n. c.args.persons * n) none))

pub returns-then-persons-person : goal.returns-then-persons-person
returns-then-persons-person c =
    let own = c.args.own.now in
    none_past own c.args.persons c.args.place (past_last own c.args.persons c.args.place c.if-persons-person.true)

pub returns : goal.returns
returns c =
    let own = c.args.own.now in
    ap Some c.cell_for.ensures
    ∙ own_stands own c.args.persons c.args.place _ (some_length own (sym c.is_empty.ensures ∙ c.if-is_empty.false))
    c.if-persons-person.false
