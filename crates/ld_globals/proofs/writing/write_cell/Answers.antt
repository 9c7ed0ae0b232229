use Rattle.std.proofs.Common.{◌≡◌, ◌<◌, Some, IfSome, sym, subst, arith}
use Rattle.indexmap.specs.Layout.{length-set_value_at}
use Rattle.ld_globals.specs.Kept.{slot_of_key}
use Rattle.ld_globals.proofs.Written.{cell-set, slot-within}
use Rattle.ld_globals.proofs.writing.write_cell.Goals as goal

pub returns-in-Some-clause-entries : goal.returns-in-Some-clause-entries
returns-in-Some-clause-entries c =
    let at = subst (λ o. IfSome o (λ s. slot_of_key c.args.cells.now.entries c.args.number.uri (Some c.args.number.person) ≡ Some s)) c.in-Some.is c.requires.slot in
    cell-set c.args.cells.now.entries c.args.number c.in-Some.slot at c.args.cell

pub returns-in-Some-clause-within : goal.returns-in-Some-clause-within
returns-in-Some-clause-within c =
    let at = subst (λ o. IfSome o (λ s. slot_of_key c.args.cells.now.entries c.args.number.uri (Some c.args.number.person) ≡ Some s)) c.in-Some.is c.requires.slot in
    subst (λ n. c.in-Some.slot < n) (sym (length-set_value_at c.args.cells.now.entries c.in-Some.slot c.args.cell)) (slot-within c.args.cells.now.entries c.args.number c.in-Some.slot at)

pub returns-in-Some-clause-count : goal.returns-in-Some-clause-count
returns-in-Some-clause-count c = let same = length-set_value_at c.args.cells.now.entries c.in-Some.slot c.args.cell in omega (arith, same)
