use Rattle.std.proofs.Common.{◌≡◌, ◌∙◌, [], ◌<◌, ap, arith, drop, get_or, length, map, subst, suc, sym, IsOk}
use Rattle.ld_state.specs.StateView.{run_of}
use Rattle.ld_state.proofs.Elements.{different, nothing_first, nothing_later}
use Rattle.ld_sharing.specs.GivenValues.{given_by, other_in_slot, other_values}
use Rattle.ld_sharing.specs.StoreView.{values_of}
use Rattle.ld_sharing.proofs.PushedCells.{cut}
use Rattle.ld_sharing.proofs.giving.list_writes.Goals as goal

pub returns-in_err-push_slot-clause-idle : goal.returns-in_err-push_slot-clause-idle
returns-in_err-push_slot-clause-idle g c =
    let unit = c.args.unit.now in
    let s = run_of c.args.state.now in
    let values = values_of c.args.globals.now in
    let slots = c.args.changed.now in
    let i = c.loop-slot.slot-index in
    let before = map given_by c.loop-slot.writes.items in
    let within : i < length slots = omega (arith, c.loop-slot-test.true) in
    λ none.
    let rest : other_values values unit s (drop i slots) ≡ [] = nothing_later before (other_values values unit s (drop i slots)) (c.loop-slot.invariant.writes ∙ none) in
    let here = nothing_first (other_in_slot values unit s (get_or slots i 0)) (other_values values unit s (drop (suc i) slots))
    (sym (ap (other_values values unit s) (cut slots i 0 within)) ∙ rest) in
    different (sym (subst IsOk c.in_err-push_slot.was (c.push_slot.ensures.idle here)))
