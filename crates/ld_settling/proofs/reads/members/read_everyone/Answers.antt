use Rattle.std.proofs.Common.{◌+◌, ◌-◌, [], ◌∷◌, map}
use Rattle.std.specs.List.{range_with_len}
use Rattle.ld_expr.specs.Seen.{member_cell}
use Rattle.ld_settling.proofs.Gathered.{falls_short, gathers_on, next_cell}
use Rattle.ld_settling.proofs.Reading.{so_err}
use Rattle.ld_settling.proofs.reads.members.read_everyone.Goals as goal

pub returns-in_err-put-clause-short : goal.returns-in_err-put-clause-short
returns-in_err-put-clause-short c =
    let cell = member_cell c.args.role.0 in
    let i = c.loop-number.number in
    let end = c.persons-number-end.result in
    so_err c.from_residual.result
    (falls_short (cell i ∷ []) (map cell (range_with_len (i + 1) (end - (i + 1)))) c.loop-number.invariant
    (next_cell cell i end c.loop-number-test.true) c.in_err-put.ensures.short)

pub loop-number-preserved : goal.loop-number-preserved
loop-number-preserved c =
    let cell = member_cell c.args.role.0 in
    let i = c.loop-number.number in
    let end = c.persons-number-end.result in
    gathers_on (cell i ∷ []) (map cell (range_with_len (i + 1) (end - (i + 1)))) c.loop-number.invariant
    (next_cell cell i end c.loop-number-test.true) c.in_ok-put.ensures.gathers
