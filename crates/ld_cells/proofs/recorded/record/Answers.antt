use Rattle.std.proofs.Common.{◌≡◌, ◌<◌, ◌∙◌, None, arith, length, get_or, refl}
use Rattle.std.proofs.lemmas.List.{get_or_read}
use Rattle.ld_cells.proofs.Backwards.{cells_of-set, before-record}
use Rattle.ld_cells.proofs.recorded.record.Goals as goal

pub returns-clause-cells : goal.returns-clause-cells
returns-clause-cells c = rw c.replace-before.ensures.after (cells_of-set _ _ _)

pub returns-clause-kept : goal.returns-clause-kept
returns-clause-kept c = λ count within.
    let below : c.args.slot < length c.args.values.now.items = omega arith in
    let there : c.replace-before.result ≡ get_or c.args.values.now.items c.args.slot None =
    c.replace-before.ensures.value ∙ get_or_read _ _ _ below c.index_mut.ensures.value None in
    rw (c.in-Ok.ensures.items, c.reserve.ensures.items, c.replace-before.ensures.after, there)
    (before-record c.args.changes.now.items c.args.values.now.items c.args.slot count c.args.value _ refl below within)
