use Rattle.std.proofs.Common.{◌∙◌, ap, Some, sym, refl, arith}
use Rattle.std.proofs.lemmas.Option.{slice_get-get_or}
use Rattle.ld_globals.proofs.Pairs.{first-to-differ, taken-on}
use Rattle.ld_globals.proofs.declaring.first_to_differ.Goals as goal

pub returns-then-differs-clause-some : goal.returns-then-differs-clause-some
returns-then-differs-clause-some c =
    let p = c.index-pairs-place.result in
    let there = slice_get-get_or c.args.pairs.now c.loop-place.place p c.loop-place-test.true ∙ ap Some (sym c.index-pairs-place.is) in
    first-to-differ c.args.declared.now.entries c.args.pairs.now c.loop-place.place p.0 p.1 there (c.if-differs.ensures.yes refl) c.loop-place.invariant.1

pub loop-place-preserved : goal.loop-place-preserved
loop-place-preserved c =
    let p = c.index-pairs-place.result in
    let within = c.loop-place-test.true in
    let there = slice_get-get_or c.args.pairs.now c.loop-place.place p within ∙ ap Some (sym c.index-pairs-place.is) in
    (omega (arith, within), taken-on c.args.declared.now.entries c.args.pairs.now c.loop-place.place p.0 p.1 there (c.if-differs.ensures.no refl) c.loop-place.invariant.1)
