use Rattle.std.proofs.Common.{arith, sym, ◌∙◌, inl, inr}
use Rattle.std.proofs.lemmas.Bool.{cases_lt}
use Rattle.ld_cascade_tests.specs.Lamps.{lamps_of, is_sound}
use Rattle.ld_cascade_tests.proofs.tests.link_lamps.Goals as goal

pub returns-clause-tidy : goal.returns-clause-tidy
returns-clause-tidy c =
    let v = c.loop-site.invariant in
    c.begins_tidy.ensures (lamps_of c.args.row.now) c.loop-site.links (is_sound c.args.row.now)
    (λ i below. v.1 i (omega arith)) v.0

pub returns-clause-bound : goal.returns-clause-bound
returns-clause-bound c =
    let v = c.loop-site.invariant in
    c.begins_bound.ensures (lamps_of c.args.row.now) c.loop-site.links (is_sound c.args.row.now)
    (λ i below. v.1 i (omega arith))
    (λ i. elim (cases_lt i c.loop-site.site) [
      | inl below ↦ v.3 i below ∙ sym (v.1 i below)
      | inr past ↦ v.4 i past ∙ sym (v.2 i past)
    ])
    v.0
