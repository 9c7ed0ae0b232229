use Rattle.std.proofs.Common.{◌∙◌, arith}
use Rattle.ld_lines.proofs.Cuts.{Passing-more, Passing-cut}
use Rattle.ld_lines.proofs.reader.Reader.pass_rest.Goals as goal

pub returns-in-Some-clause-cuts : goal.returns-in-Some-clause-cuts
returns-in-Some-clause-cuts g c =
    let cleared = c.clear.ensures in
    Passing-cut c.loop-count.invariant.0 cleared.held cleared.taken cleared.ended c.fetch.ensures.fetches
    c.in-Some.at c.cut.new.self.reading c.in-Some.ensures c.cut.ensures.held c.cut.ensures.taken c.cut.ensures.ended

pub loop-count-preserved : goal.loop-count-preserved
loop-count-preserved g c =
    let cleared = c.clear.ensures in
    let passing = c.loop-count.invariant.0 in (
      Passing-more passing cleared.held cleared.taken cleared.ended c.fetch.ensures.fetches c.in_default.ensures,
      omega (arith, c.loop-count.invariant.1, c.fetch.ensures.counts),
      λ full. c.fetch.ensures.after_limit (omega (arith, passing.takes.counted, c.in_ok-count.ensures.count)) ∙ c.loop-count.invariant.2 full,
    )
