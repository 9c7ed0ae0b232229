use Rattle.std.proofs.Common.{rules, arith, ◌≡◌, ◌∷◌, subst}
use Rattle.ld_graph.specs.Words.{lowest, AreLevels, Marks}
use Rattle.ld_graph.proofs.Marking.{marks_before, marks_more, marks_same, some_levels}
use Rattle.ld_graph.proofs.levels.+grow.Goals as goal
use Rattle.ld_graph.proofs.levels.+grow.Goals.{then-are_to_mark+in_ok-grow, else-are_to_mark}

pub returns-in_err-grow-clause-levels : goal.returns-in_err-grow-clause-levels
returns-in_err-grow-clause-levels t c =
    let first : c.args.levels.now ≡ c.in-Some.lower.now ∷ c.in-Some.above.now = search rules in
    let here : AreLevels (c.in-Some.lower.now ∷ c.in-Some.above.now) = subst AreLevels first c.requires.levels in
    let m : Marks c.in-Some.lower.now (lowest c.in-Some.above.now) = marks_before here.1 (c.are_to_mark.ensures.yes c.if-are_to_mark.true) in (
      here.0,
      λ _. marks_more m c.grow.ensures.len c.grow.ensures.same,
      c.grow.ensures.levels,
    )

pub returns-clause-levels : goal.returns-clause-levels
returns-clause-levels t c =
    let first : c.args.levels.now ≡ c.in-Some.lower.now ∷ c.in-Some.above.now = search rules in
    let here : AreLevels (c.in-Some.lower.now ∷ c.in-Some.above.now) = subst AreLevels first c.requires.levels in
    let most = c.grow-2.ensures.most in
    let fits = c.requires.fits in
    let short = here.0 in
    elim c.if-are_to_mark.branch [
      | then-are_to_mark+in_ok-grow w ↦
          let m : Marks c.in-Some.lower.now (lowest c.in-Some.above.now) = marks_before here.1 (c.are_to_mark.ensures.yes w.if-are_to_mark.true) in
          let long = w.grow.ensures.len in
          let count = w.grow.ensures.count in
          rw w.above-is (
            omega arith,
            λ some.
                let there = some_levels w.grow.new.levels some in
                let enough = w.in_ok-grow.ensures.ok (omega arith) in
                let covers = m.covers in
                marks_same m (omega arith) c.grow-2.ensures.same w.grow.ensures.same,
            w.grow.ensures.levels,
          )
      | else-are_to_mark w ↦
          let none = c.are_to_mark.ensures.no w.if-are_to_mark.false in
          rw w.above-is (omega arith, λ some. absurd (omega arith), here.2)
    ]
