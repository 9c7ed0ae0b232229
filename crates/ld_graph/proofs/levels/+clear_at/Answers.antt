use Rattle.std.proofs.Common.{rules, arith, ◌≡◌, ◌∷◌, subst}
use Rattle.ld_graph.specs.Words.{AreLevels}
use Rattle.ld_graph.proofs.Marking.{marks_kept}
use Rattle.ld_graph.proofs.levels.+clear_at.Goals as goal

pub returns-then-not-zero-clause-levels : goal.returns-then-not-zero-clause-levels
returns-then-not-zero-clause-levels t c =
    let first : c.args.levels.now ≡ c.in-Some.lower.now ∷ c.in-Some.above.now = search rules in
    let here : AreLevels (c.in-Some.lower.now ∷ c.in-Some.above.now) = subst AreLevels first c.requires.levels in
    let len = c.clear-zero.ensures.len in (
      let fits = here.0 in omega arith,
      λ some. marks_kept c.args.at (here.1 some) len c.clear-zero.ensures.own c.clear-zero.ensures.others (c.clear-zero.ensures.full (search rules)),
      here.2,
    )

pub returns-clause-none : goal.returns-clause-none
returns-clause-none t c none n = c.is_zero.ensures (search rules) n
