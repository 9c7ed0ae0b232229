use Rattle.std.proofs.Common.{◌≡◌, ◌++◌, ◌+◌, ◌<◌, ◌∙◌, sym, ap, drop, length, append_assoc, arith}
use Rattle.ld_globals.specs.Kept.{pairs_of}
use Rattle.ld_world.specs.Declaring.{pairs_at, pairs_by}
use Rattle.ld_world.proofs.PropertyWalk.{pairs_from}
use Rattle.ld_world.proofs.declarations.declarations_of.Goals as goal

pub loop-n-preserved : goal.loop-n-preserved
loop-n-preserved c =
    let properties = c.args.unit.now.properties in
    let n = c.loop-n.n in
    let within : n < length properties = grind (arith, c.loop-n-test.true, c.len-count.ensures, c.unit.ensures.unit) in
    let pushed : pairs_of c.push_declaration.new.list ≡ pairs_of c.loop-n.list ++ pairs_at properties n = c.in_ok-push_declaration.ensures ∙ ap (λ m. pairs_of c.loop-n.list ++ pairs_at properties m) c.in_ok-number.ensures.number in
    ap (λ pairs. pairs ++ pairs_by (drop (n + 1) properties)) pushed
    ∙ append_assoc (pairs_of c.loop-n.list) (pairs_at properties n) (pairs_by (drop (n + 1) properties))
    ∙ ap (λ rest. pairs_of c.loop-n.list ++ rest) (sym (pairs_from properties n within))
    ∙ c.loop-n.invariant
