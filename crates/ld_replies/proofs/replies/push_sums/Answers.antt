use Rattle.std.proofs.Common.{rules, ◌≡◌}
use Rattle.std.specs.Fmt.{digits}
use Rattle.ld_replies.proofs.replies.push_sums.Goals as goal

pub returns-then-totals-eq0-4-clause-text : goal.returns-then-totals-eq0-4-clause-text
unfolding digits
returns-then-totals-eq0-4-clause-text c =
    let turns : c.args.totals.turns ≡ 0 = search rules in
    let fired : c.args.totals.fired ≡ 0 = search rules in
    let rejected : c.args.totals.rejected ≡ 0 = search rules in
    let sent : c.args.totals.sent ≡ 0 = search rules in
    rw (turns, fired, rejected, sent) c.push.ensures.ok
