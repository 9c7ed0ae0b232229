use Rattle.std.proofs.lemmas.List.{take_rest}
use Rattle.ld_lines.proofs.Feeds.{FeedAt-none, FeedAt-some}
use Rattle.ld_lines.proofs.reader.find_feed.Goals as goal

pub returns-in-Some : goal.returns-in-Some
returns-in-Some c =
    FeedAt-some c.args.bytes.now c.args.seen c.in-Some.at c.requires.clear c.requires.within
    (rw (take_rest c.args.bytes.now c.args.seen) at c.in-Some.ensures)

pub returns-in-None : goal.returns-in-None
returns-in-None c =
    FeedAt-none c.args.bytes.now c.args.seen c.requires.clear
    (rw (take_rest c.args.bytes.now c.args.seen) at c.in-None.ensures)
