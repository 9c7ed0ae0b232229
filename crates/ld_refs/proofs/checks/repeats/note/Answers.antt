use Rattle.ld_refs.proofs.Seen.{seen_added}
use Rattle.ld_refs.proofs.checks.repeats.note.Goals as goal

pub returns-clause-kept : goal.returns-clause-kept
returns-clause-kept c earlier seen = seen_added c.args.seen.now c.insert.new.self c.args.text earlier seen c.in_ok-insert.ensures.updates
