use Rattle.std.proofs.Common.{nat_eq, take, ◌∷◌, ◌-◌, ◌∙◌, ap, length}
use Rattle.std.specs.Map.{remove_entry}
use Rattle.ld_globals.proofs.Recent.{length-remove, others-left, put-there}
use Rattle.ld_globals.proofs.recency.use_slot.Goals as goal

pub returns-clause-slots : goal.returns-clause-slots
returns-clause-slots c = let there = put-there c.args.slot c.args.number c.args.cache.now.entries ((c.args.slot, c.args.number) ∷ take (c.args.cache.now.cap - 1) c.args.cache.now.entries) (remove_entry (nat_eq c.args.slot) c.args.cache.now.entries) c.requires in
    rw (c.in-Ok.ensures.entries) there

pub returns-clause-others : goal.returns-clause-others
returns-clause-others c = others-left c.args.slot c.args.cache.now.entries c.len-count.ensures.valid.0

pub returns-clause-count : goal.returns-clause-count
returns-clause-count c = ap length (returns-clause-slots c) ∙ length-remove (nat_eq c.args.slot) c.args.cache.now.entries c.requires
