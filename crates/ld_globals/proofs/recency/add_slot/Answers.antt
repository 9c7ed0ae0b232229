use Rattle.std.proofs.Common.{length, ◌-◌, arith, sym, subst}
use Rattle.ld_globals.specs.Recent.{IsRecency}
use Rattle.ld_globals.proofs.Recent.{slot-put, slot-last, grown-recency}
use Rattle.ld_globals.proofs.recency.add_slot.Goals as goal

pub returns-clause-ok : goal.returns-clause-ok
returns-clause-ok c =
    let es = c.args.cache.now.entries in
    let n = length es in
    let len = c.len-slot.ensures.len in
    let fits = c.len-slot.ensures.fits in
    let put = slot-put n (c.args.cache.now.cap - 1) es c.requires.slots.0 (rw (c.requires.cap) (omega (arith, len, fits))) in
    rw (c.demote.ensures.entries, c.in_ok-put.ensures.entries, len, put) (slot-last n es)

pub returns-clause-slots : goal.returns-clause-slots
returns-clause-slots c = subst IsRecency (sym (returns-clause-ok c)) (grown-recency c.args.cache.now.entries c.requires.slots)
