use Rattle.std.proofs.Common.{rules, arith, ◌≡◌, ◌-◌, ◌<◌, length, sym, ◌∙◌}
use Rattle.std.proofs.lemmas.List.{get_or_read}
use Rattle.ld_graph.proofs.Bucketed.{found}
use Rattle.ld_graph.proofs.slots.SlotList.contains.Goals as goal

pub returns-then-index-slot-clause-yes : goal.returns-then-index-slot-clause-yes
returns-then-index-slot-clause-yes c _ =
    let items : c.self.inside.slots.items ≡ c.args.self.now.items = search rules in
    let w = c.bucket.invariant.within in
    let some = c.bucket-test.true in
    let here : c.bucket.link - 1 < length c.self.inside.slots.items = omega arith in
    rw (← items) (found c.self.inside.slots.items (c.bucket.link - 1) c.args.slot here
    (sym (get_or_read c.self.inside.slots.items (c.bucket.link - 1) c.index.result.now here (search rules) 0) ∙ search rules))
