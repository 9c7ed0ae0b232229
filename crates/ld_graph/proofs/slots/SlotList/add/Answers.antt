use Rattle.std.proofs.Common.{rules, arith, ◌≡◌, ◌<◌, [], ◌∷◌, ◌++◌, length, sym}
use Rattle.std.proofs.lemmas.List.{get_or_read, length-set, length_push}
use Rattle.ld_graph.proofs.Bucketed.{indexed_push}
use Rattle.ld_graph.proofs.slots.SlotList.add.Goals as goal

pub invariant_of-self : goal.invariant_of-self
invariant_of-self c =
    let slots : c.push.new.self.items ≡ c.self.inside.slots.items ++ c.args.slot ∷ [] = search rules in
    let before : c.push-2.new.self.items ≡ c.self.inside.before.items ++ c.index-last.result.now ∷ [] = search rules in
    let w = c.self.invariant.within in
    let s = c.self.invariant.slots_within in
    let b = c.self.invariant.before_within in
    let short : length c.self.inside.slots.items < c.self.inside.room = search rules in
    let items : c.self.inside.slots.items ≡ c.args.self.now.items = search rules in
    let below : c.bucket_of-bucket.result < length c.self.inside.heads.items = search rules in
    let grown = c.push.ensures.capacity in
    let grown_too = c.push-2.ensures.capacity in
    record {
      indexed = rw (slots, before) (indexed_push c.self.invariant.indexed c.args.slot c.bucket_of-bucket.result (search rules) below
          (rw items c.requires.new) c.index-last.result.now c.len-2.result
          (sym (get_or_read c.self.inside.heads.items c.bucket_of-bucket.result c.index-last.result.now below (search rules) 0)) (search rules));
      fits = c.self.invariant.fits;
      within = rw slots (let e = length_push c.self.inside.slots.items c.args.slot in omega arith);
      buckets = λ _. rw (length-set c.self.inside.heads.items c.bucket_of-bucket.result c.len-2.result) (omega arith);
      slots_within = omega arith;
      before_within = omega arith;
    }
