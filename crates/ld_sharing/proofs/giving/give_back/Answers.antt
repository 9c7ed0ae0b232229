use Rattle.std.proofs.Common.{◌≡◌, ◌≤◌, ◌∷◌, ap, subst, ◌∙◌, length, fold, sym, arith}
use Rattle.std.specs.List.{AllByRecursion}
use Rattle.std.specs.Vec.Iter.{into_iter_items}
use Rattle.ld_sharing.specs.StoreView.{values_of}
use Rattle.ld_sharing.specs.Writes.{IsWritableTo, written_by}
use Rattle.ld_sharing.proofs.GivingStores.{keeps_on}
use Rattle.ld_sharing.proofs.GivingWrites.{put_keeps_declared, put_leaves_writable, put_takes_room, put_values}
use Rattle.ld_sharing.proofs.giving.give_back.Goals as goal

pub loop-write-preserved : goal.loop-write-preserved
loop-write-preserved c =
    let old = c.loop-write.globals in
    let new = c.put.new.self in
    let write = c.in-Some.write in
    let rest = into_iter_items c.next.new.self in
    let inv = c.loop-write.invariant in
    let next : into_iter_items c.loop-write.write-iterator ≡ write ∷ rest = c.in-Some.ensures.steps.0 in
    let room : length (write ∷ rest) ≤ old.spare = subst (λ items. length items ≤ old.spare) next inv.room in
    let taken = put_takes_room old new write c.put.ensures.put in
    let declared = put_keeps_declared old new write c.put.ensures.put in
    record {
      iterated = inv.iterated;
      room = omega (arith, room, taken);
      writable = put_leaves_writable old new write c.put.ensures.put rest (subst (AllByRecursion (IsWritableTo old)) next inv.writable).1;
      given = ap (λ values. fold written_by values rest) (put_values old new write c.put.ensures.put)
          ∙ ap (fold written_by (values_of old)) (sym next) ∙ inv.given;
      declared = declared ∙ inv.declared;
      kept = keeps_on c.args.globals.now old new inv.declared inv.kept c.put.ensures.kept;
    }
