use Rattle.std.proofs.Common.{arith, ◌≡◌, ◌+◌, [], Some, Ok, Err, get_or, string_bytes, refl, sym, ap, ◌∙◌, subst}
use Rattle.ld_base.specs.Outside.{Files}
use Rattle.ld_json.specs.Fault.{told_by}
use Rattle.ld_world.specs.World.{WorldState, first_world}
use Rattle.ld_words.specs.Words.{words_of}
use Rattle.ld_top.proofs.Publishing.{PublishesFrom, publishes, publishes_all, added_at, refused_at}
use Rattle.ld_top.proofs.publish.publish_folders.Goals as goal

pub loop-index-init : goal.loop-index-init
loop-index-init g c =
    let folders = words_of c.args.folders.now in
    let none : c.new-world.result.units ≡ [] = ap (λ (w : WorldState). w.units) c.new-world.ensures in
    record {
      first = c.new-world.ensures ∙ ap first_world (sym none);
      published = λ files told result from. publishes files folders result (subst (λ units. PublishesFrom 1 units files folders result) none from);
      counts = omega arith;
      same = refl;
    }

pub returns-in-Err-Refused-clause-refused : goal.returns-in-Err-Refused-clause-refused
returns-in-Err-Refused-clause-refused g c =
    let name : c.as_str.result.now ≡ string_bytes (get_or c.args.folders.now c.loop-index.index c.index-folders-index.result) = c.as_str.ensures.value ∙ ap string_bytes c.index-folders-index.is in
    let refused = λ (files : Files) (told : g.H.Shelf.files c.loop-index.shelf ≡ Some files). rw (c.in-Err-Refused.field-0-is, name) at (c.in-Err-Refused.ensures.refused files told) in
    rw c.in-Err-Refused.field-0-is
    (λ files told. c.loop-index.invariant.published files told (Err (record { folder = c.loop-index.index + 1; fault = told_by c.in-Err-Refused.fault }))
    (refused_at files c.args.folders.now c.loop-index.index c.index-folders-index.result c.loop-index.world.units (told_by c.in-Err-Refused.fault) c.loop-index-test.true (refused files (c.loop-index.invariant.same ∙ told))))

pub loop-index-preserved : goal.loop-index-preserved
loop-index-preserved g c =
    let name : c.as_str.result.now ≡ string_bytes (get_or c.args.folders.now c.loop-index.index c.index-folders-index.result) = c.as_str.ensures.value ∙ ap string_bytes c.index-folders-index.is in
    let added = λ (files : Files) (told : g.H.Shelf.files c.loop-index.shelf ≡ Some files). rw name at (c.in-Ok.ensures.added files told) in
    record {
      first = c.publish_folder.ensures.first;
      published = λ files told result from. c.loop-index.invariant.published files told result
          (added_at files c.args.folders.now c.loop-index.index c.index-folders-index.result c.loop-index.world.units c.publish_folder.new.world.units result c.loop-index-test.true (added files (c.loop-index.invariant.same ∙ told)) from);
      counts = omega (arith, c.publish_folder.ensures.counts, c.loop-index.invariant.counts);
      same = c.publish_folder.ensures.same ∙ c.loop-index.invariant.same;
    }

pub returns-clause-published : goal.returns-clause-published
returns-clause-published g c =
    λ files told. c.loop-index.invariant.published files told (Ok c.loop-index.world.units) (publishes_all files c.args.folders.now c.loop-index.index c.loop-index.world.units c.loop-index-test.false)
