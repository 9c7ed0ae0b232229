use Rattle.std.proofs.Common.{◌∙◌, Some, None, ap}
use Rattle.ld_globals.specs.Store.{key_at}
use Rattle.ld_sharing.proofs.GivingStores.{put_declared}
use Rattle.ld_world_tests.proofs.Declaring.{serves_alike}
use Rattle.ld_world_tests.proofs.sharing.set.Goals as goal

pub returns-clause-serves : goal.returns-clause-serves
returns-clause-serves c = λ unit serves.
    let set = c.in_ok-set.ensures.ok in
    let same = ap (λ store. store.declared) set.put ∙ put_declared c.args.globals.now (key_at c.args.gate.now.bytes None) (Some set.value) in
    serves_alike c.args.globals.now c.set.new.self unit same serves
