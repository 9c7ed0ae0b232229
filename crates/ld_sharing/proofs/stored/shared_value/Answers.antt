use Rattle.std.proofs.Common.{◌≡◌, ◌∙◌, is_some, option_copied, refl, subst, sym}
use Rattle.std.proofs.lemmas.Result.{IfOk-weaker}
use Rattle.ld_cells.specs.Stored.{held}
use Rattle.ld_globals.specs.Answers.{meaning}
use Rattle.ld_globals.specs.Store.{IsWritable, key_at}
use Rattle.ld_sharing.specs.Readable.{FitsStored, IsStoredOf}
use Rattle.ld_sharing.specs.StoreView.{values_of}
use Rattle.ld_sharing.proofs.StoredParts.{shared_stored}
use Rattle.ld_sharing.proofs.TakingKeys.{key_readable}
use Rattle.ld_sharing.proofs.stored.shared_value.Goals as goal

pub read_key-requires : goal.read_key-requires
read_key-requires g c =
    let person = option_copied c.args.person in
    record { readable = key_readable c.args.unit.now c.args.globals.now c.args.property.0 c.args.uri.now.bytes (is_some person) c.requires.shared person refl }

pub returns-clause-value : goal.returns-clause-value
returns-clause-value g c =
    let person = option_copied c.args.person in
    let unit = c.args.unit.now in
    let store = c.args.globals.now in
    let n = c.args.property.0 in
    let uri = c.args.uri.now.bytes in
    IfOk-weaker c.copy_of.result (λ copy. held copy ≡ meaning c.read_key.result)
    (λ copy. IsStoredOf unit (values_of store) person n (held copy))
    (λ copy is. (shared_stored unit store person n uri c.requires.shared (held copy) (is ∙ c.read_key.ensures.value)
    (subst (IsWritable store (key_at uri person)) (sym is) c.read_key.ensures.writable)).0)
    c.copy_of.ensures

pub returns-clause-fitting : goal.returns-clause-fitting
returns-clause-fitting g c =
    let person = option_copied c.args.person in
    let unit = c.args.unit.now in
    let store = c.args.globals.now in
    let n = c.args.property.0 in
    let uri = c.args.uri.now.bytes in
    let held_fits = shared_stored unit store person n uri c.requires.shared (meaning c.read_key.result) c.read_key.ensures.value c.read_key.ensures.writable in
    IfOk-weaker c.copy_of.result (λ copy. held copy ≡ meaning c.read_key.result) (λ copy. FitsStored unit (values_of store) person n)
    (λ copy is. held_fits.1) c.copy_of.ensures
