use Rattle.std.proofs.Common.{◌≡◌, ◌∷◌, [], ◌∙◌, sym, ap, subst}
use Rattle.std.specs.List.{AllByRecursion, IsDistinct}
use Rattle.std.specs.Map.{keys_of}
use Rattle.std.specs.Str.{bytes_eq}
use Rattle.ld_globals.specs.Kept.{pairs_of}
use Rattle.ld_globals.specs.Store.{Agrees, IsFirstToDiffer, IsTold, declare_in}
use Rattle.ld_sharing.specs.StoreView.{Serves}
use Rattle.ld_world.specs.Declaring.{uri_property_number}
use Rattle.ld_world.specs.Published.{differing, differs_at}
use Rattle.ld_world.proofs.Differing.{first_differs, none_differs}
use Rattle.ld_world.proofs.Published.{says_one}
use Rattle.ld_world.proofs.Serving.{all_whole, distinct_by, serves_own}
use Rattle.ld_world.proofs.declaring.declare_uris.Goals as goal

pub declare-requires-clause-differ : goal.declare-requires-clause-differ
declare-requires-clause-differ c =
    subst (λ pairs. IsDistinct bytes_eq (keys_of pairs)) (sym c.in_ok-list.ensures) (distinct_by c.args.unit.now c.unit.ensures.valid)

pub declare-requires-clause-whole : goal.declare-requires-clause-whole
declare-requires-clause-whole c = all_whole c.in_ok-list.list c.args.unit.now c.in_ok-list.ensures c.unit.ensures.valid

pub returns-in-Ok-clause-serves : goal.returns-in-Ok-clause-serves
returns-in-Ok-clause-serves c =
    let unit = c.args.unit.now in
    let old = c.args.globals.now in
    let made = c.in-Ok.ensures.ok ∙ ap (declare_in old) c.in_ok-list.ensures in
    let agree = subst (AllByRecursion (Agrees old)) c.in_ok-list.ensures c.in-Ok.ensures.agree in
    subst (λ store. Serves store unit) (sym made) (serves_own old unit (distinct_by unit c.unit.ensures.valid) agree)

pub returns-in-Ok-clause-faultless : goal.returns-in-Ok-clause-faultless
returns-in-Ok-clause-faultless c = λ units is_of.
    let agree = subst (AllByRecursion (Agrees c.args.globals.now)) c.in_ok-list.ensures c.in-Ok.ensures.agree in
    none_differs units c.args.globals.now is_of 0 c.args.unit.now.properties agree

pub returns-in-Err-Differs-clause-first : goal.returns-in-Err-Differs-clause-first
returns-in-Err-Differs-clause-first c = λ units is_of.
    let properties = c.args.unit.now.properties in
    let place = c.in-Err-Differs.place in
    let told = subst (IsTold c.args.globals.now (pairs_of c.in_ok-list.list)) c.in-Err-Differs.field-0-is c.in-Err-Differs.ensures.differs in
    let first = subst (λ pairs. IsFirstToDiffer c.args.globals.now pairs place) c.in_ok-list.ensures told in
    let number : c.find_number-number.result ≡ uri_property_number 0 place properties = c.find_number-number.ensures ∙ ap (uri_property_number 0 place) (c.as_slice-properties.ensures ∙ ap (λ unit. unit.properties) c.unit.ensures.unit) in
    says_one (differs_at c.find_number-number.result) (differing units 0 properties) c.differs.result (first_differs units c.args.globals.now is_of 0 place properties first ∙ ap (λ n. differs_at n ∷ []) (sym number)) c.differs.ensures
