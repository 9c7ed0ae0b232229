use Rattle.std.proofs.Common.{◌∙◌, ◌∷◌, [], ◌≤◌, ◌+◌, ap, arith, cond, is_some, length, option_copied, slice_get, subst}
use Rattle.std.proofs.lemmas.List.{map-append}
use borrow.Author.Count.{below_more}
use Rattle.ld_cells.specs.Stored.{cells_of, held}
use Rattle.ld_model.specs.declared.unit.Unit.{Unit}
use Rattle.ld_sharing.specs.Readable.{FitsStored, IsStoredOf}
use Rattle.ld_expr.specs.Lookup.{is_some_and}
use Rattle.ld_sharing.specs.StoreView.{is_shared, values_of}
use Rattle.ld_sharing.proofs.SharedCount.{counted_within, spent_next, spent_within}
use Rattle.ld_sharing.proofs.StoredParts.{all_fit, one_stored}
use Rattle.ld_sharing.proofs.stored.stored_values.Goals as goal

pub loop-index-preserved : goal.loop-index-preserved
loop-index-preserved g c =
    let before = c.loop-index.invariant in
    let one = c.in_ok-stored_value.ensures in
    let unit = c.args.unit.now in
    let store = values_of c.args.globals.now in
    let person = option_copied c.args.person in
    let value = held c.in_ok-stored_value.field-0 in
    let same = c.in_ok-number.ensures.number in (
      ap cells_of c.in_ok-push.ensures.items
          ∙ map-append held c.loop-index.stored.items (c.in_ok-stored_value.field-0 ∷ [])
          ∙ one_stored unit store person c.loop-index.index (cells_of c.loop-index.stored.items) value before.0
          (subst (λ n. IsStoredOf unit store person n value) same one.value),
      below_more (FitsStored unit store person) c.loop-index.index before.1
          (subst (FitsStored unit store person) same one.fitting),
      spent_next (is_shared (is_some person)) unit.properties c.loop-index.index c.args.steps.now c.loop-index.steps
          c.stored_value.new.steps before.2
          (subst (λ n. c.stored_value.new.steps ≤ c.loop-index.steps + cond (is_some_and (is_shared (is_some person)) (slice_get unit.properties n)) 1 0) same one.cost),
    )

pub returns-clause-fitting : goal.returns-clause-fitting
returns-clause-fitting g c =
    all_fit c.args.unit.now (values_of c.args.globals.now) (option_copied c.args.person) c.loop-index.index
    (omega (arith, c.loop-index-test.false, c.len-count.ensures, ap (λ (unit : Unit). length unit.properties) c.unit.ensures.unit))
    c.loop-index.invariant.1

pub returns-clause-cost : goal.returns-clause-cost
returns-clause-cost g c =
    let before = c.loop-index.invariant.2 in
    omega (
      arith,
      before,
      counted_within (is_shared (is_some (option_copied c.args.person))) c.args.unit.now.properties c.loop-index.index,
    )

pub returns-in_err-number-clause-cost : goal.returns-in_err-number-clause-cost
returns-in_err-number-clause-cost g c =
    omega (
      arith,
      c.loop-index.invariant.2,
      counted_within (is_shared (is_some (option_copied c.args.person))) c.args.unit.now.properties c.loop-index.index,
    )

pub returns-in_err-stored_value-clause-cost : goal.returns-in_err-stored_value-clause-cost
returns-in_err-stored_value-clause-cost g c =
    let person = option_copied c.args.person in
    spent_within (is_shared (is_some person)) c.args.unit.now.properties c.loop-index.index c.args.steps.now c.loop-index.steps
    c.stored_value.new.steps c.loop-index.invariant.2
    (subst (λ n. c.stored_value.new.steps ≤ c.loop-index.steps + cond (is_some_and (is_shared (is_some person)) (slice_get c.args.unit.now.properties n)) 1 0)
    c.in_ok-number.ensures.number c.stored_value.ensures.cost)

pub returns-in_err-push-clause-cost : goal.returns-in_err-push-clause-cost
returns-in_err-push-clause-cost g c =
    let person = option_copied c.args.person in
    spent_within (is_shared (is_some person)) c.args.unit.now.properties c.loop-index.index c.args.steps.now c.loop-index.steps
    c.stored_value.new.steps c.loop-index.invariant.2
    (subst (λ n. c.stored_value.new.steps ≤ c.loop-index.steps + cond (is_some_and (is_shared (is_some person)) (slice_get c.args.unit.now.properties n)) 1 0)
    c.in_ok-number.ensures.number c.stored_value.ensures.cost)
