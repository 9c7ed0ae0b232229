use Rattle.std.proofs.Common.{◌≡◌, ◌∙◌, ◌+◌, ◌≤◌, ℕ, Bool, ap, arith, cond, get_or, slice_get, is_some, option_copied, option_map, sym}
use Rattle.ld_model.specs.Properties.{is_personal}
use Rattle.ld_state.proofs.SameCells.{same_truth_one}
use Rattle.ld_expr.specs.Lookup.{is_some_and}
use Rattle.ld_sharing.specs.StoreView.{is_shared, values_of}
use Rattle.ld_sharing.proofs.SharedCount.{shared_counts}
use Rattle.ld_sharing.proofs.StoredParts.{no_uri_stored, other_owner_stored}
use Rattle.ld_sharing.proofs.TakingKeys.{property_here, shared_here}
use Rattle.ld_sharing.proofs.stored.stored_value.Goals as goal

pub returns-in_default-clause-value : goal.returns-in_default-clause-value
returns-in_default-clause-value g c =
    (no_uri_stored c.args.unit.now (values_of c.args.globals.now) (option_copied c.args.person) c.args.property.0 c.requires.there
    (sym c.uri.ensures ∙ ap (option_map (λ uri. uri.now.bytes)) c.in_default.is)).0

pub returns-in_default-clause-fitting : goal.returns-in_default-clause-fitting
returns-in_default-clause-fitting g c =
    (no_uri_stored c.args.unit.now (values_of c.args.globals.now) (option_copied c.args.person) c.args.property.0 c.requires.there
    (sym c.uri.ensures ∙ ap (option_map (λ uri. uri.now.bytes)) c.in_default.is)).1

pub returns-then-not-is_for-clause-value : goal.returns-then-not-is_for-clause-value
returns-then-not-is_for-clause-value g c =
    (other_owner_stored c.args.unit.now (values_of c.args.globals.now) (option_copied c.args.person) c.args.property.0
    (get_or c.as_slice.result.now c.args.property.0 c.index-as_slice-property.result)
    (property_here c.args.unit.now c.unit.result.now c.as_slice.result.now c.args.property.0 c.index-as_slice-property.result
    c.unit.ensures.unit c.as_slice.ensures c.requires.there)
    (sym c.is_for.ensures ∙ c.if-not-is_for.true)).0

pub returns-then-not-is_for-clause-fitting : goal.returns-then-not-is_for-clause-fitting
returns-then-not-is_for-clause-fitting g c =
    (other_owner_stored c.args.unit.now (values_of c.args.globals.now) (option_copied c.args.person) c.args.property.0
    (get_or c.as_slice.result.now c.args.property.0 c.index-as_slice-property.result)
    (property_here c.args.unit.now c.unit.result.now c.as_slice.result.now c.args.property.0 c.index-as_slice-property.result
    c.unit.ensures.unit c.as_slice.ensures c.requires.there)
    (sym c.is_for.ensures ∙ c.if-not-is_for.true)).1

pub shared_value-requires : goal.shared_value-requires
shared_value-requires g c =
    let person = is_some (option_copied c.args.person) in
    let kind = (get_or c.as_slice.result.now c.args.property.0 c.index-as_slice-property.result).kind in
    record {
      shared = shared_here c.args.unit.now c.unit.result.now c.as_slice.result.now c.args.globals.now c.args.property.0 c.in-Some.uri.now.bytes
          c.index-as_slice-property.result person c.unit.ensures.valid c.requires.serves
          (sym c.uri.ensures ∙ ap (option_map (λ uri. uri.now.bytes)) c.in-Some.is)
          c.unit.ensures.unit c.as_slice.ensures c.requires.there
          (same_truth_one (is_personal kind) person (sym c.is_for.ensures ∙ c.if-not-is_for.false));
    }

counts_one : (b : Bool) (before now : ℕ) → ◌≡◌ {A = ℕ} (cond b 1 0) 1 → now ≡ before + 1 → now ≤ before + cond b 1 0
counts_one b before now one cost = omega (arith, one, cost)

pub returns-clause-cost : goal.returns-clause-cost
returns-clause-cost g c =
    let person = is_some (option_copied c.args.person) in
    let kind = (get_or c.as_slice.result.now c.args.property.0 c.index-as_slice-property.result).kind in
    let shared = shared_here c.args.unit.now c.unit.result.now c.as_slice.result.now c.args.globals.now c.args.property.0 c.in-Some.uri.now.bytes
    c.index-as_slice-property.result person c.unit.ensures.valid c.requires.serves
    (sym c.uri.ensures ∙ ap (option_map (λ uri. uri.now.bytes)) c.in-Some.is)
    c.unit.ensures.unit c.as_slice.ensures c.requires.there
    (same_truth_one (is_personal kind) person (sym c.is_for.ensures ∙ c.if-not-is_for.false)) in
    let one : ◌≡◌ {A = ℕ} (cond (is_some_and (is_shared person) (slice_get c.args.unit.now.properties c.args.property.0)) 1 0) 1 =
    ap (λ b. cond b 1 0) (shared_counts c.args.unit.now c.args.globals.now c.args.property.0 c.in-Some.uri.now.bytes person shared) in
    counts_one (is_some_and (is_shared person) (slice_get c.args.unit.now.properties c.args.property.0)) c.args.steps.now
    c.shared_value.new.steps one c.shared_value.ensures.cost
