use Rattle.std.proofs.Common.{◌≡◌, ◌∙◌, ap, arith, length, max, refl, subst, sym, vec_len, IsOk}
use Rattle.std.proofs.lemmas.Bool.{eqb-false, eqb-true}
use Rattle.ld_globals.specs.Store.{reserve_in}
use Rattle.ld_state.specs.StateView.{run_of}
use Rattle.ld_state.proofs.Elements.{different}
use Rattle.ld_sharing.specs.StoreView.{values_of}
use Rattle.ld_sharing.proofs.GivingKeys.{none_listed}
use Rattle.ld_sharing.proofs.GivingWrites.{are_writes, no_writes}
use Rattle.ld_sharing.proofs.giving.prepare.Goals as goal

pub returns-in_err-writes-clause-idle : goal.returns-in_err-writes-clause-idle
returns-in_err-writes-clause-idle g c =
    λ all.
    different (sym (subst IsOk c.in_err-writes.was
    (c.list_writes.ensures.idle
    (none_listed c.args.unit.now (run_of c.args.state.now) c.args.globals.now c.args.changed.now c.requires.sound c.requires.serves all))))

pub returns-then-is_empty-clause-writes : goal.returns-then-is_empty-clause-writes
returns-then-is_empty-clause-writes g c =
    let store = c.args.globals.now in
    let writes = c.in_ok-writes.writes.items in
    let none : length writes ≡ 0 =
    omega (arith, c.in_ok-writes.writes.ok.0, eqb-true (vec_len c.in_ok-writes.writes) 0 (sym c.is_empty.ensures ∙ c.if-is_empty.true)) in
    are_writes c.args.unit.now (run_of c.args.state.now) store c.args.changed.now c.requires.sound c.requires.serves c.requires.fitting
    c.requires.others store writes refl refl (omega (arith, none)) c.in_ok-writes.ensures.writes

-- Where the store has all values, nothing is written.
pub returns-in_err-number-clause-idle : goal.returns-in_err-number-clause-idle
returns-in_err-number-clause-idle g c =
    λ all.
    let writes = c.in_ok-writes.writes.items in
    let none = no_writes writes (c.in_ok-writes.ensures.writes
    ∙ none_listed c.args.unit.now (run_of c.args.state.now) c.args.globals.now c.args.changed.now c.requires.sound c.requires.serves all) in
    absurd (eqb-false (vec_len c.in_ok-writes.writes) 0 (sym c.is_empty.ensures ∙ c.if-is_empty.false)
    (omega (arith, c.in_ok-writes.writes.ok.0, none)))

pub returns-in_err-reserve-clause-idle : goal.returns-in_err-reserve-clause-idle
returns-in_err-reserve-clause-idle g c =
    λ all.
    let writes = c.in_ok-writes.writes.items in
    let none = no_writes writes (c.in_ok-writes.ensures.writes
    ∙ none_listed c.args.unit.now (run_of c.args.state.now) c.args.globals.now c.args.changed.now c.requires.sound c.requires.serves all) in
    absurd (eqb-false (vec_len c.in_ok-writes.writes) 0 (sym c.is_empty.ensures ∙ c.if-is_empty.false)
    (omega (arith, c.in_ok-writes.writes.ok.0, none)))

pub returns-clause-writes : goal.returns-clause-writes
returns-clause-writes g c =
    let store = c.args.globals.now in
    let new = c.reserve.new.self in
    let writes = c.in_ok-writes.writes.items in
    let count : c.in_ok-number.field-0 ≡ length writes =
    omega (arith, c.in_ok-number.ensures.number, c.len.ensures, c.in_ok-writes.writes.ok.0) in
    let reserved : new ≡ reserve_in store (length writes) = c.in_ok-reserve.ensures.ok ∙ ap (reserve_in store) count in
    let spare : new.spare ≡ max store.spare (length writes) = ap (λ t. t.spare) reserved in
    are_writes c.args.unit.now (run_of c.args.state.now) store c.args.changed.now c.requires.sound c.requires.serves c.requires.fitting
    c.requires.others new writes (ap values_of reserved) (ap (λ t. t.declared) reserved) (omega (arith, spare)) c.in_ok-writes.ensures.writes
