use Rattle.std.proofs.Common.{◌∙◌, ◌&&◌, ℕ, Ok, Result, ap, ap₂, arith, refl, sym}
use Rattle.ld_cascade.specs.Settling.{Sums}
use Rattle.ld_firing.specs.SettledView.{settlement_of}
use Rattle.ld_state.specs.StateView.{run_of}
use Rattle.ld_settling.proofs.CleanLinks.{run_follows_then}
use Rattle.ld_sharing.specs.Globals.{giving_back}
use Rattle.ld_sharing.specs.StoreView.{values_of}
use Rattle.ld_admission.specs.AdmittedView.{admitted_of}
use Rattle.ld_admission.specs.Refusals.{NotOpen, Refusal}
use Rattle.ld_admission.specs.RefusalView.{refusal_of}
use Rattle.ld_admission.specs.Checks.{is_started}
use Rattle.ld_run.specs.Changes.{directly_changed, has_change, written_directly}
use Rattle.ld_run.specs.CommandWork.{second_work, shared_among, slots_if}
use Rattle.ld_run.specs.RunStep.{DoneCommand}
use Rattle.ld_run.proofs.CommandSums.{shared_in_all}
use Rattle.ld_run.proofs.StepStages.{first_refused, is_done, not_open, second_refused}
use Rattle.ld_run.proofs.doing.do_admitted.Goals as goal

pub returns-in-Err-clause-refused : goal.returns-in-Err-clause-refused
returns-in-Err-clause-refused g c other =
    first_refused c.args.unit.now (values_of c.args.globals.now) (run_of c.args.state.now) c.args.moment.0
    (admitted_of c.args.command.now) (refusal_of c.in-Err.refusal) (c.in-Err.ensures.refused other)

pub is_open_for-requires-clause-possible : goal.is_open_for-requires-clause-possible
is_open_for-requires-clause-possible g c =
    c.in-Ok.ensures.stays (admitted_of c.args.command.now) c.requires.may.possible

pub returns-then-not-is_open_for-clause-refused : goal.returns-then-not-is_open_for-clause-refused
returns-then-not-is_open_for-clause-refused g c other =
    not_open c.args.unit.now (values_of c.args.globals.now) (run_of c.args.state.now) c.args.moment.0
    (admitted_of c.args.command.now) (settlement_of c.in-Ok.settled (run_of c.settle_first.new.state))
    c.in-Ok.ensures.settled NotOpen (c.is_open_for.ensures.closed c.if-not-is_open_for.true)

pub settle_changed-requires-clause-may : goal.settle_changed-requires-clause-may
settle_changed-requires-clause-may g c = record {
  dated = c.requires.may.dated;
  possible = c.in-Ok.ensures.stays (admitted_of c.args.command.now) c.requires.may.possible;
  writes = c.requires.may.writes;
}

pub returns-in-Err-settle_changed-clause-refused : goal.returns-in-Err-settle_changed-clause-refused
returns-in-Err-settle_changed-clause-refused g c other =
    second_refused c.args.unit.now (values_of c.args.globals.now) (run_of c.args.state.now) c.args.moment.0
    (admitted_of c.args.command.now) (settlement_of c.in-Ok.settled (run_of c.settle_first.new.state))
    c.in-Ok.ensures.settled (c.is_open_for.ensures.open c.if-not-is_open_for.false)
    (refusal_of c.in-Err-settle_changed.refusal) (c.in-Err-settle_changed.ensures.refused other)

pub returns-in-Ok-both-clause-done : goal.returns-in-Ok-both-clause-done
returns-in-Ok-both-clause-done g c =
    let unit = c.args.unit.now in
    let store = values_of c.args.globals.now in
    let command = admitted_of c.args.command.now in
    let left = run_of c.settle_changed.new.state in
    let done : ℕ → Sums → Result DoneCommand Refusal = λ turns sums. Ok (record {
      command = command;
      turns = turns;
      sums = sums;
      state = left;
      store = giving_back unit left store;
    }) in
    is_done unit store (run_of c.args.state.now) c.args.moment.0 command
    (settlement_of c.in-Ok.settled (run_of c.settle_first.new.state)) c.in-Ok.ensures.settled
    (c.is_open_for.ensures.open c.if-not-is_open_for.false)
    (settlement_of c.in-Ok-settle_changed.settled left) c.in-Ok-settle_changed.ensures.settled
    ∙ ap₂ done (sym c.in-Ok-both.ensures.turns) (sym c.in-Ok-both.ensures.sums)

-- Where not all sites of the run are renewed, the links follow those before.
pub returns-in-Err-settle_changed-clause-follows : goal.returns-in-Err-settle_changed-clause-follows
returns-in-Err-settle_changed-clause-follows g c plain =
    run_follows_then c.settle_first.ensures.follows (c.settle_changed.ensures.follows plain)

pub returns-in-Ok-both-clause-follows : goal.returns-in-Ok-both-clause-follows
returns-in-Ok-both-clause-follows g c plain =
    run_follows_then c.settle_first.ensures.follows (c.settle_changed.ensures.follows plain)

-- ---- what it takes

pub is_open_for-requires-clause-valid : goal.is_open_for-requires-clause-valid
is_open_for-requires-clause-valid g c = c.in-Ok.ensures.running.order.sound.valid

pub returns-in-Err-clause-cost : goal.returns-in-Err-clause-cost
returns-in-Err-clause-cost g c = omega (arith, c.settle_first.ensures.cost)

pub returns-then-not-is_open_for-clause-cost : goal.returns-then-not-is_open_for-clause-cost
returns-then-not-is_open_for-clause-cost g c = omega (arith, c.settle_first.ensures.cost, c.is_open_for.ensures.cost)

pub returns-in-Err-settle_changed-clause-cost : goal.returns-in-Err-settle_changed-clause-cost
returns-in-Err-settle_changed-clause-cost g c =
    let unit = c.args.unit.now in
    let store = values_of c.args.globals.now in
    let s = run_of c.args.state.now in
    let command = admitted_of c.args.command.now in
    let second = ap (second_work unit store s c.args.moment.0 command) c.in-Ok.ensures.settled in
    omega (arith, c.settle_first.ensures.cost, c.is_open_for.ensures.cost, c.settle_changed.ensures.cost s refl, second)

pub returns-in-Ok-both-clause-cost : goal.returns-in-Ok-both-clause-cost
returns-in-Ok-both-clause-cost g c =
    let unit = c.args.unit.now in
    let store = values_of c.args.globals.now in
    let s = run_of c.args.state.now in
    let command = admitted_of c.args.command.now in
    let second = ap (second_work unit store s c.args.moment.0 command) c.in-Ok.ensures.settled in
    omega (arith, c.settle_first.ensures.cost, c.is_open_for.ensures.cost, c.settle_changed.ensures.cost s refl, second)

pub returns-in-Err-both-clause-cost : goal.returns-in-Err-both-clause-cost
returns-in-Err-both-clause-cost g c =
    let unit = c.args.unit.now in
    let store = values_of c.args.globals.now in
    let s = run_of c.args.state.now in
    let command = admitted_of c.args.command.now in
    let second = ap (second_work unit store s c.args.moment.0 command) c.in-Ok.ensures.settled in
    omega (arith, c.settle_first.ensures.cost, c.is_open_for.ensures.cost, c.settle_changed.ensures.cost s refl, second)

pub returns-in-Ok-both-clause-gives : goal.returns-in-Ok-both-clause-gives
returns-in-Ok-both-clause-gives g c =
    let unit = c.args.unit.now in
    let store = values_of c.args.globals.now in
    let s = run_of c.args.state.now in
    let command = admitted_of c.args.command.now in
    let second = ap (second_work unit store s c.args.moment.0 command) c.in-Ok.ensures.settled in
    let first = c.settle_first.new.scratch.written.items in
    let direct = written_directly command c.settle_changed.new.scratch.told.items in
    let now = directly_changed unit store (run_of c.settle_first.new.state) c.args.moment.0 command in
    let fired = slots_if (has_change command && is_started now) unit now in
    let all = ap (shared_among unit) c.in-Ok-settle_changed.ensures.fired in
    let early = ap (shared_among unit) c.in-Ok.ensures.fired in
    omega (
      arith,
      c.settle_first.ensures.cost,
      c.is_open_for.ensures.cost,
      c.in-Ok-settle_changed.ensures.gives s refl,
      second,
      all,
      early,
      shared_in_all unit first direct fired,
    )
