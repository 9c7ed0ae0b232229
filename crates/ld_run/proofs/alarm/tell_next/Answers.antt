use Rattle.std.proofs.Common.{arith}
use Rattle.ld_state.specs.StateView.{run_of}
use Rattle.ld_run.proofs.Alarms.{alarm_dated, readers_cost}
use Rattle.ld_run.proofs.alarm.tell_next.Goals as goal

-- The links of a started run are clean, so the readers are the sites that read the moment.
pub next_alarm-next-requires-clause-readers : goal.next_alarm-next-requires-clause-readers
next_alarm-next-requires-clause-readers g c i reads =
    (c.readers.ensures.sites c.args.unit.now (run_of c.args.state.now) (c.requires.running.linked.0 c.requires.started) i).1 reads

pub push_next-requires : goal.push_next-requires
push_next-requires g c = record {
  dated = alarm_dated c.args.unit.now (run_of c.args.state.now) c.next_alarm-next.result c.requires.running.order.sound
      c.next_alarm-next.ensures.value;
}

pub returns-in_err-push_next-clause-cost : goal.returns-in_err-push_next-clause-cost
returns-in_err-push_next-clause-cost g c =
    let unit = c.args.unit.now in
    let s = run_of c.args.state.now in
    let clean = c.requires.running.linked.0 c.requires.started in
    omega (
      arith,
      c.next_alarm-next.ensures.cost,
      readers_cost unit s c.requires.running.order.sound c.readers.result c.readers.ensures.once
          (λ i there. (c.readers.ensures.sites unit s clean i).0 there),
    )

pub returns-clause-cost : goal.returns-clause-cost
returns-clause-cost g c =
    let unit = c.args.unit.now in
    let s = run_of c.args.state.now in
    let clean = c.requires.running.linked.0 c.requires.started in
    omega (
      arith,
      c.next_alarm-next.ensures.cost,
      readers_cost unit s c.requires.running.order.sound c.readers.result c.readers.ensures.once
          (λ i there. (c.readers.ensures.sites unit s clean i).0 there),
    )
