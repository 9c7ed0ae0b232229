use Rattle.std.proofs.Common.{◌≡◌, ℕ, ◌<◌, ◌^◌, [], ◌∷◌, Ok, sym, ap, ◌∙◌, arith, IfSome}
use Rattle.ld_keep.specs.Disk.{IsSettled}
use Rattle.ld_keep.specs.Journal.{kept_on}
use Rattle.ld_keep.specs.Kept.{last_gate, lines_from}
use Rattle.ld_keep.specs.Opening.{IsAtGate}
use Rattle.ld_keep.proofs.Moments.{settled_on}
use Rattle.ld_keep.proofs.Told.{told_more, told_same}
use Rattle.ld_world.specs.WorldView.{world_of}
use Rattle.ld_keeping.specs.InJournal.{after_journal}
use Rattle.ld_keeping.specs.Journaling.{HasKept}
use Rattle.ld_keeping.specs.Working.{WorkedJournal}
use Rattle.ld_keeping.proofs.Journals.{kept_nothing}
use Rattle.ld_keeping.proofs.Working.{worked_last, worked_next}
use Rattle.ld_keeping.proofs.Openings.{world_next, world_last, differs_at, finished, always, loses_quiet, loses_on}
use Rattle.ld_keeping.proofs.opening.open_journal.Goals as goal

pub returns-in-Err-clause-differs : goal.returns-in-Err-clause-differs
returns-in-Err-clause-differs g c =
    differs_at (g.D.Disk.model.bytes c.args.disk.now) (g.D.Disk.model.bytes c.lines.disk) c.lines.invariant.bytes (world_of c.args.world.now) c.lines.number c.lines.opening (world_of c.lines.world)
    c.lines.invariant.world c.apply_next.new.out.bytes c.apply_next.new.opening (world_of c.apply_next.new.world) _ c.in-Err.ensures.applies

pub returns-in-Ok-false-clause-world : goal.returns-in-Ok-false-clause-world
returns-in-Ok-false-clause-world g c =
    let Leads : Type 0 = IfSome (g.D.Disk.model.bytes c.args.disk.now) (λ file. after_journal (world_of c.args.world.now) file ≡ Ok (world_of c.apply_next.new.world)) in
    let leads : Leads =
    world_last (g.D.Disk.model.bytes c.args.disk.now) (g.D.Disk.model.bytes c.lines.disk) c.lines.invariant.bytes (world_of c.args.world.now) c.lines.number c.lines.opening (world_of c.lines.world)
    c.lines.invariant.world c.apply_next.new.out.bytes c.apply_next.new.opening (world_of c.apply_next.new.world) (rw c.in-Ok-false.field-0-test at c.in-Ok-false.ensures.applies) in
    always c.finish.result Leads leads

pub returns-in-Ok-false-clause-kept : goal.returns-in-Ok-false-clause-kept
returns-in-Ok-false-clause-kept g c =
    let M = g.D.Disk.model in
    let lawful = g.met.D.Disk.lawful in
    let d = c.args.disk.now in
    let d1 = c.apply_next.new.disk in
    let d2 = c.finish.new.disk in
    let bytes : M.bytes d1 ≡ M.bytes d = c.apply_next.ensures.quiet.bytes ∙ c.lines.invariant.bytes in
    let tells : M.tells_images d1 ≡ M.tells_images d = c.apply_next.ensures.tells ∙ c.lines.invariant.tells in
    finished c.finish.result (IsSettled M d2) (kept_on (M.bytes d2) ≡ kept_on (M.bytes d1)) (IsSettled M d → HasKept M d d2 [])
    (λ (journal : ℕ). IfSome (M.bytes d1) (λ file. last_gate file ≡ journal)) (λ (journal : ℕ). journal < 2 ^ 40)
    c.finish.ensures.settled c.finish.ensures.kept c.finish.ensures.gate c.finish.ensures.below
    (λ journal settled kept gate below nothing_pending.
    kept_nothing M lawful d d2
    (loses_on M lawful d d1 d2 (loses_quiet M lawful d c.lines.disk d1 (c.lines.invariant.any_moment nothing_pending) c.apply_next.ensures.quiet) bytes tells c.finish.ensures.any_moment)
    (kept ∙ ap kept_on bytes) settled (c.finish.ensures.tells ∙ tells)
    (told_more (M.bytes d) (λ file. last_gate file ≡ journal) (λ file. last_gate file < 2 ^ 40)
    (told_same (M.bytes d1) (M.bytes d) (λ file. last_gate file ≡ journal) (sym bytes) gate) (λ file at. omega (arith, at, below))))

pub lines-preserved : goal.lines-preserved
lines-preserved g c =
    let M = g.D.Disk.model in
    let lawful = g.met.D.Disk.lawful in
    let d = c.args.disk.now in
    let d0 = c.lines.disk in
    let d1 = c.apply_next.new.disk in
    let applies = rw c.in-Ok-true.field-0-test at c.in-Ok-true.ensures.applies in
    let bytes : M.bytes d1 ≡ M.bytes d0 = c.apply_next.ensures.quiet.bytes in
    record {
      at_gate = told_more (M.bytes d1) (λ file. (lines_from c.lines.opening.place file ≡ applies.0 ∷ lines_from c.apply_next.new.opening.place file) × IsAtGate c.apply_next.new.opening file) (IsAtGate c.apply_next.new.opening)
          (told_same (M.bytes d0) (M.bytes d1) (λ file. (lines_from c.lines.opening.place file ≡ applies.0 ∷ lines_from c.apply_next.new.opening.place file) × IsAtGate c.apply_next.new.opening file) bytes applies.5) (λ file both. both.1);
      settled = settled_on M d0 d1 c.lines.invariant.settled c.apply_next.ensures.quiet c.apply_next.ensures.tells;
      bytes = bytes ∙ c.lines.invariant.bytes;
      tells = c.apply_next.ensures.tells ∙ c.lines.invariant.tells;
      any_moment = λ settled. loses_quiet M lawful d d0 d1 (c.lines.invariant.any_moment settled) c.apply_next.ensures.quiet;
      world = world_next (M.bytes d) (M.bytes d0) c.lines.invariant.bytes (world_of c.args.world.now) c.lines.number c.lines.opening (world_of c.lines.world)
          c.lines.invariant.world c.apply_next.new.out.bytes c.apply_next.new.opening (world_of c.apply_next.new.world) applies;
      worked = worked_next (M.bytes d) (M.bytes d0) c.lines.invariant.bytes c.args.world.now c.lines.world c.apply_next.new.world c.args.steps.now c.lines.steps c.apply_next.new.steps
          c.lines.opening c.apply_next.new.opening c.apply_next.new.out.bytes c.lines.invariant.worked (rw c.in-Ok-true.field-0-test at c.in-Ok-true.ensures.work);
      number = omega (arith, c.lines.invariant.number, applies.2);
      place = omega (arith, applies.3, applies.4, c.lines.invariant.limit);
      limit = omega (arith, applies.4, c.lines.invariant.limit);
      room = c.apply_next.ensures.room;
      counts = omega (arith, c.apply_next.ensures.counts, c.lines.invariant.counts);
    }

pub returns-in-Ok-false-clause-work : goal.returns-in-Ok-false-clause-work
returns-in-Ok-false-clause-work g c =
    let M = g.D.Disk.model in
    let Works : Type 0 = WorkedJournal (M.bytes c.args.disk.now) c.args.world.now c.apply_next.new.world c.args.steps.now c.apply_next.new.steps in
    let works : Works =
    worked_last (M.bytes c.args.disk.now) (M.bytes c.lines.disk) c.lines.invariant.bytes c.args.world.now c.lines.world c.apply_next.new.world c.args.steps.now c.lines.steps c.apply_next.new.steps
    c.lines.opening c.apply_next.new.opening c.apply_next.new.out.bytes c.lines.invariant.worked (rw c.in-Ok-false.field-0-test at c.in-Ok-false.ensures.work) in
    always c.finish.result Works works
