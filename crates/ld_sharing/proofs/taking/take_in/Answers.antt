use Rattle.std.proofs.Common.{◌≡◌, ◌∷◌, ◌∙◌, ap, arith, inl, length, refl, subst, sym}
use Rattle.ld_globals.specs.Answers.{key_given}
use Rattle.ld_roles.specs.Kept.{persons_of}
use Rattle.ld_firing.specs.RunSystem.{HaveNamesOfTheirOwn}
use Rattle.ld_firing.proofs.Told.{tells_nothing, tells_then}
use Rattle.ld_state.specs.StateView.{run_of}
use Rattle.ld_sharing.specs.Fitting.{TakesFitting}
use Rattle.ld_sharing.specs.StoreView.{values_of}
use Rattle.ld_sharing.specs.Taken.{is_cell_of_key}
use Rattle.ld_sharing.proofs.TakenOnly.{still_then, taken_then, tells_only}
use Rattle.ld_sharing.proofs.TakingCells.{fits_after, fits_all, takes_nothing, taking_after}
use Rattle.ld_sharing.proofs.TakingLoops.{HasAllBut, all_but_next, all_but_written, has_all}
use Rattle.ld_sharing.proofs.WrittenCount.{counted}
use Rattle.ld_sharing.proofs.taking.take_in.Goals as goal

pub loop-uri-init : goal.loop-uri-init
loop-uri-init g c =
    let unit = c.args.unit.now in
    let store = c.args.globals.now in
    let s = run_of c.args.state.now in
    let since = c.changed_since-uri-items in
    let same = c.into_iter-uri-iterator.ensures.into_iter_gives in
    let most = counted store c.args.stamp since.result since.ensures.once since.ensures.exactly in
    record {
      left = subst (λ keys. HasAllBut keys unit store s) (sym same)
          (all_but_written unit s c.args.stamp store since.result since.ensures.exactly c.requires.current);
      same = refl;
      fitting = c.requires.fitting;
      told = tells_nothing unit s c.args.changed.now.items;
      still = λ cell value said has. has;
      only = λ k there. inl there;
      own = c.requires.own;
      rows = refl;
      outbox = refl;
      kept = refl;
      cost = omega (arith, since.ensures.cost, most, ap length same);
    }

pub loop-uri-preserved : goal.loop-uri-preserved
loop-uri-preserved g c =
    let unit = c.args.unit.now in
    let store = c.args.globals.now in
    let s = run_of c.args.state.now in
    let persons = s.persons in
    let t = run_of c.loop-uri.state in
    let u = run_of c.take_key.new.state in
    let key = key_given c.in-Some.uri.now c.in-Some.person in
    let test = is_cell_of_key unit t.persons key in
    let before = c.loop-uri.invariant in
    let one = c.in_ok-take_key.ensures in
    let rest = c.next.new.self in
    let next : c.loop-uri.uri-iterator ≡ key ∷ rest = c.in-Some.ensures.steps in
    record {
      left = all_but_next unit c.requires.sound.valid store c.requires.serves key rest t u
          (subst (λ keys. HasAllBut keys unit store t) next before.left) one.taken;
      same = taking_after unit (values_of store) test t u one.taken ∙ before.same;
      fitting = fits_after unit (values_of store) test t u one.taken before.fitting;
      told = tells_then before.told one.told;
      still = still_then unit (values_of store) test persons s t u (ap persons_of before.rows) one.taken before.still;
      only = taken_then unit (values_of store) test persons s t u (ap persons_of before.rows) one.taken
          c.args.changed.now.items c.loop-uri.changed.items c.take_key.new.changed.items before.still before.only one.only;
      own = one.own;
      rows = one.rows ∙ before.rows;
      outbox = one.outbox ∙ before.outbox;
      kept = one.kept ∙ before.kept;
      cost = omega (arith, before.cost, one.cost, ap length next);
    }

-- Where no key is left, the run has the store's values.
pub returns-clause-run : goal.returns-clause-run
returns-clause-run g c =
    let unit = c.args.unit.now in
    let store = c.args.globals.now in
    let t = run_of c.loop-uri.state in
    let before = c.loop-uri.invariant in
    let all = subst (λ keys. HasAllBut keys unit store t) c.in-None.ensures.steps.0 before.left in
    let names = subst (λ rows. HaveNamesOfTheirOwn (persons_of rows)) (sym before.rows) c.requires.sound.names in
    takes_nothing unit (values_of store) t (has_all unit c.requires.sound.valid store c.requires.serves t names all) ∙ before.same

pub returns-clause-fitting : goal.returns-clause-fitting
returns-clause-fitting g c =
    let unit = c.args.unit.now in
    let store = c.args.globals.now in
    let t = run_of c.loop-uri.state in
    let before = c.loop-uri.invariant in
    let all = subst (λ keys. HasAllBut keys unit store t) c.in-None.ensures.steps.0 before.left in
    let names = subst (λ rows. HaveNamesOfTheirOwn (persons_of rows)) (sym before.rows) c.requires.sound.names in
    subst (λ rows. TakesFitting unit (values_of store) (persons_of rows)) before.rows
    (fits_all unit (values_of store) t (has_all unit c.requires.sound.valid store c.requires.serves t names all) before.fitting)

pub returns-clause-only : goal.returns-clause-only
returns-clause-only g c =
    let before = c.loop-uri.invariant in
    tells_only c.args.unit.now (values_of c.args.globals.now) (run_of c.args.state.now).persons (run_of c.args.state.now)
    (run_of c.loop-uri.state) refl (ap persons_of before.rows) c.args.changed.now.items c.loop-uri.changed.items before.only
