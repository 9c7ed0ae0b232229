use Rattle.std.proofs.Common.{Err, Ok, ◌<◌, subst, sym}
use Rattle.std.proofs.lemmas.Result.{err_from_is_err_and}
use Rattle.ld_state.specs.StateView.{run_of}
use Rattle.ld_state.proofs.SeenSame.{persons_counted}
use Rattle.ld_admission.specs.Commands.{drops}
use Rattle.ld_admission.specs.RefusalView.{refusal_of}
use Rattle.ld_admission.proofs.CheckParts.{drop_is}
use Rattle.ld_admission.proofs.checker.Checker.check_drop.Goals as goal

pub returns-in_err-may_drop-clause-answer : goal.returns-in_err-may_drop-clause-answer
returns-in_err-may_drop-clause-answer g c =
    let p = c.in_ok-person.person.0 in
    let r = c.in_ok-role.role.0 in
    let failed = err_from_is_err_and c.from_residual-in_err-may_drop.result c.from_residual-in_err-may_drop.ensures.1 in
    rw (failed.1, failed.2) (
      drop_is c.args.self.now.unit.now (run_of c.args.self.now.state.now) c.args.moment.0 c.args.name.now c.args.role.now p r
          (Err (refusal_of c.in_err-may_drop.field-0.0)) c.in_ok-in_time.ensures.passed c.in_ok-person.ensures.person c.in_ok-role.ensures.role
          (c.in_err-may_drop.ensures.refused (Ok (drops p r))),
      tt,
    )

pub returns-clause-answer : goal.returns-clause-answer
returns-clause-answer g c =
    let p = c.in_ok-person.person.0 in
    let r = c.in_ok-role.role.0 in (
      drop_is c.args.self.now.unit.now (run_of c.args.self.now.state.now) c.args.moment.0 c.args.name.now c.args.role.now p r
          (Ok (drops p r)) c.in_ok-in_time.ensures.passed c.in_ok-person.ensures.person c.in_ok-role.ensures.role
          (c.in_ok-may_drop.ensures.passes (Ok (drops p r))),
      (
        record {
          has_person = subst (λ n. p < n) (sym (persons_counted c.args.self.now.state.now)) c.in_ok-person.ensures.within;
          has_role = c.in_ok-role.ensures.within;
        },
        c.in_ok-may_drop.ensures.possible,
      ),
    )
