use Rattle.ld_admission.proofs.CheckParts.{by_checks}
use Rattle.ld_admission.proofs.checker.Checker.check.Goals as goal

pub returns-in-Enrol-clause-answer : goal.returns-in-Enrol-clause-answer
returns-in-Enrol-clause-answer g c = rw c.in-Enrol.is (by_checks _ _ _ _ c.check_enrol.result c.check_enrol.ensures.answer)

pub returns-in-Assign-clause-answer : goal.returns-in-Assign-clause-answer
returns-in-Assign-clause-answer g c = rw c.in-Assign.is (by_checks _ _ _ _ c.check_assign.result c.check_assign.ensures.answer)

pub returns-in-Drop-clause-answer : goal.returns-in-Drop-clause-answer
returns-in-Drop-clause-answer g c = rw c.in-Drop.is (by_checks _ _ _ _ c.check_drop.result c.check_drop.ensures.answer)

pub returns-in-Start-clause-answer : goal.returns-in-Start-clause-answer
returns-in-Start-clause-answer g c = rw c.in-Start.is (by_checks _ _ _ _ c.check_start.result c.check_start.ensures.answer)

pub returns-in-Open-clause-answer : goal.returns-in-Open-clause-answer
returns-in-Open-clause-answer g c = rw c.in-Open.is (by_checks _ _ _ _ c.check_open.result c.check_open.ensures.answer)

pub returns-in-Complete-clause-answer : goal.returns-in-Complete-clause-answer
returns-in-Complete-clause-answer g c = rw c.in-Complete.is (by_checks _ _ _ _ c.check_complete.result c.check_complete.ensures.answer)

pub returns-in-Set-clause-answer : goal.returns-in-Set-clause-answer
returns-in-Set-clause-answer g c = rw c.in-Set.is (c.check_set.ensures.answer, λ other. absurd (cc other))

pub returns-in-Clear-clause-answer : goal.returns-in-Clear-clause-answer
returns-in-Clear-clause-answer g c = rw c.in-Clear.is (by_checks _ _ _ _ c.check_clear.result c.check_clear.ensures.answer)

pub returns-in-Get-clause-answer : goal.returns-in-Get-clause-answer
returns-in-Get-clause-answer g c = rw c.in-Get.is (by_checks _ _ _ _ c.check_get.result c.check_get.ensures.answer)

pub returns-in-Tree-clause-answer : goal.returns-in-Tree-clause-answer
returns-in-Tree-clause-answer g c = rw c.in-Tree.is (by_checks _ _ _ _ c.check_tree.result c.check_tree.ensures.answer)

pub returns-in-Outbox-clause-answer : goal.returns-in-Outbox-clause-answer
returns-in-Outbox-clause-answer g c = rw c.in-Outbox.is (by_checks _ _ _ _ c.check_outbox.result c.check_outbox.ensures.answer)

pub returns-in-Report-clause-answer : goal.returns-in-Report-clause-answer
returns-in-Report-clause-answer g c = rw c.in-Report.is (by_checks _ _ _ _ c.check_report.result c.check_report.ensures.answer)

pub returns-in-Tick-clause-answer : goal.returns-in-Tick-clause-answer
returns-in-Tick-clause-answer g c = rw c.in-Tick.is (by_checks _ _ _ _ c.check_tick.result c.check_tick.ensures.answer)

pub returns-in-Next-clause-answer : goal.returns-in-Next-clause-answer
returns-in-Next-clause-answer g c = rw c.in-Next.is (by_checks _ _ _ _ c.check_next.result c.check_next.ensures.answer)
