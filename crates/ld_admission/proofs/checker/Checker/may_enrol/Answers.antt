use Rattle.std.proofs.Common.{◌≡◌, ◌≤◌, ◌∙◌, None, ap, arith, length, sym}
use Rattle.ld_roles.specs.Kept.{persons_of}
use Rattle.ld_roles.specs.Persons.{person_number}
use Rattle.ld_state.specs.StateView.{run_of}
use Rattle.ld_state.proofs.SeenSame.{persons_counted}
use Rattle.ld_admission.proofs.FaultChecks.{seats_taken}
use Rattle.ld_admission.proofs.checker.Checker.may_enrol.Goals as goal

pub returns-then-persons-ge-SEATS-clause-refused :
    goal.returns-then-persons-ge-SEATS-clause-refused
returns-then-persons-ge-SEATS-clause-refused c =
    let s = run_of c.args.self.now.state.now in
    let rows = c.roster-roster.ensures.rows in
    let none : person_number s.persons c.args.name.now ≡ None = ap (λ rows. person_number (persons_of rows) c.args.name.now) (sym rows) ∙ sym c.in_default.ensures.number in
    let full : s.seats ≤ length s.persons = omega (arith, c.if-persons-ge-SEATS.true, c.persons.ensures.count, ap length rows, persons_counted c.args.self.now.state.now) in
    λ next. seats_taken s c.args.name.now next none full
