use Rattle.std.proofs.Common.{OnErr, OnOk, subst}
use Rattle.ld_expr.specs.Owners.{of_person}
use Rattle.ld_rules.specs.SiteLooks.{all_done_looks}
use Rattle.ld_state.specs.RunState.{seen_in}
use Rattle.ld_state.specs.StateView.{run_of}
use Rattle.ld_settling.specs.Gathering.{FallsShort, Gathers}
use Rattle.ld_settling.proofs.reads.person_rules.read_structure.Goals as goal

pub returns-clause-gathers : goal.returns-clause-gathers
returns-clause-gathers c =
    let unit = c.args.reader.now.unit.now in
    let run = run_of c.args.reader.now.state.now in
    subst
    (λ ids. OnOk c.read_marks.result (Gathers unit run
    (all_done_looks unit (seen_in unit run) (of_person c.args.person.0) ids) c.args.list.now c.read_marks.new.list))
    c.as_slice-children.ensures c.read_marks.ensures.gathers

pub returns-clause-short : goal.returns-clause-short
returns-clause-short c =
    let unit = c.args.reader.now.unit.now in
    let run = run_of c.args.reader.now.state.now in
    subst
    (λ ids. OnErr c.read_marks.result (FallsShort unit run
    (all_done_looks unit (seen_in unit run) (of_person c.args.person.0) ids) c.args.list.now))
    c.as_slice-children.ensures c.read_marks.ensures.short
