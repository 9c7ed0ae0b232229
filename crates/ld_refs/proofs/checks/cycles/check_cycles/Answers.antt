use Rattle.std.proofs.Common.{List, codes}
use Rattle.std.proofs.lemmas.Result.{err_from_is_err_and}
use Rattle.ld_json.specs.declared.file.FileNo.TheVariants as file
use Rattle.ld_json.specs.Fault.{Told}
use Rattle.ld_json.proofs.First.{says_later, says_more}
use Rattle.ld_model.specs.declared.unit.Unit.{Unit}
use Rattle.ld_names.specs.Names.{NameTable}
use Rattle.ld_refs.specs.Reaching.{environment_graph, graph_faults, structure_graph}
use Rattle.ld_refs.proofs.checks.cycles.check_cycles.Goals as goal

abbrev among_environments : Unit → NameTable → List Told
among_environments unit names = graph_faults file.Environments (codes "environments") (environment_graph unit names)

abbrev among_structures : Unit → NameTable → List Told
among_structures unit names = graph_faults file.Activities (codes "structures") (structure_graph unit names)

pub returns-in_err-check_graph-clause-first : goal.returns-in_err-check_graph-clause-first
unfolding Rattle.ld_refs.specs.Reaching.cycle_faults
returns-in_err-check_graph-clause-first c =
    let p = err_from_is_err_and c.from_residual-in_err-check_graph.result c.from_residual-in_err-check_graph.ensures.1 in
    let unit = c.args.unit.now in
    let names = c.args.names.now in
    let first = rw (c.as_slice.ensures.value, c.in_ok-environments.ensures) at c.in_err-check_graph.ensures.first in
    rw (p.1, p.2) (says_more (among_environments unit names) (among_structures unit names) c.in_err-check_graph.field-0.0 first)

pub returns-in_err-check_graph-2-clause-first : goal.returns-in_err-check_graph-2-clause-first
unfolding Rattle.ld_refs.specs.Reaching.cycle_faults
returns-in_err-check_graph-2-clause-first c =
    let p = err_from_is_err_and c.from_residual-in_err-check_graph-2.result c.from_residual-in_err-check_graph-2.ensures.1 in
    let unit = c.args.unit.now in
    let names = c.args.names.now in
    let faultless = rw (c.as_slice.ensures.value, c.in_ok-environments.ensures) at c.in_ok-check_graph.ensures.faultless in
    let first = rw (c.as_slice-2.ensures.value, c.in_ok-structures.ensures) at c.in_err-check_graph-2.ensures.first in
    rw (p.1, p.2) (says_later (among_environments unit names) (among_structures unit names) c.in_err-check_graph-2.field-0.0 faultless first)
