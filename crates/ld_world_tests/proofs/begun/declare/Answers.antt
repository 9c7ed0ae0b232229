use Rattle.std.proofs.Common.{◌∙◌, sym, ap, subst}
use Rattle.std.specs.List.{IsDistinct}
use Rattle.std.specs.Map.{keys_of}
use Rattle.std.specs.Str.{bytes_eq}
use Rattle.ld_globals.specs.Store.{declare_in}
use Rattle.ld_world.specs.Declaring.{pairs_by}
use Rattle.ld_world_tests.proofs.Declaring.{distinct_one, serves_one, whole_one}
use Rattle.ld_world_tests.proofs.begun.declare.Goals as goal

pub declare-requires-clause-differ : goal.declare-requires-clause-differ
declare-requires-clause-differ c =
    let one = c.in_ok-list.ensures.one in
    subst (λ pairs. IsDistinct bytes_eq (keys_of pairs)) (sym (c.in_ok-list.ensures.pairs ∙ ap pairs_by one.1)) (distinct_one one.0)

pub declare-requires-clause-whole : goal.declare-requires-clause-whole
declare-requires-clause-whole c =
    let one = c.in_ok-list.ensures.one in
    whole_one c.in_ok-list.list one.0 (c.in_ok-list.ensures.pairs ∙ ap pairs_by one.1) one.2

pub returns : goal.returns
returns c =
    let one = c.in_ok-list.ensures.one in
    let made = c.in_ok-declare.ensures.ok ∙ ap (declare_in c.args.globals.now) (c.in_ok-list.ensures.pairs ∙ ap pairs_by one.1) in
    record { serves = serves_one c.args.globals.now c.declare.new.self c.args.unit.now one.0 one.1 c.requires.empty made }
