use Rattle.std.proofs.Common.{◌≡◌, ◌∙◌, codes, sym, true}
use Rattle.ld_json.specs.declared.code.Code.TheVariants.{BadType}
use Rattle.ld_json.specs.Fault.{SaysFirst}
use Rattle.ld_model.specs.Counting.{each_numbered}
use Rattle.ld_walk.specs.Places.{fault_at, nth}
use Rattle.ld_types.specs.PropertyFaults.{listed_faults}
use Rattle.ld_types.specs.TermFaults.{is_no_value}
use Rattle.ld_types.proofs.Stops.{says_one, stop_numbered}
use Rattle.ld_types.proofs.properties.check_listed.Goals as goal

pub returns-then-branch-clause-first : goal.returns-then-branch-clause-first
returns-then-branch-clause-first c =
    let kind = c.args.kind in
    let at = c.args.at.now in
    let texts = c.args.texts.now in
    let i = c.loop-i.i in
    let text = c.index-texts-i.result in
    let bad : is_no_value kind text ≡ true = sym c.in_ok-is_no_value.ensures ∙ c.if-branch.true in
    let says : SaysFirst (listed_faults kind at i text) c.fault.result = rw bad (says_one (fault_at BadType (nth at (codes "enumeration") i)) c.fault.result (rw (c.item.ensures, c.member-list.ensures) at c.fault.ensures)) in
    stop_numbered (listed_faults kind at) texts i text (each_numbered (listed_faults kind at) texts) c.fault.result c.loop-i-test.true c.loop-i.invariant (rw c.index-texts-i.is at says)
