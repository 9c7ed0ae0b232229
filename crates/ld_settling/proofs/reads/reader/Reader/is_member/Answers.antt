use Rattle.std.proofs.Common.{◌∙◌}
use Rattle.ld_settling.proofs.Reading.{member_seen}
use Rattle.ld_settling.proofs.reads.reader.Reader.is_member.Goals as goal

pub returns-clause-value : goal.returns-clause-value
returns-clause-value g c =
    let reader = c.args.self.now in
    c.says_yes.ensures.value ∙ member_seen reader.unit.now reader.state.now reader.own c.args.role.0 c.args.person.0
