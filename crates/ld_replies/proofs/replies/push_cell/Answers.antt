use Rattle.ld_replies.proofs.SeenInRuns.{value_printable}
use Rattle.ld_replies.proofs.replies.push_cell.Goals as goal

pub push_value-requires : goal.push_value-requires
push_value-requires g c =
    value_printable c.args.unit.now c.args.state.now c.requires.own c.requires.sound c.args.cell _ c.get.ensures.value
