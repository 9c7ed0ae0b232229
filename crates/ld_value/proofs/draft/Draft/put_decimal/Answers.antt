use Rattle.std.proofs.Common.{arith}
use Rattle.ld_value.proofs.Decimals.{room_left, digit_put, last_put}
use Rattle.ld_value.proofs.draft.Draft.put_decimal.Goals as goal

pub put-requires : goal.put-requires
put-requires c =
    room_left c.args.number c.loop-rest.rest c.args.self.now c.loop-rest.self (omega arith) c.loop-rest.invariant c.requires

pub loop-rest-preserved : goal.loop-rest-preserved
loop-rest-preserved c =
    digit_put c.args.number c.loop-rest.rest c.args.self.now c.loop-rest.self c.put.new.self (omega arith) c.loop-rest-test.true c.loop-rest.invariant c.put.ensures

pub put-requires-2 : goal.put-requires-2
put-requires-2 c =
    room_left c.args.number c.loop-rest.rest c.args.self.now c.loop-rest.self (omega arith) c.loop-rest.invariant c.requires

pub returns : goal.returns
returns c =
    last_put c.args.number c.loop-rest.rest c.args.self.now c.loop-rest.self c.put-2.new.self c.loop-rest-test.false c.loop-rest.invariant c.put-2.ensures
