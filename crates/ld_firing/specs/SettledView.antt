-- What the program's numbers of a settling stand for.
use Rattle.ld_cascade.specs.Settling.{Sums}
use Rattle.ld_cascade.specs.declared.settled.Settled.{Settled}
use Rattle.ld_firing.specs.RunSettling.{Settlement}
use Rattle.ld_state.specs.RunState.{RunState}

-- The sums among these numbers: the firings, the rejected changes and the notices sent.
abbrev pub sums_in : Settled → Sums
sums_in settled = record { fired = settled.fired; rejected = settled.rejected; sent = settled.sent }

-- The settlement that these numbers tell, and that left the run in this state.
abbrev pub settlement_of : Settled → RunState → Settlement
settlement_of settled s = record { turns = settled.turns; sums = sums_in settled; state = s }
