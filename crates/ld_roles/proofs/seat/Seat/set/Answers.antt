use Rattle.ld_roles.proofs.Numbers.{count_noted}
use Rattle.ld_roles.proofs.seat.Seat.set.Goals as goal

pub note_members-requires-clause-member : goal.note_members-requires-clause-member
note_members-requires-clause-member c = count_noted c.requires.seated
