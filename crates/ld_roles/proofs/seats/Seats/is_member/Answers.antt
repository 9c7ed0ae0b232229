use Rattle.std.proofs.Common.{◌∙◌, List, ℕ, arith}
use Rattle.std.proofs.lemmas.Option.{get_or_from_slice_get}
use Rattle.ld_roles.specs.declared.seat.Seat.{Seat}
use Rattle.ld_roles.proofs.Numbers.{count_noted}
use Rattle.ld_roles.proofs.Seating.{noted_among}
use Rattle.ld_roles.proofs.seats.Seats.is_member.Goals as goal

pub index-requires : goal.index-requires
index-requires c = omega (arith, c.requires.role, count_noted c.entry.ensures.seated)

pub returns : goal.returns
returns c =
    let entry : List ℕ × Seat = (c.entry.result.0.now, c.entry.result.1.now) in
    let noted = noted_among c.args.self.now.rows c.args.person c.args.role entry c.entry.ensures.seated c.entry.ensures.row c.requires.role in
    c.index.ensures ∙ get_or_from_slice_get entry.1.member.items c.args.role _ c.index.result.now noted
