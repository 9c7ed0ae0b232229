use Rattle.std.proofs.Common.{◌≡◌, length, map, take}
use Rattle.ld_base.specs.Numbers.{numbers_below}
use Rattle.ld_roles.specs.Seats.{is_member_with}
use Rattle.ld_roles.proofs.seat.note_members.Given as goal

abbrev pub invariant-loop-role : goal.invariant-loop-role
invariant-loop-role l = record {
  count : length l.member.items ≡ length l.roles;
  noted : take l.role l.member.items ≡ map (is_member_with l.roles l.holds) (numbers_below l.role);
}
