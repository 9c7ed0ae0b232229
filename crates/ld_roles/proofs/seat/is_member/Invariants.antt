use Rattle.std.proofs.Common.{◌≡◌, ◌-◌, length, filter}
use Rattle.std.specs.List.{list_any, range_with_len}
use Rattle.ld_roles.specs.Kept.{held_in}
use Rattle.ld_roles.specs.RoleTree.{is_within}
use Rattle.ld_roles.specs.Seats.{is_member_with}
use Rattle.ld_roles.proofs.seat.is_member.Given as goal

abbrev pub invariant-loop-inner : goal.invariant-loop-inner
invariant-loop-inner l =
    list_any (held_in l.holds) (filter (is_within l.roles l.role) (range_with_len l.inner (length l.roles - l.inner))) ≡ is_member_with l.roles l.holds l.role
