use Rattle.std.proofs.Common.{◌≡◌, ◌-◌, length, filter}
use Rattle.std.specs.List.{list_any, range_with_len}
use Rattle.ld_roles.specs.Kept.{held_in}
use Rattle.ld_roles.specs.RoleTree.{is_within, with_inner}
use Rattle.ld_roles.specs.Seats.{without}
use Rattle.ld_roles.proofs.seat.is_member_without.Given as goal

abbrev pub invariant-loop-inner : goal.invariant-loop-inner
invariant-loop-inner l =
    list_any (without l.dropped (held_in l.holds)) (filter (is_within l.roles l.role) (range_with_len l.inner (length l.roles - l.inner))) ≡ list_any (without l.dropped (held_in l.holds)) (with_inner l.roles l.role)
