use Rattle.std.proofs.Common.{◌≡◌, ◌-◌, ◌&&◌, length, filter, not}
use Rattle.std.specs.List.{list_any, range_with_len}
use Rattle.ld_roles.specs.Kept.{persons_of}
use Rattle.ld_roles.specs.Membership.{has_no_room_among, is_full, is_member_among}
use Rattle.ld_roles.specs.RoleTree.{is_within}
use Rattle.ld_roles.proofs.room.has_no_room.Given as goal

abbrev pub invariant-loop-outer : goal.invariant-loop-outer
invariant-loop-outer l =
    list_any (λ outer. not (is_member_among l.seats.roles (persons_of l.seats.rows) outer l.person) && is_full l.seats.roles (persons_of l.seats.rows) outer) (filter (λ outer. is_within l.seats.roles outer l.role) (range_with_len l.outer (length l.seats.roles - l.outer))) ≡ has_no_room_among l.seats.roles (persons_of l.seats.rows) l.role l.person
