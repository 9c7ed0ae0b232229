use Rattle.std.proofs.Common.{◌≡◌, ◌≤◌, length, option_map, filter, reverse}
use Rattle.std.specs.List.{range_with_len}
use Rattle.ld_roles.specs.Kept.{persons_of}
use Rattle.ld_roles.specs.Membership.{dropped, first_short, short_once_dropped_among}
use Rattle.ld_roles.specs.Refusals.{short_of}
use Rattle.ld_roles.specs.RoleTree.{is_within}
use Rattle.ld_roles.proofs.shortage.short_once_dropped.Given as goal

abbrev pub invariant-loop-role : goal.invariant-loop-role
invariant-loop-role l = record {
  within : l.role ≤ length l.seats.roles;
  rest : option_map short_of (first_short l.seats.roles (dropped (persons_of l.seats.rows) l.dropped l.person) (reverse (filter (λ outer. is_within l.seats.roles outer l.dropped) (range_with_len 0 l.role)))) ≡ option_map short_of (short_once_dropped_among l.seats.roles (persons_of l.seats.rows) l.dropped l.person);
}

abbrev pub decreases-loop-role : goal.decreases-loop-role
decreases-loop-role l = l.role
