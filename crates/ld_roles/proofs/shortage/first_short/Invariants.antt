use Rattle.std.proofs.Common.{◌≡◌, ◌-◌, length, option_map}
use Rattle.std.specs.List.{range_with_len}
use Rattle.ld_roles.specs.Kept.{persons_of}
use Rattle.ld_roles.specs.Membership.{first_short, short_at_start_among}
use Rattle.ld_roles.specs.Refusals.{short_of}
use Rattle.ld_roles.proofs.shortage.first_short.Given as goal

abbrev pub invariant-loop-role : goal.invariant-loop-role
invariant-loop-role l =
    option_map short_of (first_short l.seats.roles (persons_of l.seats.rows) (range_with_len l.role (length l.seats.roles - l.role))) ≡ option_map short_of (short_at_start_among l.seats.roles (persons_of l.seats.rows))
