use Rattle.std.proofs.Common.{◌≡◌, ◌-◌, ◌&&◌, length, filter, not, nat_eq}
use Rattle.std.specs.List.{list_any, range_with_len}
use Rattle.ld_roles.specs.Kept.{persons_of}
use Rattle.ld_roles.specs.Membership.{is_member_among}
use Rattle.ld_roles.specs.RoleTree.{child_roles, is_directly_in, stand_so}
use Rattle.ld_roles.proofs.exclusion.is_in_other.Given as goal

abbrev pub invariant-loop-other : goal.invariant-loop-other
invariant-loop-other l =
    list_any (λ other. not (nat_eq other l.child) && is_member_among l.seats.roles (persons_of l.seats.rows) other l.person) (filter (stand_so l.seats.roles is_directly_in l.outer) (range_with_len l.other (length l.seats.roles - l.other))) ≡ list_any (λ other. not (nat_eq other l.child) && is_member_among l.seats.roles (persons_of l.seats.rows) other l.person) (child_roles l.seats.roles l.outer)
