use Rattle.std.proofs.Common.{◌≡◌, ◌-◌, ◌&&◌, length, filter, not, nat_eq}
use Rattle.std.specs.List.{list_any, range_with_len}
use Rattle.ld_roles.specs.Kept.{persons_of}
use Rattle.ld_roles.specs.Membership.{is_member_among, is_split}
use Rattle.ld_roles.specs.RoleTree.{child_roles, is_directly_in, is_within, stand_so}
use Rattle.ld_roles.proofs.exclusion.is_split.Given as goal

abbrev pub invariant-loop-child : goal.invariant-loop-child
invariant-loop-child l =
    list_any (λ child. is_within l.seats.roles child l.role && list_any (λ other. not (nat_eq other child) && is_member_among l.seats.roles (persons_of l.seats.rows) other l.person) (child_roles l.seats.roles l.outer)) (filter (stand_so l.seats.roles is_directly_in l.outer) (range_with_len l.child (length l.seats.roles - l.child))) ≡ is_split l.seats.roles (persons_of l.seats.rows) l.role l.person (child_roles l.seats.roles l.outer)
