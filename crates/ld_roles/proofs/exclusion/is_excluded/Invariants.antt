use Rattle.std.proofs.Common.{◌≡◌, ◌-◌, ◌&&◌, length}
use Rattle.std.specs.List.{list_any, range_with_len}
use Rattle.ld_roles.specs.Kept.{persons_of}
use Rattle.ld_roles.specs.Membership.{is_excluded_among, is_split, keeps_in_one}
use Rattle.ld_roles.specs.RoleTree.{child_roles}
use Rattle.ld_roles.proofs.exclusion.is_excluded.Given as goal

abbrev pub invariant-loop-outer : goal.invariant-loop-outer
invariant-loop-outer l =
    list_any (λ outer. keeps_in_one l.seats.roles outer && is_split l.seats.roles (persons_of l.seats.rows) l.role l.person (child_roles l.seats.roles outer)) (range_with_len l.outer (length l.seats.roles - l.outer)) ≡ is_excluded_among l.seats.roles (persons_of l.seats.rows) l.role l.person
