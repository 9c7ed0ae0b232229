-- The lines of roles, by what is kept of a run's persons.
use Rattle.std.specs.Prelude.{ℕ, List, [], ◌∷◌, ◌++◌, codes, decimal}
use Rattle.ld_roles.specs.Membership.{member_count}
use Rattle.ld_roles.specs.Persons.{Persons}
use Rattle.ld_roles.specs.RoleBounds.{RoleBounds}
use Rattle.ld_replies.specs.Reports.{WordLine}

-- The line of the role of this number and this identifier.
abbrev pub role_line : List RoleBounds → Persons → ℕ → List ℕ → List WordLine
role_line roles persons number id =
    (codes "role" ∷ id ∷ (codes "members=" ++ decimal (member_count roles persons number)) ∷ []) ∷ []
