-- The cells that say of which roles a person is a member, from one role on.
use Rattle.std.proofs.Common.{◌≡◌, ℕ, ◌+◌, ◌<◌, List, ◌∷◌, add-one, drop, get_or, length, map, refl, ap, ◌∙◌}
use Rattle.std.proofs.Math.Seq.{drop-cons}
use Rattle.ld_expr.specs.Seen.{member_cell}

pub from_role : (p : ℕ) (roles : List ℕ) (i : ℕ) → i < length roles
    → map (λ r. member_cell r p) (drop i roles) ≡ member_cell (get_or roles i 0) p ∷ map (λ r. member_cell r p) (drop (i + 1) roles)
from_role p roles i within =
    let cut : drop i roles ≡ get_or roles i 0 ∷ drop (i + 1) roles = drop-cons roles i 0 within ∙ rw (add-one i) refl in
    ap (map (λ r. member_cell r p)) cut
