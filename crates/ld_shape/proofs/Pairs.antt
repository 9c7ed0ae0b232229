-- The two nodes of an array of two.
use Rattle.std.proofs.Common.{◌≡◌, List, [], ◌∷◌, length, slice_get, Some, None, refl, arith}
use Rattle.ld_json.specs.Node.{Placed}
use Rattle.ld_shape.specs.Lists.{two_among}

pub both_nodes : (nodes : List Placed) (first second : Placed) → length nodes ≡ 2 → slice_get nodes 0 ≡ Some first → slice_get nodes 1 ≡ Some second
    → two_among nodes ≡ Some (first, second)
both_nodes [] first second two one other = cc
both_nodes (_ ∷ []) first second two one other = cc
both_nodes (a ∷ (b ∷ [])) first second two one other = cc
both_nodes (_ ∷ (_ ∷ (_ ∷ rest))) first second two one other = absurd (omega arith)

pub not_two : (nodes : List Placed) → (length nodes ≡ 2 → ⊥) → two_among nodes ≡ None
not_two [] other = refl
not_two (_ ∷ []) other = refl
not_two (_ ∷ (_ ∷ [])) other = absurd (other refl)
not_two (_ ∷ (_ ∷ (_ ∷ _))) other = refl
