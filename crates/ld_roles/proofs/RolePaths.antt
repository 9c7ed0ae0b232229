-- The ways to roles within roles.
use Rattle.std.proofs.Common.{◌≡◌, ℕ, List, [], ◌∷◌, ◌++◌, map, refl, ap, append_assoc, sym, ◌∙◌}
use Rattle.std.proofs.lemmas.List.{append-nil}
use Rattle.ld_model.specs.RoleRows.{RoleRow, rows_of_one, from_above}
use Rattle.ld_roles.specs.Entries.{bounds_below}
use Rattle.ld_roles.specs.RoleBounds.{RoleBounds}

one_further : (path : List ℕ) (n : ℕ) (row : RoleRow) → bounds_below path (from_above n row) ≡ bounds_below (path ++ n ∷ []) row
one_further path n row = (λ i. record { path = sym (append_assoc path (n ∷ []) row.path) i; match_persons = row.match_persons; min_persons = row.min_persons; max_persons = row.max_persons })

-- A role's rows, seen from above.
pub rows_below : (path : List ℕ) (n : ℕ) (rows : List RoleRow) → map (bounds_below path) (rows_of_one n rows) ≡ map (bounds_below (path ++ n ∷ [])) rows
rows_below path n [] = refl
rows_below path n (row ∷ rows) = (λ i. one_further path n row i ∷ rows_below path n rows i)

-- A role's own bounds, behind those of the roles before it, and then those of the roles within it.
pub own_first : (before : List RoleBounds) (path : List ℕ) (own : RoleBounds) (row : RoleRow) (within : List RoleRow) → own.path ≡ path → own.match_persons ≡ row.match_persons → own.min_persons ≡ row.min_persons → own.max_persons ≡ row.max_persons → row.path ≡ [] → (before ++ own ∷ []) ++ map (bounds_below path) within ≡ before ++ map (bounds_below path) (row ∷ within)
own_first before path own row within p m l g top =
    let is : own ≡ bounds_below path row = (λ i. record { path = (p ∙ sym (append-nil path) ∙ ap (λ rest. path ++ rest) (sym top)) i; match_persons = m i; min_persons = l i; max_persons = g i }) in
    append_assoc before (own ∷ []) (map (bounds_below path) within) ∙ ap (λ first. before ++ first ∷ map (bounds_below path) within) is
