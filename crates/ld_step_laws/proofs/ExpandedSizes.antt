-- That the size of a unit is at least that of its method.
use Rattle.std.proofs.Common.{◌≡◌, refl, ap, subst, ◌∙◌, ℕ, suc, ◌+◌, ◌≤◌, List, [], ◌∷◌, ◌++◌, map, slice_get, Option, Some, None, codes, arith}
use Rattle.std.proofs.lemmas.List.Sums.{sum_by-append, sum_by-cons}
use Rattle.std.specs.List.{sum_by}
use Rattle.ld_base.specs.Maybe.{◌>>=◌}
use Rattle.ld_json.specs.declared.file.FileNo.TheVariants as file
use Rattle.ld_model.specs.Counting.{each_numbered, each_numbered_from}
use Rattle.ld_model.specs.Roles.{roles_of}
use Rattle.ld_model.specs.declared.method.Act.{Act as ActOf}
use Rattle.ld_model.specs.declared.method.Play.{Play as PlayOf}
use Rattle.ld_model.specs.declared.method.RolePart.{RolePart as RolePartOf}
use Rattle.ld_model.specs.declared.unit.Unit.{Unit}
use Rattle.ld_walk.specs.CommonParts.{items_parts, reference_part, shown_part, unshown_part}
use Rattle.ld_walk.specs.ExpressionParts.{plain_part}
use Rattle.ld_walk.specs.Parts.{Declares, Part}
use Rattle.ld_walk.specs.Places.{At, nth, root}
use Rattle.ld_walk.specs.declared.kind.Kind.TheVariants as kind
use Rattle.ld_walk.specs.declared.kind.Wanted.TheVariants as wanted
use Rattle.ld_walk.specs.declared.place.Place.TheVariants.{Act, Play, RolePart}
use Rattle.ld_parts.specs.Listing.{act_parts, act_parts_at, condition_parts, ending_parts, method_at, method_parts, middle_parts, parts_of, play_parts, play_parts_at, role_part, role_part_parts, role_part_parts_at, unit_parts}
use Rattle.ld_names.specs.Names.{names_of}
use Rattle.ld_refs.specs.Extents.{act_at, feedback_size, part_size, role_part_at, size_in, sizes_of, unit_size}
use Rattle.ld_step_laws.proofs.MethodLooks.{act_nodes, method_nodes, part_nodes, play_nodes}

-- What is listed of each element counts at least what the element does.
sum_listed : {A : Type 0} → (w : Part → ℕ) (f : ℕ → A → List Part) (v : A → ℕ) (n : ℕ) (xs : List A)
    → ((k : ℕ) (x : A) → slice_get xs k ≡ Some x → v x ≤ sum_by w (f (n + k) x)) → sum_by v xs ≤ sum_by w (each_numbered_from f n xs)
sum_listed w f v n [] each = omega arith
sum_listed w f v n (x ∷ xs) each =
    let first : v x ≤ sum_by w (f n x) = subst (λ m. v x ≤ sum_by w (f m x)) (omega arith) (each 0 x refl) in
    let rest = sum_listed w f v (n + 1) xs (λ k y at. subst (λ m. v y ≤ sum_by w (f m y)) (omega arith) (each (suc k) y at)) in
    omega (arith, sum_by-cons v x xs, sum_by-append w (f n x) (each_numbered_from f (n + 1) xs), first, rest)

module _ (unit : Unit) where
  abbrev weight : Part → ℕ
  weight part = size_in unit (sizes_of unit (names_of unit)) (names_of unit) part.what

  -- The same, where the first element has the number 0.
  sum_each : {A : Type 0} → (f : ℕ → A → List Part) (v : A → ℕ) (xs : List A)
      → ((k : ℕ) (x : A) → slice_get xs k ≡ Some x → v x ≤ sum_by weight (f k x)) → sum_by v xs ≤ sum_by weight (each_numbered f xs)
  sum_each f v xs each =
      sum_listed weight f v 0 xs (λ k x at. subst (λ m. v x ≤ sum_by weight (f m x)) (omega arith) (each k x at))

  part_counted : (at : At) (p a r : ℕ) (part : RolePartOf) → role_part_at unit p a r ≡ Some part
      → part_nodes unit part ≤ sum_by weight (role_part_parts_at at p a r part)
  unfolding role_part_parts_at
  part_counted at p a r part found =
      let first = unshown_part at (RolePart p a r) part.identifier in
      let rest = reference_part at (codes "role") wanted.Role part.role ∷ reference_part at (codes "ref") wanted.Target part.target ∷ [] in
      let here : weight first ≡ part_nodes unit part = ap (part_size (sizes_of unit (names_of unit)) (names_of unit)) found in
      omega (arith, sum_by-cons weight first rest, here)

  act_counted : (at : At) (p a : ℕ) (act : ActOf) → act_at unit p a ≡ Some act
      → act_nodes unit act ≤ sum_by weight (act_parts_at at p a act)
  unfolding act_parts_at
  act_counted at p a act found =
      let first = unshown_part at (Act p a) act.identifier in
      let parts = each_numbered (role_part_parts at p a) act.role_parts in
      let ending = ending_parts at (kind.Thing (Act p a)) act.complete act.on_completion in
      let here : weight first ≡ feedback_size act.on_completion = ap (λ (one : Option ActOf). feedback_size (one >>= λ (x : ActOf). x.on_completion)) found in
      let all = sum_each (role_part_parts at p a) (part_nodes unit) act.role_parts
      (λ r part there. part_counted (nth at (codes "role-parts") r) p a r part (ap (λ (one : Option ActOf). one >>= λ (x : ActOf). slice_get x.role_parts r) found ∙ there)) in
      omega (arith, sum_by-cons weight first (parts ++ ending), sum_by-append weight parts ending, here, all)

  play_counted : (at : At) (p : ℕ) (play : PlayOf) → slice_get unit.method.plays p ≡ Some play
      → play_nodes unit play ≤ sum_by weight (play_parts_at at p play)
  unfolding play_parts_at
  play_counted at p play found =
      let first = shown_part at (Play p) play.identifier play.visible in
      let acts = each_numbered (act_parts at p) play.acts in
      let ending = ending_parts at (kind.Thing (Play p)) play.complete play.on_completion in
      let here : weight first ≡ feedback_size play.on_completion = ap (λ (one : Option PlayOf). feedback_size (one >>= λ (x : PlayOf). x.on_completion)) found in
      let all = sum_each (act_parts at p) (act_nodes unit) play.acts
      (λ a act there. act_counted (nth at (codes "acts") a) p a act (ap (λ (one : Option PlayOf). one >>= λ (x : PlayOf). slice_get x.acts a) found ∙ there)) in
      omega (arith, sum_by-cons weight first (acts ++ ending), sum_by-append weight acts ending, here, all)

  plays_counted : sum_by (play_nodes unit) unit.method.plays ≤ sum_by weight (method_parts unit.method)
  unfolding method_parts
  plays_counted =
      let plays = each_numbered (play_parts method_at) unit.method.plays in
      let ending = ending_parts method_at kind.Unit unit.method.complete unit.method.on_completion in
      let all = sum_each (play_parts method_at) (play_nodes unit) unit.method.plays
      (λ p play there. play_counted (nth method_at (codes "plays") p) p play there) in
      omega (arith, sum_by-append weight plays ending, all)

  unit_counted : method_nodes unit ≤ sum_by weight (unit_parts unit)
  unfolding unit_parts
  unit_counted =
      let first = plain_part (root file.Unit) (Declares kind.Unit unit.identifier None) in
      let objectives = items_parts (root file.Unit) (codes "learning-objectives") unit.learning_objectives in
      let prerequisites = items_parts (root file.Unit) (codes "prerequisites") unit.prerequisites in
      let method = method_parts unit.method in
      omega (arith, sum_by-cons weight first (objectives ++ (prerequisites ++ method)), sum_by-append weight objectives (prerequisites ++ method), sum_by-append weight prerequisites method, plays_counted)

  pub method_counted : method_nodes unit ≤ unit_size unit (sizes_of unit (names_of unit)) (names_of unit) (parts_of unit)
  unfolding parts_of
  method_counted =
      let roles = map (role_part (root file.Roles)) (roles_of unit) in
      let conditions = each_numbered (condition_parts (root file.Conditions)) unit.conditions in
      omega (arith, sum_by-append weight roles (middle_parts unit ++ (unit_parts unit ++ conditions)), sum_by-append weight (middle_parts unit) (unit_parts unit ++ conditions), sum_by-append weight (unit_parts unit) conditions, unit_counted)
