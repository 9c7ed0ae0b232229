-- Trees of roles are canonical.
use Rattle.std.specs.Prelude.{◌≡◌, ℕ, zero, suc, List, [], ◌∷◌, map, length, Some, false, codes}
use Rattle.std.proofs.Common.{refl}
use Rattle.serde_json.specs.Data.{Data, string, array}
use Rattle.serde_json.specs.View.{items_of}
use Rattle.ld_formats.specs.Roles.{makes_none}
use Rattle.ld_model.specs.RoleRows.{RoleRow}
use Rattle.ld_model.specs.declared.role.CreateNew.{CreateNew}
use Rattle.ld_model.specs.declared.role.CreateNew.TheVariants.{Allowed, NotAllowed}
use Rattle.ld_model.specs.declared.role.MatchPersons.{MatchPersons}
use Rattle.ld_model.specs.declared.role.MatchPersons.TheVariants.{ExclusivelyInRoles, NotExclusively}
use Rattle.ld_model.specs.declared.role.RoleKind.{RoleKind}
use Rattle.ld_model.specs.declared.role.RoleKind.TheVariants.{Learner, Staff}
use Rattle.ld_canon.specs.RoleGroups.{roles_in}
use Rattle.ld_canon.specs.Roles.{kind_word, match_word, match_persons, creation_word, creation, persons, is_open, is_zero, told_rows, inner_tree_within, role_tree, EachIs, IsRoleWithin, IsRole, roles_tree}
use Rattle.ld_prints.specs.Canonical.{MayHold, HasItem, IsCanonical, EachCanonical}
use Rattle.ld_prints.specs.CanonicalRows.{HoldsCanonical, RowsHold, plain_holds, given_holds, other_word, other_number, object_canonical}
use Rattle.ld_prints.specs.Forms.{title}
use Rattle.ld_prints.specs.Lists.{some_trees}
use Rattle.ld_prints.specs.Objects.{unless_holds}

-- ---- single members

kind_may : (kind : RoleKind) → MayHold (codes "kind") (string (kind_word kind))
kind_may Learner = other_word (codes "kind") (codes "learning") (codes "learner") refl refl refl
kind_may Staff = other_word (codes "kind") (codes "learning") (codes "staff") refl refl refl

creation_may : (way : CreateNew) → makes_none way ≡ false → MayHold (codes "create-new") (string (creation_word way))
creation_may NotAllowed is = cc
creation_may Allowed is = other_word (codes "create-new") (codes "not-allowed") (codes "allowed") refl refl refl

match_may : (way : MatchPersons) → is_open way ≡ false → MayHold (codes "match-persons") (string (match_word way))
match_may NotExclusively is = cc
match_may ExclusivelyInRoles is =
    other_word (codes "match-persons") (codes "not-exclusively") (codes "exclusively-in-roles") refl refl refl

roles_hold : (trees : List Data) → EachCanonical (items_of trees) → HoldsCanonical (codes "roles") (some_trees trees)
roles_hold [] are = tt
roles_hold (tree ∷ trees) are =
    (plain_holds (codes "roles") (array (items_of (tree ∷ trees))) refl, (tt, are))

-- What is told of a role, where the roles within it have canonical trees.
told_hold : (row : RoleRow) (trees : List Data) → EachCanonical (items_of trees) → RowsHold (told_rows row trees)
told_hold row trees are = (
  given_holds (codes "title") title.print row.title
      (λ text _. (plain_holds (codes "title") (title.print text) refl, tt)),
  (
    unless_holds (codes "create-new") (makes_none row.create_new) creation.print row.create_new
        (creation_may row.create_new) (λ _. tt),
    (
      unless_holds (codes "match-persons") (is_open row.match_persons) match_persons.print row.match_persons
          (match_may row.match_persons) (λ _. tt),
      (
        unless_holds (codes "min-persons") (is_zero row.min_persons) persons.print row.min_persons
            (λ other. other_number (codes "min-persons") 0 row.min_persons refl refl other) (λ _. tt),
        (
          given_holds (codes "max-persons") persons.print row.max_persons
              (λ most _. (plain_holds (codes "max-persons") (persons.print most) refl, tt)),
          (roles_hold trees are, tt),
        ),
      ),
    ),
  ),
)

-- ---- roles

-- The trees of roles are canonical, where that of each is.
each_role : {A : Type 0} (Is : A → Type 0) (tree : A → Data) → ((x : A) → Is x → IsCanonical (tree x))
    → (xs : List A) → EachIs Is xs → EachCanonical (items_of (map tree xs))
each_role Is tree law [] are = tt
each_role Is tree law (x ∷ xs) are = (law x are.0, each_role Is tree law xs are.1)

-- A role within another.
inner_canonical : (deep : ℕ) (rows : List RoleRow) → IsRoleWithin deep rows
    → IsCanonical (inner_tree_within deep rows)
inner_canonical zero rows is = absurd is
inner_canonical (suc deep) [] is = absurd is
inner_canonical (suc deep) (row ∷ rows) is =
    object_canonical ((codes "identifier", Some (string row.identifier))
    ∷ told_rows row (map (inner_tree_within deep) (roles_in rows))) (
      (plain_holds (codes "identifier") (string row.identifier) refl, tt),
      told_hold row (map (inner_tree_within deep) (roles_in rows))
          (each_role (IsRoleWithin deep) (inner_tree_within deep) (inner_canonical deep) (roles_in rows) is.2),
    )

-- A role at the top.
role_canonical : (rows : List RoleRow) → IsRole rows → IsCanonical (role_tree rows)
role_canonical [] is = absurd is
role_canonical (row ∷ rows) is =
    object_canonical ((codes "identifier", Some (string row.identifier))
    ∷ (codes "kind", Some (string (kind_word row.kind)))
    ∷ told_rows row (map (inner_tree_within (length rows)) (roles_in rows))) (
      (plain_holds (codes "identifier") (string row.identifier) refl, tt),
      (
        (kind_may row.kind, tt),
        told_hold row (map (inner_tree_within (length rows)) (roles_in rows))
            (each_role (IsRoleWithin (length rows)) (inner_tree_within (length rows)) (inner_canonical (length rows))
            (roles_in rows) is.2),
      ),
    )

-- The tree of the document of roles, of which there is at least one.
pub roles_canonical : (roles : List (List RoleRow)) → HasItem (items_of (map role_tree roles)) → EachIs IsRole roles
    → IsCanonical (roles_tree roles)
roles_canonical roles some are =
    object_canonical ((codes "roles", Some (array (items_of (map role_tree roles)))) ∷ []) (
      (
        plain_holds (codes "roles") (array (items_of (map role_tree roles))) refl,
        (some, each_role IsRole role_tree role_canonical roles are),
      ),
      tt,
    )
