-- Roles, and the roles within them. (docs/FORMATS.md, "Documents")
use Rattle.std.specs.Prelude.{◌≡◌, ℕ, ◌+◌, List, [], ◌∷◌, Option, Some, None, Bool, true, false, ◌&&◌, nat_le, length, refl, codes}
use Rattle.std.specs.List.{list_all}
use Rattle.std.specs.Option.{unwrap_or}
use Rattle.std.proofs.Common.{◌∙◌}
use Rattle.std.proofs.lemmas.List.Folds.{list_all-append, list_all-map}
use Rattle.ld_formats.specs.Cases.{object_of_form}
use Rattle.ld_json.specs.Node.{Placed}
use Rattle.ld_model.specs.Counting.{each_numbered_from}
use Rattle.ld_model.specs.RoleRows.{RoleRow, from_above, rows_of_one, rows_within}
use Rattle.ld_model.specs.declared.role.CreateNew.{CreateNew}
use Rattle.ld_model.specs.declared.role.CreateNew.TheVariants.{Allowed, NotAllowed}
use Rattle.ld_model.specs.declared.role.MatchPersons.{MatchPersons}
use Rattle.ld_model.specs.declared.role.MatchPersons.TheVariants.{ExclusivelyInRoles, NotExclusively}
use Rattle.ld_model.specs.declared.role.RoleKind.{RoleKind}
use Rattle.ld_model.specs.declared.role.RoleKind.TheVariants.{Learner, Staff}
use Rattle.ld_shape.specs.Forms.{identifier, title, number}
use Rattle.ld_shape.specs.Keeping.{if_given}
use Rattle.ld_shape.specs.Keys.{made_key}
use Rattle.ld_shape.specs.Lists.{list, list_of}
use Rattle.ld_shape.specs.Objects.{Members, object, ◌and◌, needed, needed_in, optional, or_default, only_members}
use Rattle.ld_shape.specs.Recursion.{Formed, shape_of, formed_by}
use Rattle.ld_shape.specs.Shapes.{Shape, HasKey, by_key}
use Rattle.ld_shape.specs.Words.{one_of, one_of_but}
use Rattle.ld_value.proofs.Choices.{and_left, and_right, both}

-- ---- single members

-- The kinds of roles, by their words.
abbrev pub kind_words : List (List ℕ × RoleKind)
kind_words = (codes "learner", Learner) ∷ (codes "staff", Staff) ∷ []

-- Whether a person may be a member of several roles right within this one, by the words for it.
abbrev pub match_words : List (List ℕ × MatchPersons)
match_words = (codes "exclusively-in-roles", ExclusivelyInRoles) ∷ (codes "not-exclusively", NotExclusively)
    ∷ []

-- New occurrences of roles are left out of this engine.
abbrev pub makes_none : CreateNew → Bool
makes_none NotAllowed = true
makes_none Allowed = false

-- `create-new`, which may be `not-allowed` alone; `allowed` is left out of this engine.
abbrev pub creation : Shape CreateNew
creation = one_of_but ((codes "not-allowed", NotAllowed) ∷ []) makes_none refl (codes "allowed" ∷ [])

-- A number of persons, at most 1,000,000.
abbrev pub persons : Shape ℕ
persons = number 0 1000000

-- ---- the form of roles

-- Whether both are the kind of learners, or both that of staff.
abbrev pub same_kind : RoleKind → RoleKind → Bool
same_kind Learner Learner = true
same_kind Staff Staff = true
same_kind _ _ = false

-- A role of this kind, whose numbers of members are at most 1,000,000.
abbrev pub is_formed_row : RoleKind → RoleRow → Bool
is_formed_row kind row =
    identifier.has_form row.identifier
    && (same_kind row.kind kind
    && (if_given title.has_form row.title
    && (makes_none row.create_new
    && (persons.has_form row.min_persons && if_given persons.has_form row.max_persons))))

-- A role of this kind and those within it, which have its kind.
abbrev pub is_formed_role : RoleKind → List RoleRow → Bool
is_formed_role kind rows = list_all (is_formed_row kind) rows

kind_is_itself : (kind : RoleKind) → same_kind kind kind ≡ true
kind_is_itself Learner = refl
kind_is_itself Staff = refl

-- Roles of a kind are so, seen from above, too.
rows_formed : (kind : RoleKind) (n : ℕ) (roles : List (List RoleRow))
    → list_all (is_formed_role kind) roles ≡ true
    → list_all (is_formed_row kind) (each_numbered_from rows_of_one n roles) ≡ true
rows_formed kind n [] is = refl
rows_formed kind n (rows ∷ more) is =
    list_all-append (is_formed_row kind) (rows_of_one n rows) (each_numbered_from rows_of_one (n + 1) more)
    ∙ both (list_all (is_formed_row kind) (rows_of_one n rows))
    (list_all (is_formed_row kind) (each_numbered_from rows_of_one (n + 1) more))
    (list_all-map (is_formed_row kind) (from_above n) rows
    ∙ and_left (is_formed_role kind rows) (list_all (is_formed_role kind) more) is)
    (rows_formed kind (n + 1) more (and_right (is_formed_role kind rows)
    (list_all (is_formed_role kind) more) is))

-- ---- what an object of a role holds

-- What is told of a role besides its identifier and its kind, and the roles within it.
abbrev pub RoleTold : Type 0
RoleTold = Option (List ℕ) × (CreateNew × (MatchPersons × (ℕ × (Option ℕ × List (List RoleRow)))))

-- The members behind the identifier and the kind; the roles within are of this shape.
unfoldable pub told_members : Shape (List RoleRow) → Members RoleTold
told_members inner =
    optional (codes "title") title
    and or_default (codes "create-new") NotAllowed creation refl
    and or_default (codes "match-persons") NotExclusively (one_of match_words) refl
    and or_default (codes "min-persons") 0 persons refl
    and optional (codes "max-persons") persons
    and list (codes "roles") inner

-- A role of this kind with those within it.
abbrev pub role_rows : RoleKind → List ℕ → RoleTold → List RoleRow
role_rows kind id (caption, (create, (match, (least, (most, roles))))) =
    record {
      identifier = id;
      kind = kind;
      title = caption;
      create_new = create;
      match_persons = match;
      min_persons = least;
      max_persons = most;
      path = [];
    } ∷ rows_within roles

tests_hold : (a b c d e f same g : Bool) → a && (b && (c && (d && (e && f)))) ≡ true → same ≡ true
    → (f ≡ true → g ≡ true) → (a && (same && (b && (c && (d && e))))) && g ≡ true
tests_hold true true true true true true same g is equal next = rw equal (next refl)
tests_hold true true true true true false same g is equal next = cc
tests_hold true true true true false f same g is equal next = cc
tests_hold true true true false e f same g is equal next = cc
tests_hold true true false d e f same g is equal next = cc
tests_hold true false c d e f same g is equal next = cc
tests_hold false b c d e f same g is equal next = cc

-- What is read from an object of a role is so formed, where the roles within are.
pub rows_keep : (kind : RoleKind) (inner : Formed (is_formed_role kind)) (p : List ℕ × RoleTold)
    → identifier.has_form p.0 && (told_members (shape_of inner)).shape.has_form p.1 ≡ true
    → is_formed_role kind (role_rows kind p.0 p.1) ≡ true
unfolding told_members
rows_keep kind inner (id, (caption, (create, (match, (least, (most, roles)))))) is =
    tests_hold (identifier.has_form id) (if_given title.has_form caption) (makes_none create)
    (persons.has_form least) (if_given persons.has_form most)
    (nat_le 0 (length roles) && list_all (is_formed_role kind) roles)
    (same_kind kind kind) (list_all (is_formed_row kind) (rows_within roles))
    is (kind_is_itself kind) (λ are. rows_formed kind 0 roles
    (and_right (nat_le 0 (length roles)) (list_all (is_formed_role kind) roles) are))

-- ---- roles within roles

-- A role of this kind within another, made of such roles within it; it has no kind of its own.
abbrev pub inner_step : (kind : RoleKind) → Formed (is_formed_role kind) → Shape (List RoleRow)
inner_step kind inner = object_of_form (λ p. role_rows kind p.0 p.1) (is_formed_role kind)
    (needed (codes "identifier") identifier
    and told_members (shape_of inner))
    (rows_keep kind inner)

-- A role of this kind within another, and the roles within it.
unfoldable pub inner_role : (kind : RoleKind) → Formed (is_formed_role kind)
inner_role kind = formed_by (inner_step kind) (λ _ _ is. is)

-- ---- roles at the top

-- The kind of the role at a node. (Where it is none of the two, nothing of the role is kept.)
abbrev pub role_kind : Placed → RoleKind
role_kind node = unwrap_or ((needed_in (codes "kind") (one_of kind_words)).reading node).value Learner

-- The members of a role at the top, the roles within which have this kind.
abbrev pub role_members : RoleKind → Members (List ℕ × (RoleKind × RoleTold))
role_members kind =
    needed (codes "identifier") identifier
    and needed (codes "kind") (one_of kind_words)
    and told_members (shape_of (inner_role kind))

-- A role at the top with the roles within it, all of this kind.
unfoldable pub role_of : RoleKind → Shape (List RoleRow)
role_of kind = object_of_form (λ p. role_rows kind p.0 p.1.1) (is_formed_role kind) (role_members kind)
    (λ p. rows_keep kind (inner_role kind) (p.0, p.1.1))

-- The kind of rows is that of the first.
abbrev pub kind_of_rows : List RoleRow → RoleKind
kind_of_rows [] = Learner
kind_of_rows (row ∷ _) = row.kind

same_key : {A K : Type 0} (k : K) (o : Option A) → HasKey (λ _. k) k o
same_key k None = tt
same_key k (Some _) = refl

-- The rows that are read of a role have the kind that is told at its node.
pub role_has_kind : (node : Placed) → HasKey kind_of_rows (role_kind node)
    ((role_of (role_kind node)).reading node).value
unfolding role_of
role_has_kind node =
    let members = role_members (role_kind node) in
    made_key kind_of_rows (role_kind node) _ (only_members members node).value
    (members.shape.reading node).value (same_key (role_kind node) _)

-- A role at the top, and the roles within it, which have its kind.
unfoldable pub role : Shape (List RoleRow)
role = by_key role_kind role_of kind_of_rows role_has_kind

-- The document of roles.
unfoldable pub roles_document : Shape (List (List RoleRow))
roles_document = object (λ x. x) (λ x. x) (λ _. refl) (needed (codes "roles") (list_of 1 role))
