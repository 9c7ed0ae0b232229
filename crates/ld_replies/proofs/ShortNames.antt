-- That the identifier of each role of a well-formed unit has at most 64 bytes.
use Rattle.std.proofs.Common.{◌≡◌, refl, ◌∙◌, ℕ, zero, suc, ◌+◌, ◌≤◌, List, [], ◌∷◌, length, slice_get, Bool, true, nat_le, unwrap_or, arith}
use Rattle.std.proofs.lemmas.Bool.{leb-true}
use Rattle.std.proofs.lemmas.List.Folds.{list_all-append, list_all-map}
use Rattle.std.specs.List.{list_all}
use Rattle.std.specs.Option.{option_map}
use Rattle.ld_base.specs.Identifier.{begins_well, continues_identifier, has_identifier_form}
use Rattle.ld_formats.specs.Roles.{is_formed_row, is_formed_role, kind_of_rows, role, role_of, roles_document}
use Rattle.ld_formats.specs.Units.{is_well_formed, unit as unit_shape, parts, declared_parts}
use Rattle.ld_model.specs.Counting.{each_numbered_from}
use Rattle.ld_model.specs.RoleRows.{RoleRow, from_above, rows_of_one}
use Rattle.ld_model.specs.Roles.{roles_of}
use Rattle.ld_model.specs.declared.unit.Unit.{Unit}
use Rattle.ld_value.proofs.Choices.{and_left, and_right, both}

-- The row's identifier is one.
abbrev is_named : RoleRow → Bool
is_named row = has_identifier_form row.identifier

all_named : (kind : _) (rows : List RoleRow) → is_formed_role kind rows ≡ true → list_all is_named rows ≡ true
all_named kind [] are = refl
all_named kind (row ∷ rows) are =
    both (is_named row) (list_all is_named rows)
    (and_left (is_named row) _ (and_left (is_formed_row kind row) (is_formed_role kind rows) are))
    (all_named kind rows (and_right (is_formed_row kind row) (is_formed_role kind rows) are))

named_within : (n : ℕ) (roles : List (List RoleRow)) → list_all role.has_form roles ≡ true
    → list_all is_named (each_numbered_from rows_of_one n roles) ≡ true
unfolding role role_of
named_within n [] are = refl
named_within n (rows ∷ more) are =
    list_all-append is_named (rows_of_one n rows) (each_numbered_from rows_of_one (n + 1) more)
    ∙ both (list_all is_named (rows_of_one n rows)) (list_all is_named (each_numbered_from rows_of_one (n + 1) more))
    (list_all-map is_named (from_above n) rows
    ∙ all_named (kind_of_rows rows) rows (and_left (role.has_form rows) (list_all role.has_form more) are))
    (named_within (n + 1) more (and_right (role.has_form rows) (list_all role.has_form more) are))

roles_named : (unit : Unit) → is_well_formed unit ≡ true → list_all is_named (roles_of unit) ≡ true
unfolding is_well_formed unit_shape parts roles_document
roles_named unit formed =
    let own = and_left (parts.has_form (declared_parts unit)) _ formed in
    let roles = and_left (roles_document.has_form unit.roles) _ own in
    named_within 0 unit.roles (and_right (nat_le 1 (length unit.roles)) (list_all role.has_form unit.roles) roles)

short : (bytes : List ℕ) → has_identifier_form bytes ≡ true → length bytes ≤ 64
short bytes is =
    leb-true (length bytes) 64
    (and_left (nat_le (length bytes) 64) (list_all continues_identifier bytes) (and_right (begins_well bytes) _ is))

-- Of the row of this number, if there is one.
short_at : (rows : List RoleRow) (r : ℕ) → list_all is_named rows ≡ true
    → length (unwrap_or (option_map (λ row. row.identifier) (slice_get rows r)) []) ≤ 64
short_at [] r are = omega arith
short_at (row ∷ rows) zero are = short row.identifier (and_left (is_named row) (list_all is_named rows) are)
short_at (row ∷ rows) (suc r) are = short_at rows r (and_right (is_named row) (list_all is_named rows) are)

pub role_identifiers_short : (unit : Unit) (r : ℕ) → is_well_formed unit ≡ true
    → length (unwrap_or (option_map (λ row. row.identifier) (slice_get (roles_of unit) r)) []) ≤ 64
role_identifiers_short unit r formed = short_at (roles_of unit) r (roles_named unit formed)
