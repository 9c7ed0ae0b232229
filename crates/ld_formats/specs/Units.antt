-- The documents of a unit, and the unit that they stand for. (docs/FORMATS.md, "Documents")
use Rattle.std.specs.Prelude.{ℕ, List, [], ◌∷◌, Option, Some, None, Bool, nat_eq, refl, codes}
use Rattle.ld_json.specs.Access.{whole_of}
use Rattle.ld_json.specs.declared.code.Code.{Code}
use Rattle.ld_json.specs.declared.code.Code.TheVariants.{WrongShape, NotInProfile}
use Rattle.ld_json.specs.declared.file.FileNo.TheVariants as file
use Rattle.ld_model.specs.declared.condition.Condition.{Condition}
use Rattle.ld_model.specs.declared.item.Item.{Item}
use Rattle.ld_model.specs.declared.method.Method.{Method}
use Rattle.ld_model.specs.declared.unit.Level.{Level}
use Rattle.ld_model.specs.declared.unit.Level.TheVariants.{A, B, C}
use Rattle.ld_model.specs.declared.unit.Parts.{Parts}
use Rattle.ld_model.specs.declared.unit.Unit.{Unit}
use Rattle.ld_shape.specs.Documents.{UnitShape, required_in, document_or}
use Rattle.ld_shape.specs.Forms.{identifier, title, text, number}
use Rattle.ld_shape.specs.Keeping.{tested, tested_keeps}
use Rattle.ld_shape.specs.Lists.{list}
use Rattle.ld_shape.specs.Objects.{Members, object, ◌and◌, needed, optional, or_default}
use Rattle.ld_shape.specs.Shapes.{Shape, coded_leaf, pair, made}
use Rattle.ld_shape.specs.Words.{one_of}
use Rattle.ld_formats.specs.Structures.{activities_document}
use Rattle.ld_formats.specs.Conditions.{conditions_document}
use Rattle.ld_formats.specs.Environments.{environments_document}
use Rattle.ld_formats.specs.Items.{item}
use Rattle.ld_formats.specs.Methods.{method}
use Rattle.ld_formats.specs.Properties.{properties_document}
use Rattle.ld_formats.specs.Roles.{roles_document}

-- ---- the unit's own document

-- A number that is no format, or one of another format; or no number.
abbrev pub format_fault : Option ℕ → Code
format_fault None = WrongShape
format_fault (Some _) = NotInProfile

-- The number of the format, which is 1.
unfoldable pub format : Shape ℕ
format = coded_leaf (λ tree. format_fault (whole_of tree)) (λ tree. tested (nat_eq 1) (whole_of tree))
    (nat_eq 1) (λ tree. tested_keeps (nat_eq 1) (whole_of tree))

-- The levels of units, by their words.
abbrev pub level_words : List (List ℕ × Level)
level_words = (codes "A", A) ∷ (codes "B", B) ∷ (codes "C", C) ∷ []

-- What the unit's own document tells.
pub record Head : Type 0 where
  pub format : ℕ
  pub identifier : List ℕ
  pub level : Level
  pub title : Option (List ℕ)
  pub turns : ℕ
  pub metadata : Option (List ℕ)
  pub learning_objectives : List Item
  pub prerequisites : List Item
  pub method : Method

-- What stands behind the level.
abbrev pub Content : Type 0
Content = Option (List ℕ) × (ℕ × (Option (List ℕ) × (List Item × (List Item × Method))))

-- The members behind the level; a unit that says nothing of its turns has 64.
unfoldable pub content_members : Members Content
content_members =
    optional (codes "title") title
    and or_default (codes "turns") 64 (number 1 256) refl
    and optional (codes "metadata") (text 0 4096)
    and list (codes "learning-objectives") item
    and list (codes "prerequisites") item
    and needed (codes "method") method

-- The unit's own document.
unfoldable pub head : Shape Head
head = object
    (λ (format, (id, (level, (title, (turns, (metadata, (objectives, (prerequisites, method)))))))).
    record {
      format = format;
      identifier = id;
      level = level;
      title = title;
      turns = turns;
      metadata = metadata;
      learning_objectives = objectives;
      prerequisites = prerequisites;
      method =
          method;
    })
    (λ x. (
      x.format,
      (
        x.identifier,
        (
          x.level,
          (x.title, (x.turns, (x.metadata, (x.learning_objectives, (x.prerequisites, x.method))))),
        ),
      ),
    ))
    (λ _. refl)
    (needed (codes "format") format
    and needed (codes "identifier") identifier
    and needed (codes "level") (one_of level_words)
    and content_members)

-- ---- the unit

-- The roles, properties, environments, activities and structures of the documents.
unfoldable pub parts : UnitShape Parts
unfolding properties_document environments_document
parts = made
    (λ (roles, (properties, (environments, (activities, structures)))).
    record {
      roles = roles;
      properties = properties;
      environments = environments;
      activities = activities;
      structures = structures;
    })
    (λ x. (x.roles, (x.properties, (x.environments, (x.activities, x.structures)))))
    (λ _. refl)
    (pair (required_in file.Roles roles_document)
    (pair (document_or [] file.Properties properties_document refl)
    (pair (document_or [] file.Environments environments_document refl)
    (required_in file.Activities activities_document))))

-- The unit's own document and that of the conditions.
unfoldable pub method_documents : UnitShape (Head × List Condition)
unfolding conditions_document
method_documents = pair (required_in file.Unit head) (document_or [] file.Conditions conditions_document refl)

-- The unit of these parts, and of what its own document and that of the conditions tell.
abbrev pub unit_from : Parts → Head × List Condition → Unit
unit_from parts (head, conditions) = record {
  format = head.format;
  identifier = head.identifier;
  level = head.level;
  title = head.title;
  turns = head.turns;
  metadata = head.metadata;
  learning_objectives = head.learning_objectives;
  prerequisites = head.prerequisites;
  roles = parts.roles;
  properties = parts.properties;
  environments = parts.environments;
  activities = parts.activities;
  structures = parts.structures;
  method = head.method;
  conditions = conditions;
}

-- The roles, properties, environments, activities and structures of a unit.
abbrev pub declared_parts : Unit → Parts
declared_parts unit = record {
  roles = unit.roles;
  properties = unit.properties;
  environments = unit.environments;
  activities = unit.activities;
  structures = unit.structures;
}

-- What a unit's own document and that of its conditions tell of it.
abbrev pub head_and_conditions : Unit → Head × List Condition
head_and_conditions unit = (
  record {
    format = unit.format;
    identifier = unit.identifier;
    level = unit.level;
    title = unit.title;
    turns = unit.turns;
    metadata = unit.metadata;
    learning_objectives =
        unit.learning_objectives;
    prerequisites = unit.prerequisites;
    method = unit.method;
  },
  unit.conditions,
)

-- The unit of these parts for which its own document and that of the conditions stand.
abbrev pub method_with : Parts → UnitShape Unit
method_with parts = made (unit_from parts) head_and_conditions (λ _. refl) method_documents

-- The unit for which the documents stand, or the faults of their shapes, document by document.
unfoldable pub unit : UnitShape Unit
unit = made (λ x. unit_from x.0 x.1) (λ x. (declared_parts x, head_and_conditions x)) (λ _. refl) (pair parts method_documents)

-- Each member of the unit has its form and its range.
unfoldable pub is_well_formed : Unit → Bool
is_well_formed x = unit.has_form x
