-- The canonical documents of a unit. (docs/FORMATS.md, "Canonical documents")
use Rattle.std.specs.Prelude.{◌≡◌, ◌==◌, ℕ, List, [], ◌∷◌, Option, Some, None, Bool, false, codes}
use Rattle.std.proofs.Common.{refl, ap}
use Rattle.serde_json.specs.Data.{Data, number, unsigned}
use Rattle.serde_json.specs.Written.{has_float}
use Rattle.ld_base.specs.Maybe.{provided}
use Rattle.ld_formats.specs.Units.{format as format_shape, level_words, Head, Content, content_members as content_shape, head as head_shape, head_and_conditions}
use Rattle.ld_json.specs.Docs.{document_of}
use Rattle.ld_json.specs.declared.docs.Docs.{Docs}
use Rattle.ld_json.specs.declared.file.FileNo.{FileNo}
use Rattle.ld_json.specs.declared.file.FileNo.TheVariants as file
use Rattle.ld_model.specs.declared.unit.Level.{Level}
use Rattle.ld_model.specs.declared.unit.Level.TheVariants.{A, B, C}
use Rattle.ld_model.specs.declared.unit.Unit.{Unit}
use Rattle.ld_shape.specs.Words.{choice_among}
use Rattle.ld_value.proofs.Choices.{eq_from}
use Rattle.ld_canon.specs.Conditions.{conditions_document}
use Rattle.ld_canon.specs.Environments.{environments_document}
use Rattle.ld_canon.specs.Items.{item}
use Rattle.ld_canon.specs.Methods.{method}
use Rattle.ld_canon.specs.Properties.{properties_document}
use Rattle.ld_canon.specs.Roles.{roles_tree}
use Rattle.ld_canon.specs.Structures.{activities_document}
use Rattle.ld_canon.specs.WholeRoles.{roles_whole}
use Rattle.ld_prints.specs.CanonicalRows.{other_number}
use Rattle.ld_prints.specs.Forms.{identifier, title, text, number_between, one_of}
use Rattle.ld_prints.specs.Lists.{list}
use Rattle.ld_prints.specs.Objects.{PrintedMembers, as_shape, object, ◌and◌, needed, optional, or_default}
use Rattle.ld_prints.specs.Printing.{Printed}
use Rattle.ld_prints.specs.Whole.{maybe_has_float}

-- ---- the unit's own document

-- The number of the format.
unfoldable pub format : Printed ℕ
unfolding format_shape
format = record {
  shape = format_shape;
  print = λ n. number (unsigned n);
  whole = λ _. refl;
  back = λ n is. record { reads = λ file place. ap (λ t. provided t n) is };
  canonical = λ _ _. tt;
}

-- The word of each level.
abbrev pub level_word : Level → List ℕ
level_word A = codes "A"
level_word B = codes "B"
level_word C = codes "C"

-- The word stands for the level.
pub level_word_of : (level : Level) → choice_among level_words (level_word level) ≡ Some level
level_word_of A = refl
level_word_of B = refl
level_word_of C = refl

-- A unit that says nothing of its turns has 64.
abbrev pub is_usual : ℕ → Bool
is_usual n = n == 64

-- The members behind the level.
abbrev pub content_members : PrintedMembers Content
content_members =
    optional (codes "title") title
    and or_default (codes "turns") 64 (number_between 1 256) refl is_usual (λ n is. eq_from n 64 is)
    (λ n other. other_number (codes "turns") 64 n refl refl other)
    and optional (codes "metadata") (text 0 4096)
    and list (codes "learning-objectives") item
    and list (codes "prerequisites") item
    and needed (codes "method") method

-- The unit's own document.
unfoldable pub head : Printed Head
unfolding head_shape content_shape format item method
head = as_shape head_shape (object
    (λ (format, (id, (level, (title, (turns, (metadata, (objectives, (prerequisites, method)))))))).
    record {
      format = format;
      identifier = id;
      level = level;
      title = title;
      turns = turns;
      metadata = metadata;
      learning_objectives = objectives;
      prerequisites = prerequisites;
      method =
          method;
    })
    (λ x. (
      x.format,
      (
        x.identifier,
        (
          x.level,
          (x.title, (x.turns, (x.metadata, (x.learning_objectives, (x.prerequisites, x.method))))),
        ),
      ),
    ))
    (λ _. refl)
    (λ _. refl)
    (needed (codes "format") format
    and needed (codes "identifier") identifier
    and needed (codes "level") (one_of level_words level_word level_word_of)
    and content_members)
    refl refl) refl

-- ---- the documents

-- The document of a list, which is left out where the list is empty.
abbrev pub unless_empty : {A : Type 0} → (List A → Data) → List A → Option Data
unless_empty print [] = None
unless_empty print (x ∷ xs) = Some (print (x ∷ xs))

-- The documents of a unit, its texts as they are.
unfoldable pub documents_of : Unit → Docs
documents_of unit = record {
  roles = Some (roles_tree unit.roles);
  properties = unless_empty properties_document.print unit.properties;
  environments = unless_empty environments_document.print unit.environments;
  activities = Some (activities_document.print (unit.activities, unit.structures));
  unit = Some (head.print (head_and_conditions unit).0);
  conditions = unless_empty conditions_document.print unit.conditions;
}

-- The document of a list has no number with a point, if it is there.
empty_whole : {A : Type 0} (print : List A → Data) → ((xs : List A) → has_float (print xs) ≡ false) → (xs : List A)
    → maybe_has_float (unless_empty print xs) ≡ false
empty_whole print law [] = refl
empty_whole print law (x ∷ xs) = law (x ∷ xs)

-- None of them has a number with a point.
pub documents_whole : (unit : Unit) (of_file : FileNo)
    → maybe_has_float (document_of (documents_of unit) of_file) ≡ false
unfolding documents_of
documents_whole unit file.Roles = roles_whole unit.roles
documents_whole unit file.Properties =
    empty_whole properties_document.print properties_document.whole unit.properties
documents_whole unit file.Environments =
    empty_whole environments_document.print environments_document.whole unit.environments
documents_whole unit file.Activities = activities_document.whole (unit.activities, unit.structures)
documents_whole unit file.Unit = head.whole (head_and_conditions unit).0
documents_whole unit file.Conditions =
    empty_whole conditions_document.print conditions_document.whole unit.conditions
