-- Structures of activities, printed.
use Rattle.std.specs.Prelude.{◌≡◌, ℕ, List, map, length, Option, Some, None, Bool, true, false, codes}
use Rattle.std.specs.Option.{unwrap_or}
use Rattle.std.proofs.Common.{refl, ap, sym, ◌∙◌}
use Rattle.serde_json.specs.Data.{Data, null, number, string, unsigned, array}
use Rattle.serde_json.specs.Find.{get}
use Rattle.serde_json.specs.View.{items_of}
use Rattle.ld_formats.specs.Structures.{structure_words, StructureKey, structure_kind, count_of, children_count, from_one, Content, content_by as content_shape, structure_by as structure_by_shape, structure_key_of, structure_has_key, structure as structure_shape, activities_document as activities_shape}
use Rattle.ld_json.specs.Node.{member_node}
use Rattle.ld_json.specs.declared.file.FileNo.{FileNo}
use Rattle.ld_model.specs.declared.activity.Activity.{Activity}
use Rattle.ld_model.specs.declared.activity.Structure.{Structure}
use Rattle.ld_model.specs.declared.activity.StructureKind.{StructureKind}
use Rattle.ld_model.specs.declared.activity.StructureKind.TheVariants.{Sequence, Selection}
use Rattle.ld_shape.specs.Reading.{at_part}
use Rattle.ld_shape.specs.Shapes.{left_out as left_out_shape}
use Rattle.ld_shape.specs.Words.{choice_among}
use Rattle.ld_canon.specs.Activities.{activity}
use Rattle.ld_canon.specs.Cases.{looked_at}
use Rattle.ld_canon.specs.Items.{visible}
use Rattle.ld_prints.specs.Canonical.{MayHold, IsCanonical}
use Rattle.ld_prints.specs.CanonicalRows.{other_word}
use Rattle.ld_prints.specs.Forms.{identifier, title, number_between, one_of}
use Rattle.ld_prints.specs.Lists.{list, list_of, count_mapped}
use Rattle.ld_prints.specs.Objects.{PrintedMembers, as_shape, object, ◌and◌, needed, needed_told, optional, absent, by_key, members_hold}
use Rattle.ld_prints.specs.Printing.{placed, ReadsBack, Printed}
use Rattle.ld_prints.specs.Rows.{EachHolds, are_apart}

-- The word of each kind of structure.
abbrev pub structure_word : StructureKind → List ℕ
structure_word Sequence = codes "sequence"
structure_word Selection = codes "selection"

-- The word stands for the kind.
pub structure_word_of : (kind : StructureKind) → choice_among structure_words (structure_word kind) ≡ Some kind
structure_word_of Sequence = refl
structure_word_of Selection = refl

-- It is no default, as that of an activity may be.
pub structure_word_may : (kind : StructureKind) → MayHold (codes "kind") (string (structure_word kind))
structure_word_may Sequence = other_word (codes "kind") (codes "learning") (codes "sequence") refl refl refl
structure_word_may Selection = other_word (codes "kind") (codes "learning") (codes "selection") refl refl refl

-- A kind of structure.
abbrev pub kind_word : Printed StructureKind
kind_word = one_of structure_words structure_word structure_word_of

-- What is left out of this engine has no value, and so no tree.
pub left_out_back : {A : Type 0} (x : A) → false ≡ true → ReadsBack left_out_shape x null
left_out_back x is = cc

-- So nothing is asked of its tree.
pub left_out_canonical : {A : Type 0} (x : A) → false ≡ true → IsCanonical null
left_out_canonical x is = cc

-- The same, printed.
abbrev pub left_out : {A : Type 0} → Printed A
left_out = record {
  shape = left_out_shape;
  print = λ _. null;
  whole = λ _. refl;
  back = left_out_back;
  canonical = left_out_canonical;
}

-- A number from 1 to the number of children. Where that is not known, nothing is kept.
abbrev pub some_selected : Option ℕ → PrintedMembers (Option ℕ)
some_selected None = looked_at (codes "number-to-select") from_one
some_selected (Some count) = optional (codes "number-to-select") (number_between 1 count)

-- In a sequence the member is listed and left out of this engine.
abbrev pub selected_by : StructureKey → PrintedMembers (Option ℕ)
selected_by (Sequence, count) = optional (codes "number-to-select") left_out
selected_by (Selection, count) = some_selected count

-- The members behind those that say what is shown of it.
abbrev pub content_by : StructureKey → PrintedMembers Content
content_by key =
    selected_by key
    and list (codes "environments") identifier
    and needed (codes "children") (list_of identifier)
    and absent (codes "sort")
    and absent (codes "unit-of-learning-href")

-- What stands for the number of children to be done.
abbrev pub selected_tree : StructureKind → ℕ → Data
selected_tree Sequence n = null
selected_tree Selection n = number (unsigned n)

-- What a structure is made of.
abbrev pub Made : Type 0
Made = List ℕ × (StructureKind × (Option (List ℕ) × (Bool × Content)))

-- The members of a structure of this kind, with this many children.
abbrev pub structure_members : StructureKey → PrintedMembers Made
structure_members key =
    needed (codes "identifier") identifier
    and needed_told (codes "kind") kind_word structure_word_may
    and optional (codes "title") title
    and visible
    and content_by key

-- No name comes twice.
pub names_apart : (key : StructureKey) → are_apart (structure_members key).members.names ≡ true
names_apart (Sequence, count) = refl
names_apart (Selection, None) = refl
names_apart (Selection, Some count) = refl

-- Nothing is asked of the others.
pub names_plain : (key : StructureKey) → (structure_members key).plain ≡ true
names_plain (Sequence, count) = refl
names_plain (Selection, None) = refl
names_plain (Selection, Some count) = refl

-- The parts of a structure.
abbrev pub structure_parts : Structure → Made
structure_parts x = (
  x.identifier,
  (
    x.kind,
    (x.title, (x.visible, (x.number_to_select, (x.environments, (x.children, (tt, tt)))))),
  ),
)

-- A structure of this kind, with this many children.
abbrev pub structure_by : StructureKey → Printed Structure
structure_by key = object
    (λ (id, (kind, (title, (visible, (selected, (environments, (children, _))))))).
    record {
      identifier = id;
      kind = kind;
      title = title;
      visible = visible;
      number_to_select = selected;
      environments = environments;
      children = children;
    })
    structure_parts
    (λ _. refl)
    (λ _. refl)
    (structure_members key)
    (names_apart key)
    (names_plain key)

-- It is the structure of that kind of the formats.
pub structure_by_is : (key : StructureKey) → (structure_by key).shape ≡ structure_by_shape key
unfolding structure_by_shape content_shape
structure_by_is (Sequence, count) = refl
structure_by_is (Selection, None) = refl
structure_by_is (Selection, Some count) = refl

-- What stands at the children.
pub children_row : (key : StructureKey) (x : Structure) (tree : Data)
    → EachHolds tree ((structure_members key).rows (structure_parts x))
    → get (codes "children") tree ≡ Some (array (items_of (map identifier.print x.children)))
children_row (Sequence, count) x tree holds = holds.1.1.1.1.1.1.0
children_row (Selection, None) x tree holds = holds.1.1.1.1.1.1.0
children_row (Selection, Some count) x tree holds = holds.1.1.1.1.1.1.0

-- The tree of a structure tells its kind and how many children it has.
pub tree_tells : (x : Structure) (file : FileNo) (place : List ℕ)
    → structure_key_of x ≡ (
      structure_kind (placed file place ((structure_by (structure_key_of x)).print x)),
      children_count (placed file place ((structure_by (structure_key_of x)).print x)),
    )
tree_tells x file place =
    let key = structure_key_of x in
    let tree = (structure_by key).print x in
    let node = placed file place tree in
    let holds = members_hold (structure_members key) (structure_parts x) (names_apart key) in
    let list = member_node node (codes "children") (array (items_of (map identifier.print x.children))) in
    let is_kind : x.kind ≡ structure_kind node =
    sym (ap (λ o. unwrap_or o Selection)
    (((needed (codes "kind") kind_word).back x.kind refl).reads node (holds.1.0, tt))) in
    let has_count : Some (length x.children) ≡ children_count node =
    sym (ap (λ part. at_part None (λ tree. count_of (member_node node (codes "children") tree)) part)
    (children_row key x tree holds) ∙ ap Some (count_mapped identifier.print x.children list 0)) in
    λ i. (is_kind i, has_count i)

-- A structure.
unfoldable pub structure : Printed Structure
unfolding structure_shape
structure = as_shape structure_shape (by_key (λ node. (structure_kind node, children_count node)) structure_by_shape
    structure_key_of (λ node. structure_has_key (structure_kind node, children_count node) node)
    structure_by structure_by_is (λ x file place _. tree_tells x file place)) refl

-- The document of activities and structures.
unfoldable pub activities_document : Printed (List Activity × List Structure)
unfolding activities_shape activity structure
activities_document = as_shape activities_shape (object (λ x. x) (λ x. x) (λ _. refl) (λ _. refl)
    (list (codes "activities") activity and list (codes "structures") structure) refl refl) refl
