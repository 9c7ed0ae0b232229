-- Activities. (docs/FORMATS.md, "Documents")
use Rattle.std.specs.Prelude.{ℕ, List, [], ◌∷◌, Option, Bool, true, codes, refl}
use Rattle.std.specs.Option.{unwrap_or}
use Rattle.ld_json.specs.Node.{Placed}
use Rattle.ld_formats.specs.Changes.{on_completion}
use Rattle.ld_formats.specs.Completions.{activity_completion}
use Rattle.ld_formats.specs.Items.{item}
use Rattle.ld_model.specs.declared.activity.Activity.{Activity}
use Rattle.ld_model.specs.declared.activity.ActivityKind.{ActivityKind}
use Rattle.ld_model.specs.declared.activity.ActivityKind.TheVariants.{Learning, Support}
use Rattle.ld_model.specs.declared.completion.Completion.{Completion}
use Rattle.ld_model.specs.declared.completion.OnCompletion.{OnCompletion}
use Rattle.ld_model.specs.declared.item.Item.{Item}
use Rattle.ld_shape.specs.Forms.{identifier, title, flag}
use Rattle.ld_shape.specs.Keeping.{is_empty}
use Rattle.ld_shape.specs.Keys.{value_or_key, first_key, next_key, made_key}
use Rattle.ld_shape.specs.Lists.{list}
use Rattle.ld_shape.specs.Objects.{Members, object, ◌and◌, needed, optional, or_default, always, read_or, only_members}
use Rattle.ld_shape.specs.Shapes.{Shape, HasKey, by_key}
use Rattle.ld_shape.specs.Words.{one_of}

-- The kinds of activities, by their words.
abbrev pub activity_words : List (List ℕ × ActivityKind)
activity_words = (codes "learning", Learning) ∷ (codes "support", Support) ∷ []

-- The kind of the activity at a node. Where it is none of the two, all members are listed.
abbrev pub activity_kind : Placed → ActivityKind
activity_kind node = unwrap_or (read_or (codes "kind") Learning (one_of activity_words) node).value Support

-- A learning activity supports nobody.
abbrev pub supports_by : ActivityKind → Members (List (List ℕ))
supports_by Learning = always [] is_empty refl
supports_by Support = list (codes "supports") identifier

-- What an activity holds, and when it is completed.
abbrev pub Content : Type 0
Content = List Item ×
    (List Item × (List (List ℕ) × (List (List ℕ) × (List Item × (Option Completion × Option OnCompletion)))))

-- What is done in an activity, when it is completed, and what follows then.
unfoldable pub doing : Members (List Item × (Option Completion × Option OnCompletion))
doing =
    list (codes "items") item
    and optional (codes "complete") activity_completion
    and optional (codes "on-completion") on_completion

-- The members behind those that say what is shown of it.
unfoldable pub content_by : ActivityKind → Members Content
content_by kind =
    list (codes "learning-objectives") item
    and list (codes "prerequisites") item
    and supports_by kind
    and list (codes "environments") identifier
    and doing

-- The members of an activity of a kind.
abbrev pub activity_members : ActivityKind → Members
    (List ℕ × (ActivityKind × (Option (List ℕ) × (Bool × Content))))
activity_members kind =
    needed (codes "identifier") identifier
    and or_default (codes "kind") Learning (one_of activity_words) refl
    and optional (codes "title") title
    and or_default (codes "visible") true flag refl
    and content_by kind

-- An activity of a kind.
unfoldable pub activity_by : ActivityKind → Shape Activity
activity_by kind = object
    (λ (
      id,
      (
        kind,
        (
          title,
          (
            visible,
            (
              objectives,
              (
                prerequisites,
                (supports, (environments, (items, (complete, follows)))),
              ),
            ),
          ),
        ),
      ),
    ).
    record {
      identifier = id;
      kind = kind;
      title = title;
      visible = visible;
      learning_objectives = objectives;
      prerequisites = prerequisites;
      supports = supports;
      environments = environments;
      items = items;
      complete = complete;
      on_completion = follows;
    })
    (λ x. (
      x.identifier,
      (
        x.kind,
        (
          x.title,
          (
            x.visible,
            (
              x.learning_objectives,
              (
                x.prerequisites,
                (x.supports, (x.environments, (x.items, (x.complete, x.on_completion)))),
              ),
            ),
          ),
        ),
      ),
    ))
    (λ _. refl)
    (activity_members kind)

-- An activity that is read has the kind that is told at its node.
pub activity_has_kind : (node : Placed) → HasKey (λ x. x.kind) (activity_kind node)
    ((activity_by (activity_kind node)).reading node).value
unfolding activity_by
activity_has_kind node =
    let members = activity_members (activity_kind node) in
    made_key (λ x. x.kind) (activity_kind node) _ (only_members members node).value
    (members.shape.reading node).value
    (next_key (λ p. p.0) (activity_kind node) _ _
    (first_key (λ kind. kind) (activity_kind node) _ _ (value_or_key Support _)))

-- Something that a person does.
unfoldable pub activity : Shape Activity
activity = by_key activity_kind activity_by (λ x. x.kind) activity_has_kind
