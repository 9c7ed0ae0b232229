-- The names of the members of a structure.
use Rattle.std.proofs.Common.{◌≡◌, [], ◌∷◌, Some, None, codes, refl}
use Rattle.ld_formats.specs.Structures.{StructureKey, content_by}
use Rattle.ld_model.specs.declared.activity.StructureKind.TheVariants.{Sequence, Selection}

-- They are the same in all kinds of structures.
pub content_names : (key : StructureKey) → (content_by key).names
    ≡ codes "number-to-select" ∷ codes "environments" ∷ codes "children"
    ∷ codes "sort" ∷ codes "unit-of-learning-href" ∷ []
unfolding content_by
content_names (Sequence, count) = refl
content_names (Selection, None) = refl
content_names (Selection, Some count) = refl
