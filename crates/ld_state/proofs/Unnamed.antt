-- The cells of things do not depend on identifiers.
use Rattle.std.proofs.Common.{◌≡◌, ◌+◌, ℕ, List, [], ◌∷◌, ◌++◌, map, refl, ap, ap₂, ◌∙◌}
use Rattle.ld_model.specs.Counting.{each_numbered, each_numbered_from}
use Rattle.ld_model.specs.declared.cell.CellName.{CellName}
use Rattle.ld_model.specs.declared.unit.Unit.{Unit}
use Rattle.ld_names.specs.Names.{NameTable, names_of}
use Rattle.ld_names.specs.ThingView.{unnamed_entry}
use Rattle.ld_names.specs.Things.{Entry, things_of}
use Rattle.ld_names.specs.declared.thing.PlacedThing.{PlacedThing}
use Rattle.ld_state.specs.RunCells.{opening_cells, own_thing_cells}

-- Of an entry only the place and the visibility count.
abbrev NeedsNoName : (ℕ → Entry → List CellName) → Type 0
NeedsNoName f = (n : ℕ) (entry : Entry)
    → f n (record { identifier = []; place = entry.place; visible = entry.visible }) ≡ f n entry

each_unnamed : (f : ℕ → Entry → List CellName) → NeedsNoName f → (n : ℕ) (things : List PlacedThing) (entries : List Entry)
    → map (λ thing. thing.place) things ≡ map (λ entry. entry.place) entries
    → map (λ thing. thing.visible) things ≡ map (λ entry. entry.visible) entries
    → each_numbered_from f n (map unnamed_entry things) ≡ each_numbered_from f n entries
each_unnamed f same n [] [] places shown = refl
each_unnamed f same n [] (entry ∷ entries) places shown = cc
each_unnamed f same n (thing ∷ things) [] places shown = cc
each_unnamed f same n (thing ∷ things) (entry ∷ entries) places shown =
    let place : thing.place ≡ entry.place = cc in
    let visible : thing.visible ≡ entry.visible = cc in
    let places_after : map (λ thing. thing.place) things ≡ map (λ entry. entry.place) entries = cc in
    let shown_after : map (λ thing. thing.visible) things ≡ map (λ entry. entry.visible) entries = cc in
    ap₂ (λ xs ys. xs ++ ys)
    (ap₂ (λ p v. f n (record { identifier = []; place = p; visible = v })) place visible ∙ same n entry)
    (each_unnamed f same (n + 1) things entries places_after shown_after)

-- So those of the things that the names keep are those of the unit's.
module _ (unit : Unit) (names : NameTable) (things : List PlacedThing) (same : names ≡ names_of unit)
    (places : map (λ thing. thing.place) things ≡ names.places) (shown : map (λ thing. thing.visible) things ≡ names.shown) where
  kept : (f : ℕ → Entry → List CellName) → NeedsNoName f
      → each_numbered f (map unnamed_entry things) ≡ each_numbered f (things_of unit)
  kept f needs =
      each_unnamed f needs 0 things (things_of unit) (places ∙ ap (λ (table : NameTable). table.places) same)
      (shown ∙ ap (λ (table : NameTable). table.shown) same)

  pub openings_kept : each_numbered opening_cells (map unnamed_entry things) ≡ each_numbered opening_cells (things_of unit)
  openings_kept = kept opening_cells (λ n entry. refl)

  pub own_things_kept : each_numbered (own_thing_cells 0) (map unnamed_entry things) ≡ each_numbered (own_thing_cells 0) (things_of unit)
  own_things_kept = kept (own_thing_cells 0) (λ n entry. refl)
