-- That whoever is told what a rule writes learns all at which another looks.
use Rattle.std.proofs.Common.{◌≡◌, fold, refl, sym, ap, ap₂, ◌∙◌, ℕ, List, [], ◌∷◌, ◌++◌, filter, map, flat_map, slice_get, Option, Some, None, Bool, true, false, cond, ◌&&◌, ◌||◌, if◌then◌else◌, append-nil}
use Rattle.std.proofs.lemmas.Bool.{and_from, and_parts, false≢true}
use Rattle.std.proofs.lemmas.Grind.{flat_map-append}
use Rattle.std.proofs.lemmas.List.Folds.{list_all-append, list_any-append}
use Rattle.std.specs.List.{list_all, list_any}
use Rattle.ld_base.specs.Maybe.{◌>>=◌}
use Rattle.ld_model.specs.Cells.{same_cell}
use Rattle.ld_model.specs.declared.cell.CellName.{CellName}
use Rattle.ld_model.specs.declared.cell.CellName.TheVariants.{Prop, Vis, Member, Chosen, Opened, ActOpened, Started, Mark, Now, Roster}
use Rattle.ld_model.specs.declared.cell.Owner.{Owner}
use Rattle.ld_model.specs.declared.cell.Owner.TheVariants.{Run, Person}
use Rattle.ld_model.specs.declared.completion.Change.{Change as ChangeOf}
use Rattle.ld_model.specs.declared.completion.Notice.{Notice}
use Rattle.ld_model.specs.declared.condition.Action.{Action}
use Rattle.ld_model.specs.declared.condition.Action.TheVariants.{Show, Hide, Change, Notify}
use Rattle.ld_model.specs.declared.property.Property.{Property}
use Rattle.ld_model.specs.declared.unit.Unit.{Unit}
use Rattle.ld_names.specs.Holders.{holder_of}
use Rattle.ld_names.specs.Names.{thing_number}
use Rattle.ld_names.specs.Rules.{rules_of}
use Rattle.ld_names.specs.declared.rule.Rule.{Rule}
use Rattle.ld_names.specs.declared.rule.Rule.TheVariants.{CompletesActivity, CompletesStructure, OpensAct, CompletesPart, CompletesAct, CompletesPlay, CompletesUnit, JudgesCondition}
use Rattle.ld_expr.specs.Lookup.{list_from, property_number}
use Rattle.ld_expr.specs.Owners.{value_owner}
use Rattle.ld_expr.specs.Seen.{act_opened_cell, property_cell, visibility_cell}
use Rattle.ld_firing.specs.ActionCells.{action_cells, change_cells, opened_act_cells, visible_cells}
use Rattle.ld_firing.specs.Actions.{actions_of, holder_named, opened_by, owners_of_change}
use Rattle.ld_rules.specs.SiteLooks.{cell_list}
use Rattle.ld_rules.specs.SiteTests.{says_for_good, site_mark}
use Rattle.ld_state.specs.RunCells.{cell_if}
use Rattle.ld_rank.specs.Alone.{owner_alone, seen_alone, looks_alone, site_alone, have_common, feeds_by, is_fed, writes_alone}
use Rattle.ld_rank.specs.Feeding.{branch_writes, rule_writes, mark_counts}
use Rattle.ld_rank.specs.Telling.{then_cell}
use Rattle.ld_rank.proofs.Told.{passed_over}
use Rattle.ld_rank.proofs.Unshown.{never_looked_at}

-- ---- what is told of actions

unfed_things : (unit : Unit) (owner : Owner) (ids : List (List ℕ)) → list_any is_fed (flat_map (visible_cells unit owner) ids) ≡ false
unfed_things unit owner [] = refl
unfed_things unit owner (id ∷ ids) =
    list_any-append is_fed (visible_cells unit owner id) (flat_map (visible_cells unit owner) ids)
    ∙ ap₂ (λ a b. a || b) (one owner) (unfed_things unit owner ids)
  where
    by : (p : ℕ) (thing : Option ℕ) → list_any is_fed (list_from (λ t. visibility_cell t p ∷ []) thing) ≡ false
    by p None = refl
    by p (Some t) = refl

    one : (owner : Owner) → list_any is_fed (visible_cells unit owner id) ≡ false
    one Run = refl
    one (Person p) = by p.0 (thing_number unit id)

-- What is shown or hidden is passed over.
pub things_told : {T : Type 0} (after : T → CellName → Option T) (told : Option T) (unit : Unit) (owner : Owner) (ids : List (List ℕ))
    → fold (then_cell after) told (flat_map (visible_cells unit owner) ids) ≡ told
things_told after told unit owner ids = passed_over after told (flat_map (visible_cells unit owner) ids) (unfed_things unit owner ids)

-- What follows a completion is on what its changes are on.
pub ending : (unit : Unit) (owner : Owner) (changes : List ChangeOf) (notices : List Notice)
    → flat_map (action_cells unit 1 owner) (map Change changes ++ map Notify notices) ≡ flat_map (action_cells unit 1 owner) (map Change changes)
ending unit owner changes notices =
    let writes = action_cells unit 1 owner in
    flat_map-append writes (map Change changes) (map Notify notices)
    ∙ ap (λ rest. flat_map writes (map Change changes) ++ rest) (nothing notices)
    ∙ append-nil (flat_map writes (map Change changes))
  where
    nothing : (notices : List Notice) → flat_map (action_cells unit 1 owner) (map Notify notices) ≡ []
    nothing [] = refl
    nothing (notice ∷ notices) = nothing notices

-- ---- that what is passed over is looked at by none

-- What a person sees of a thing.
abbrev is_shown : CellName → Bool
is_shown (Vis _ _) = true
is_shown _ = false

-- A firing may write the cell for rules to look at, or it is what a person sees of a thing.
abbrev is_known : CellName → Bool
is_known cell = is_fed cell || is_shown cell

abbrev AllKnown : List CellName → Type 0
AllKnown cells = list_all is_known cells ≡ true

both : (xs ys : List CellName) → AllKnown xs → AllKnown ys → AllKnown (xs ++ ys)
both xs ys first second = list_all-append is_known xs ys ∙ and_from (list_all is_known xs) (list_all is_known ys) first second

all_of : {A : Type 0} → (f : A → List CellName) (xs : List A) → ((x : A) → AllKnown (f x)) → AllKnown (flat_map f xs)
all_of f [] each = refl
all_of f (x ∷ xs) each = both (f x) (flat_map f xs) (each x) (all_of f xs each)

module _ (unit : Unit) where
  known_things : (owner : Owner) (id : List ℕ) → AllKnown (visible_cells unit owner id)
  known_things Run id = refl
  known_things (Person p) id = by (thing_number unit id)
    where
      by : (thing : Option ℕ) → AllKnown (list_from (λ t. visibility_cell t p.0 ∷ []) thing)
      by None = refl
      by (Some t) = refl

  known_change : (change : ChangeOf) (owner : Owner) → AllKnown (change_cells unit change owner)
  known_change change owner = by (property_number unit change.property)
    where
      at : (n : ℕ) (found : Option Property)
          → AllKnown (cell_list (found >>= λ property. Some (property_cell n (value_owner (holder_of unit property) owner))))
      at n None = refl
      at n (Some property) = refl

      by : (number : Option ℕ)
          → AllKnown (cell_list (number >>= λ n. slice_get unit.properties n >>= λ property. Some (property_cell n (value_owner (holder_of unit property) owner))))
      by None = refl
      by (Some n) = at n (slice_get unit.properties n)

  known_action : (owner : Owner) (action : Action) → AllKnown (action_cells unit 1 owner action)
  known_action owner (Show things) = all_of (visible_cells unit owner) things (known_things owner)
  known_action owner (Hide things) = all_of (visible_cells unit owner) things (known_things owner)
  known_action owner (Change change) =
      all_of (change_cells unit change) (owners_of_change (holder_named unit change.property) 1 owner) (known_change change)
  known_action owner (Notify notice) = refl

  known_branch : (owner : Owner) (rule : Rule) (verdict : Bool) → AllKnown (branch_writes unit 1 owner rule verdict)
  known_branch owner rule verdict = all_of (action_cells unit 1 owner) (actions_of unit rule verdict) (known_action owner)

  known_writes : (rule : Rule) → AllKnown (writes_alone unit rule)
  known_writes rule =
      both (opened_act_cells unit rule) _ (opened (opened_by unit rule)) (by (says_for_good rule))
    where
      opened : (thing : Option ℕ) → AllKnown (list_from (λ t. act_opened_cell t ∷ []) thing)
      opened None = refl
      opened (Some t) = refl

      by : (good : Bool) → AllKnown (if good then branch_writes unit 1 (owner_alone rule) rule true else branch_writes unit 1 (owner_alone rule) rule true ++ branch_writes unit 1 (owner_alone rule) rule false)
      by true = known_branch (owner_alone rule) rule true
      by false = both (branch_writes unit 1 (owner_alone rule) rule true) (branch_writes unit 1 (owner_alone rule) rule false)
          (known_branch (owner_alone rule) rule true) (known_branch (owner_alone rule) rule false)

-- ---- what a rule writes, and who looks there

module _ (unit : Unit) (second : Rule) where
  -- The second rule looks at the cell.
  abbrev pub looked : CellName → Bool
  looked cell = list_any (same_cell cell) (looks_alone unit second)

  unlooked : (cell : CellName) → is_known cell ≡ true → is_fed cell ≡ false → looked cell ≡ false
  unlooked (Vis t p) known unfed = never_looked_at unit (seen_alone unit) (owner_alone second) second t.0 p.0
  unlooked (Prop _ _) known unfed = absurd (false≢true (sym unfed))
  unlooked (ActOpened _) known unfed = absurd (false≢true (sym unfed))
  unlooked (Mark _ _) known unfed = absurd (false≢true (sym unfed))
  unlooked (Member _ _) known unfed = absurd (false≢true known)
  unlooked (Chosen _ _) known unfed = absurd (false≢true known)
  unlooked (Opened _ _) known unfed = absurd (false≢true known)
  unlooked Started known unfed = absurd (false≢true known)
  unlooked Now known unfed = absurd (false≢true known)
  unlooked Roster known unfed = absurd (false≢true known)

  fed_suffice : (cells : List CellName) → AllKnown cells → list_any looked (filter is_fed cells) ≡ list_any looked cells
  fed_suffice [] known = refl
  fed_suffice (cell ∷ cells) known =
      let parts = and_parts (is_known cell) (list_all is_known cells) known in
      by (is_fed cell) refl parts.0 (fed_suffice cells parts.1)
    where
      by : (fed : Bool) → is_fed cell ≡ fed → is_known cell ≡ true → list_any looked (filter is_fed cells) ≡ list_any looked cells
          → list_any looked (cond fed (cell ∷ filter is_fed cells) (filter is_fed cells)) ≡ (looked cell || list_any looked cells)
      by true is is_one rest = ap (λ b. looked cell || b) rest
      by false is is_one rest = rest ∙ ap (λ b. b || list_any looked cells) (sym (unlooked cell is_one is))

  pub told_suffice : (first : Rule) → list_any looked (filter is_fed (writes_alone unit first)) ≡ list_any looked (writes_alone unit first)
  told_suffice first = fed_suffice (writes_alone unit first) (known_writes unit first)

  -- What is written by a rule for good is the same for each verdict.
  twice : (cells : List CellName) → list_any looked (cells ++ cells) ≡ list_any looked cells
  twice cells = list_any-append looked cells cells ∙ by (list_any looked cells)
    where
      by : (b : Bool) → (b || b) ≡ b
      by true = refl
      by false = refl

  once : (first : Rule) → list_any looked (rule_writes unit 1 (owner_alone first) first) ≡ list_any looked (writes_alone unit first)
  once (CompletesActivity a) = twice (branch_writes unit 1 (owner_alone (CompletesActivity a)) (CompletesActivity a) true)
  once (CompletesStructure s) = refl
  once (OpensAct p a) = refl
  once (CompletesPart p a r) = refl
  once (CompletesAct p a) = twice (branch_writes unit 1 (owner_alone (CompletesAct p a)) (CompletesAct p a) true)
  once (CompletesPlay p) = twice (branch_writes unit 1 (owner_alone (CompletesPlay p)) (CompletesPlay p) true)
  once CompletesUnit = twice (branch_writes unit 1 (owner_alone CompletesUnit) CompletesUnit true)
  once (JudgesCondition c) = refl

  -- By its parts: the mark, and what else is written.
  pub by_parts : (a b : ℕ) (first : Rule) → slice_get (rules_of unit) a ≡ Some first
      → feeds_by unit a b first second ≡ (mark_counts unit a b && looked (site_mark (site_alone a first)) || list_any looked (writes_alone unit first))
  by_parts a b first at =
      ap (λ found. have_common (cell_if (mark_counts unit a b) (site_mark (site_alone a first)) ++ list_from (rule_writes unit 1 (owner_alone first)) found) (looks_alone unit second)) at
      ∙ list_any-append looked (cell_if (mark_counts unit a b) (site_mark (site_alone a first))) (rule_writes unit 1 (owner_alone first) first)
      ∙ ap₂ (λ x y. x || y) (own (mark_counts unit a b)) (once first)
    where
      or_false : (b : Bool) → (b || false) ≡ b
      or_false true = refl
      or_false false = refl

      own : (counts : Bool) → list_any looked (cell_if counts (site_mark (site_alone a first))) ≡ (counts && looked (site_mark (site_alone a first)))
      own true = or_false (looked (site_mark (site_alone a first)))
      own false = refl
