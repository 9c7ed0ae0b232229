-- What all cells together make of who is told them.
use Rattle.std.proofs.Common.{◌≡◌, List, [], ◌∷◌, ◌++◌, filter, fold, Option, Some, None, Bool, true, false, ◌||◌, cond, if◌then◌else◌, refl, sym, ap, ◌∙◌, append_assoc}
use Rattle.std.proofs.lemmas.Bool.{false≢true}
use Rattle.std.proofs.lemmas.List.{append-nil}
use Rattle.std.proofs.lemmas.List.Sums.{fold-append}
use Rattle.std.specs.List.{list_any}
use Rattle.ld_base.specs.Maybe.{◌>>=◌}
use Rattle.ld_model.specs.Cells.{same_cell}
use Rattle.ld_model.specs.declared.cell.CellName.{CellName}
use Rattle.ld_state.proofs.SameCells.{one_cell}
use Rattle.ld_rank.specs.Alone.{is_fed}
use Rattle.ld_rank.specs.Telling.{RuleAlone, awaited_after, listed_after, looks_at, sought_after, then_cell, told_after}

-- ---- where a cell stops the telling

pub none_told : {T : Type 0} (after : T → CellName → Option T) (cells : List CellName) → fold (then_cell after) None cells ≡ None
none_told after [] = refl
none_told after (cell ∷ cells) = by (is_fed cell) (none_told after cells)
  where
    by : (fed : Bool) → fold (then_cell after) None cells ≡ None → fold (then_cell after) (if fed then None else None) cells ≡ None
    by true rest = rest
    by false rest = rest

pub stopped_first : {T : Type 0} (after : T → CellName → Option T) (told : T) (first rest : List CellName) → told_after after told first ≡ None → told_after after told (first ++ rest) ≡ None
stopped_first after told first rest stopped =
    fold-append (then_cell after) (Some told) first rest ∙ ap (λ now. fold (then_cell after) now rest) stopped ∙ none_told after rest

-- The same where the cells before are all told.
pub stopped_second : {T : Type 0} (after : T → CellName → Option T) (told : Option T) (now : T) (first second rest : List CellName)
    → fold (then_cell after) told first ≡ Some now → told_after after now second ≡ None
    → fold (then_cell after) told (first ++ (second ++ rest)) ≡ None
stopped_second after told now first second rest is stopped =
    fold-append (then_cell after) told first (second ++ rest)
    ∙ ap (λ so_far. fold (then_cell after) so_far (second ++ rest)) is ∙ stopped_first after now second rest stopped

pub ruleset stops = (none_told, stopped_first, stopped_second)

-- ---- cells that are passed over

pub passed_over : {T : Type 0} (after : T → CellName → Option T) (told : Option T) (cells : List CellName)
    → list_any is_fed cells ≡ false → fold (then_cell after) told cells ≡ told
passed_over after told [] unfed = refl
passed_over after told (cell ∷ cells) unfed = by (is_fed cell) (passed_over after told cells) unfed
  where
    by : (fed : Bool) → (list_any is_fed cells ≡ false → fold (then_cell after) told cells ≡ told) → (fed || list_any is_fed cells) ≡ false
        → fold (then_cell after) (if fed then (told >>= λ now. after now cell) else told) cells ≡ told
    by true rest is = absurd (false≢true (sym is))
    by false rest is = rest is

-- ---- who is told

pub all_listed : (listed now cells : List CellName) → told_after listed_after listed cells ≡ Some now → now ≡ listed ++ filter is_fed cells
all_listed listed now [] is = rw (append-nil listed) cc
all_listed listed now (cell ∷ cells) is = by (is_fed cell) (λ so_far. all_listed so_far now cells) is
  where
    by : (fed : Bool)
        → ((so_far : List CellName) → told_after listed_after so_far cells ≡ Some now → now ≡ so_far ++ filter is_fed cells)
        → fold (then_cell listed_after) (if fed then Some (listed ++ cell ∷ []) else Some listed) cells ≡ Some now
        → now ≡ listed ++ cond fed (cell ∷ filter is_fed cells) (filter is_fed cells)
    by true rest told = rest (listed ++ cell ∷ []) told ∙ append_assoc listed (cell ∷ []) (filter is_fed cells)
    by false rest told = rest listed told

-- A cell that is sought is there where the telling stops.
pub found_where_stopped : (sought : CellName) (cells : List CellName) → told_after sought_after sought cells ≡ None
    → list_any (same_cell sought) cells ≡ true
found_where_stopped sought [] is = cc
found_where_stopped sought (cell ∷ cells) is = by (is_fed cell) (same_cell sought cell) (found_where_stopped sought cells) is
  where
    by : (fed same : Bool) → (told_after sought_after sought cells ≡ None → list_any (same_cell sought) cells ≡ true)
        → fold (then_cell sought_after) (if fed then (if same then None else Some sought) else Some sought) cells ≡ None
        → (same || list_any (same_cell sought) cells) ≡ true
    by true true rest told = refl
    by true false rest told = rest told
    by false true rest told = refl
    by false false rest told = rest told

-- One that a firing may write is not where all are told.
pub missing_where_told : (sought now : CellName) (cells : List CellName) → is_fed sought ≡ true
    → told_after sought_after sought cells ≡ Some now → list_any (same_cell sought) cells ≡ false
missing_where_told sought now [] fed is = refl
missing_where_told sought now (cell ∷ cells) fed is = by (is_fed cell) (same_cell sought cell) (missing_where_told sought now cells fed) refl refl is
  where
    by : (written same : Bool) → (told_after sought_after sought cells ≡ Some now → list_any (same_cell sought) cells ≡ false)
        → is_fed cell ≡ written → same_cell sought cell ≡ same
        → fold (then_cell sought_after) (if written then (if same then None else Some sought) else Some sought) cells ≡ Some now
        → (same || list_any (same_cell sought) cells) ≡ false
    by true true rest is_written is_same told = cc (none_told sought_after cells)
    by true false rest is_written is_same told = rest told
    by false true rest is_written is_same told =
        absurd (false≢true (sym is_written ∙ ap is_fed (sym (one_cell sought cell is_same)) ∙ fed))
    by false false rest is_written is_same told = rest told

-- The rule looks at one of the cells where the telling stops.
pub read_where_stopped : (alone : RuleAlone) (cells : List CellName) → told_after awaited_after alone cells ≡ None
    → list_any (looks_at alone) cells ≡ true
read_where_stopped alone [] is = cc
read_where_stopped alone (cell ∷ cells) is = by (is_fed cell) (looks_at alone cell) (read_where_stopped alone cells) is
  where
    by : (fed looks : Bool) → (told_after awaited_after alone cells ≡ None → list_any (looks_at alone) cells ≡ true)
        → fold (then_cell awaited_after) (if fed then (if looks then None else Some alone) else Some alone) cells ≡ None
        → (looks || list_any (looks_at alone) cells) ≡ true
    by true true rest told = refl
    by true false rest told = rest told
    by false true rest told = refl
    by false false rest told = rest told

-- It looks at none of those that a firing may write where all are told.
pub unread_where_told : (alone now : RuleAlone) (cells : List CellName) → told_after awaited_after alone cells ≡ Some now
    → list_any (looks_at alone) (filter is_fed cells) ≡ false
unread_where_told alone now [] is = refl
unread_where_told alone now (cell ∷ cells) is = by (is_fed cell) (looks_at alone cell) (unread_where_told alone now cells) refl is
  where
    by : (fed looks : Bool) → (told_after awaited_after alone cells ≡ Some now → list_any (looks_at alone) (filter is_fed cells) ≡ false)
        → looks_at alone cell ≡ looks
        → fold (then_cell awaited_after) (if fed then (if looks then None else Some alone) else Some alone) cells ≡ Some now
        → list_any (looks_at alone) (cond fed (cell ∷ filter is_fed cells) (filter is_fed cells)) ≡ false
    by true true rest is_looked told = cc (none_told awaited_after cells)
    by true false rest is_looked told = rw is_looked (rest told)
    by false looks rest is_looked told = rest told
