-- Taking recorded writes back, the last of them first.
use Rattle.std.proofs.Common.{◌≡◌, ◌<◌, ℕ, List, [], ◌∷◌, ◌++◌, Option, None, ap, refl, sym, ◌∙◌, arith, set, get_or, take, length}
use Rattle.std.proofs.lemmas.List.{map-set, get_or-map, set-set, set-get_or, get_or_append_left, get_or_push, get_or_read, length_push}
use Rattle.std.proofs.lemmas.List.Elements.{All-push}
use Rattle.std.proofs.Math.Seq.{take-set-lt}
use Rattle.ld_value.specs.Datum.{Datum}
use Rattle.ld_value.specs.declared.value.Value.{Value}
use Rattle.ld_cells.specs.Stored.{held, cells_of}
use Rattle.ld_cells.specs.Recorded.{before, AreBelow}
use Rattle.ld_cells.specs.declared.change.Change.{Change}

-- the last write is the first to be rolled back
pub before-push : (changes : List Change) (change : Change) (cells : List (Option Datum)) → before (changes ++ change ∷ []) cells ≡ before changes (set cells change.slot (held change.before))
before-push [] change cells = refl
before-push (c ∷ cs) change cells = ap (λ older. set older c.slot (held c.before)) (before-push cs change cells)

-- a write puts what is held
pub cells_of-set : (values : List (Option Value)) (slot : ℕ) (value : Option Value) → cells_of (set values slot value) ≡ set (cells_of values) slot (held value)
cells_of-set values slot value = map-set held values slot value

-- what was there is put back
pub put_back : (values : List (Option Value)) (slot : ℕ) (value : Option Value) → slot < length values → set (set (cells_of values) slot (held value)) slot (held (get_or values slot None)) ≡ cells_of values
put_back values slot value below =
    rw (set-set (cells_of values) slot (held value) (held (get_or values slot None)), ← get_or-map held values slot None None below)
    (set-get_or (cells_of values) slot None)

-- a recorded write and the record of it leave what was before all of them
pub before-record : (changes : List Change) (values : List (Option Value)) (slot count : ℕ) (value : Option Value) (change : Change) → change ≡ record { slot = slot; before = get_or values slot None } → slot < length values → slot < count → before (changes ++ change ∷ []) (take count (cells_of (set values slot value))) ≡ before changes (take count (cells_of values))
before-record changes values slot count value change is below within =
    rw (before-push changes change, is, ← take-set-lt count (cells_of (set values slot value)) slot (held (get_or values slot None)) within, cells_of-set values slot value, put_back values slot value below)
    refl

pub AreBelow-push : (count : ℕ) (changes : List Change) (change : Change) → AreBelow count changes → change.slot < count → AreBelow count (changes ++ change ∷ [])
AreBelow-push count changes change all below = All-push (λ each. each.slot < count) changes change all below

pub AreBelow-front : (count : ℕ) (changes : List Change) (change : Change) → AreBelow count (changes ++ change ∷ []) → AreBelow count changes
AreBelow-front count changes change all k d below =
    rw (get_or_append_left changes (change ∷ []) d k below) at (all k d (omega (arith, length_push changes change)))

pub AreBelow-last : (count : ℕ) (changes : List Change) (change : Change) → AreBelow count (changes ++ change ∷ []) → change.slot < count
AreBelow-last count changes change all =
    rw (get_or_push changes change change (length changes) refl) at (all (length changes) change (omega (arith, length_push changes change)))

-- what is put where the same was held changes nothing
pub put_same : (values : List (Option Value)) (slot : ℕ) (old value : Option Value) → slot < length values → old ≡ get_or values slot old → held old ≡ held value → cells_of values ≡ set (cells_of values) slot (held value)
put_same values slot old value below there same =
    let read : old ≡ get_or values slot None = get_or_read values slot old below there None in
    let now : held value ≡ get_or (cells_of values) slot None = sym same ∙ ap held read ∙ sym (get_or-map held values slot None None below) in
    rw now (sym (set-get_or (cells_of values) slot None))
