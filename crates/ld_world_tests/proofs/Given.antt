-- A list of all slots of a run names each cell of which the store may have another value.
use Rattle.std.proofs.Common.{◌≡◌, ◌∙◌, subst, ℕ, ◌<◌, ◌+◌, List, [], ◌∷◌, ◌++◌, length, Contains, inl, inr, arith}
use Rattle.std.proofs.lemmas.Bool.{cases_lt}
use Rattle.std.proofs.lemmas.List.Elements.{Contains-append_left, Contains-push}
use Rattle.std.proofs.lemmas.Option.{slice_get_within}
use Rattle.ld_globals.specs.Store.{Store}
use Rattle.ld_model.specs.declared.unit.Unit.{Unit}
use Rattle.ld_refs.specs.Checks.{IsValid}
use Rattle.ld_state.specs.Layout.{cells_in}
use Rattle.ld_state.specs.StateView.{IsStateOf, StateView, run_of}
use Rattle.ld_state.proofs.Cells.{slot_stands}
use Rattle.ld_sharing.specs.Changes.{IsGivenBut}
use Rattle.ld_sharing.specs.StoreView.{Serves}
use Rattle.ld_sharing.proofs.KeysOfCells.{key_stands}
use Rattle.ld_sharing.proofs.PushedCells.{slot_here}

pub all_given : (unit : Unit) → IsValid unit → (store : Store) → Serves store unit → (s : StateView) → IsStateOf unit s
    → (slots : List ℕ) → ((k : ℕ) → k < length (cells_in s.layout (length s.rows)) → Contains slots k)
    → IsGivenBut unit (run_of s) store slots
all_given unit valid store serves s own slots all uri person cell is untold =
    let persons = (run_of s).persons in
    let stands = key_stands unit valid store serves persons uri person cell is in
    let below = slice_get_within (cells_in s.layout (length s.rows)) stands.number cell
    (slot_here unit s own stands.number ∙ stands.at) in
    absurd (untold stands.number (slot_stands unit (length persons) stands.number cell stands.at) (all stands.number below))

-- One slot more, behind those before it.
pub more_slots : (slots : List ℕ) (n : ℕ) → ((k : ℕ) → k < n → Contains slots k) → (k : ℕ) → k < n + 1
    → Contains (slots ++ n ∷ []) k
more_slots slots n all k below = elim (cases_lt k n) [
  | inl earlier ↦ Contains-append_left slots (n ∷ []) k (all k earlier)
  | inr last ↦
      let same : n ≡ k = omega (arith, below, last) in
      subst (Contains (slots ++ n ∷ [])) same (Contains-push slots n)
]
