-- Which sites are judged first once a run has changed, and what its settling takes.
use Rattle.std.proofs.Common.{◌≡◌, refl, sym, ap, ◌∙◌, ℕ, ◌+◌, ◌<◌, ◌≤◌, ◌⊎◌, inl, inr, List, length, Option, Bool, true, false, not, ◌||◌, Contains, arith}
use Rattle.std.specs.Option.{option_eq}
use Rattle.ld_base.specs.Numbers.{numbers_below}
use Rattle.ld_graph.specs.Edges.{IsLinked}
use Rattle.ld_graph.specs.Table.{has}
use Rattle.ld_value.specs.Datum.{Datum, same_datum}
use Rattle.ld_cascade.specs.Settling.{all_firings}
use Rattle.ld_cascade.specs.Work.{Spends, meets}
use Rattle.ld_cascade.proofs.Weights.{meets_true}
use Rattle.ld_model.specs.declared.unit.Unit.{Unit}
use Rattle.ld_names.specs.SiteNumbers.{site_count}
use Rattle.ld_roles.specs.declared.limit.TheConstants.{SEATS}
use Rattle.ld_state.specs.RunCells.{all_cells}
use Rattle.ld_state.specs.RunState.{RunState}
use Rattle.ld_state.proofs.Elements.{contains_from_in, in_below}
use Rattle.ld_state.proofs.SameCells.{one_value}
use Rattle.ld_rules.proofs.Mine.{kept}
use Rattle.ld_firing.specs.RunSystem.{IsSoundRun, content_of, run_system}
use Rattle.ld_firing.proofs.Lawful.{run_is_lawful}
use Rattle.ld_settling.specs.RunLinking.{IsNewcomer, RunWiring}
use Rattle.ld_settling.proofs.PersonsTold.{newcomer_is_none}
use Rattle.ld_cascade.proofs.Spending.{relinked_less, settling_spends}
use Rattle.ld_run.specs.CleanBefore.{TellsChanges, WereClean}
use Rattle.ld_run.specs.CommandWork.{judged_first, restoring, slots_changed, steps_settling}

or_right : (a b : Bool) → b ≡ true → (a || b) ≡ true
or_right true b is = refl
or_right false b is = is

or_left : (a b : Bool) → a ≡ true → (a || b) ≡ true
or_left true b is = refl
or_left false b is = absurd (cc)

-- Values that can't be one are not taken for one.
apart : (a b : Option Datum) → (a ≡ b → ⊥) → not (option_eq same_datum a b) ≡ true
apart a b other = by (option_eq same_datum a b) refl
  where
    by : (same : Bool) → option_eq same_datum a b ≡ same → not same ≡ true
    by true is = absurd (other (one_value a b is))
    by false is = refl

-- A slot that was told, and that the run had, is one that changed.
slot_changed : (unit : Unit) (s t : RunState) (told : List ℕ) → TellsChanges unit s t told → (k : ℕ) → Contains told k
    → k < length (all_cells unit (length s.persons)) → Contains (slots_changed unit s t) k
slot_changed unit s t told tells k there below =
    contains_from_in (slots_changed unit s t) k
    (kept (λ j. not (option_eq same_datum (content_of unit s j) (content_of unit t j))) (numbers_below (length (all_cells unit (length s.persons)))) k
    (in_below (length (all_cells unit (length s.persons))) k below)
    (apart (content_of unit s k) (content_of unit t k) (tells k there below)))

-- Where no site was dirty, those are that read a slot that changed.
pub told_stirs : (unit : Unit) (before now : RunState) (told : List ℕ) (links : RunWiring) → WereClean unit before now told links → (i : ℕ)
    → (has links.wiring.dirty i ≡ true) ⊎ ((k : ℕ) × Contains told k × IsLinked links.wiring.edges k i)
    → judged_first false unit before now i ≡ true
told_stirs unit before now told links were i (inl was) = absurd (let none = were.clean.none_dirty i in cc)
told_stirs unit before now told links were i (inr read) =
    let y = run_system unit in
    let reads = (were.clean.edges i).named read.0 read.2 in
    or_right (not (y.is_site before i)) (meets (y.reads before i) (slots_changed unit before now))
    (meets_true (y.reads before i) (slots_changed unit before now) read.0 reads
    (slot_changed unit before now told were.tells read.0 read.1 ((run_is_lawful unit).reads_below before i read.0 were.sound reads)))

-- And those of newcomers, which were none.
pub newcomer_stirs : (unit : Unit) (before now : RunState) (told : List ℕ) (below i : ℕ) (links : RunWiring) → WereClean unit before now told links
    → below ≤ SEATS → IsNewcomer unit (length before.persons) below i → judged_first false unit before now i ≡ true
newcomer_stirs unit before now told below i links were most new =
    or_left (not ((run_system unit).is_site before i)) (meets ((run_system unit).reads before i) (slots_changed unit before now))
    (ap not (newcomer_is_none unit before below i were.sound were.seats most new))

-- What a settling takes, where it judges these first, with what the restoring of what it links may take.
pub settled_cost : (unit : Unit) (s begun before : RunState) (renews : Bool) (old told now : RunWiring) (steps later : ℕ)
    → IsSoundRun unit s → s.seats ≡ SEATS → begun.seats ≡ SEATS
    → Spends (run_system unit) s (all_firings (run_system unit) s unit.turns) told.wiring now.wiring steps later
    → ((i : ℕ) → has told.wiring.dirty i ≡ true → judged_first renews unit before s i ≡ true)
    → ((i : ℕ) → has told.wiring.relinked i ≡ true → has old.wiring.relinked i ≡ true)
    → later + restoring unit begun now ≤ steps + restoring unit begun old + steps_settling renews unit begun before s
settled_cost unit s begun before renews old told now steps later sound seats begun_seats spends dirties relinked =
    let same : (run_system unit).count begun ≡ (run_system unit).count s = ap (site_count unit) (begun_seats ∙ sym seats) in
    let one = settling_spends (run_system unit) (run_is_lawful unit) s sound begun unit.turns told.wiring now.wiring steps later spends same
    (judged_first renews unit before s) dirties in
    let less = relinked_less (run_system unit) begun told.wiring.relinked old.wiring.relinked relinked in
    omega (arith, one, less)
