-- What a command takes, by its stages.
use Rattle.std.proofs.Common.{◌≡◌, refl, sym, ap, ◌∙◌, ℕ, ◌+◌, ◌*◌, ◌≤◌, List, [], ◌∷◌, ◌++◌, length, filter_map, Bool, Option, Some, None, is_some, cond, slice_get, subst, arith}
use Rattle.std.proofs.lemmas.List.Sums.{count_by-le-length, sum_by-append, sum_by-cons}
use Rattle.std.specs.List.{cons_option}
use Rattle.ld_graph.specs.Table.{has}
use Rattle.ld_cascade.specs.Work.{weight}
use Rattle.ld_cascade.specs.Wiring.{IsEmpty}
use Rattle.ld_cascade.proofs.Sums.{sum_same, sum_zero}
use Rattle.ld_globals.specs.Store.{Key, key_at}
use Rattle.ld_model.specs.Properties.{is_personal}
use Rattle.ld_model.specs.declared.cell.CellName.{CellName}
use Rattle.ld_model.specs.declared.cell.CellName.TheVariants.{Prop, Vis, Member, Chosen, Opened, ActOpened, Started, Mark, Now, Roster}
use Rattle.ld_model.specs.declared.cell.Owner.{Owner}
use Rattle.ld_model.specs.declared.property.Property.{Property}
use Rattle.ld_model.specs.declared.unit.Unit.{Unit}
use Rattle.ld_base.specs.Maybe.{◌>>=◌}
use Rattle.ld_refs.specs.Checks.{IsValid}
use Rattle.ld_expr.specs.Lookup.{is_some_and}
use Rattle.ld_roles.specs.declared.limit.TheConstants.{SEATS}
use Rattle.ld_state.specs.RunCells.{all_cells}
use Rattle.ld_state.specs.RunState.{RunState, seen_in}
use Rattle.ld_firing.specs.RunSystem.{run_system}
use Rattle.ld_firing.proofs.Growing.{cell_stays}
use Rattle.ld_roles.specs.Roster.{Persons}
use Rattle.ld_sharing.specs.Changes.{count_of, key_in_slot, key_of_cell, shared_slots}
use Rattle.ld_sharing.specs.Globals.{store_person}
use Rattle.ld_settling.specs.RunLinking.{RunWiring}
use Rattle.ld_admission.specs.Commands.{Admitted, enrols, assigns, drops, starts, opens, completes, sets, clears, gets, shows_tree, shows_outbox, reports, ticks, shows_next}
use Rattle.ld_replies.specs.ShownSteps.{shown_steps}
use Rattle.ld_step_laws.proofs.FewSteps.{reports_few, trees_few}
use Rattle.ld_run.specs.Changes.{written_directly}
use Rattle.ld_run.specs.CommandWork.{changing_steps, is_shared_cell, restoring, shared_among, showing_steps}

-- What is shown of a run takes few steps.
pub shown_few : (unit : Unit) (s : RunState) (command : Admitted) → IsValid unit → shown_steps unit s command ≤ showing_steps unit s command
shown_few unit s (enrols name) valid = omega arith
shown_few unit s (assigns p role) valid = omega arith
shown_few unit s (drops p role) valid = omega arith
shown_few unit s starts valid = omega arith
shown_few unit s (opens p thing) valid = omega arith
shown_few unit s (completes p thing) valid = omega arith
shown_few unit s (sets cell value) valid = omega arith
shown_few unit s (clears cell) valid = omega arith
shown_few unit s (gets cell) valid = omega arith
shown_few unit s (shows_tree p) valid = trees_few unit (seen_in unit s) p valid
shown_few unit s (shows_outbox p) valid = omega arith
shown_few unit s reports valid = reports_few unit valid
shown_few unit s ticks valid = omega arith
shown_few unit s shows_next valid = omega arith

-- A command that writes no property has no slot of its own to look at.
pub few_plain : (unit : Unit) (command : Admitted) (told : List ℕ) (steps later : ℕ) → written_directly command told ≡ []
    → later ≤ steps + changing_steps unit command
    → later + 2 * length (written_directly command told) ≤ steps + changing_steps unit command
few_plain unit command told steps later none within = omega (arith, within, ap (length {A = ℕ}) none)

-- Of the slots of three lists no more are shared than of each, or than there are in the second.
pub shared_in_all : (unit : Unit) (xs ys zs : List ℕ)
    → shared_among unit ((xs ++ ys) ++ zs) ≤ shared_among unit xs + length ys + shared_among unit zs
shared_in_all unit xs ys zs =
    let test : ℕ → Bool = λ k. is_some_and (is_shared_cell unit) (slice_get (all_cells unit SEATS) k) in
    let one : ℕ → ℕ = λ k. cond (test k) 1 0 in
    let all : shared_among unit ((xs ++ ys) ++ zs) ≡ shared_among unit (xs ++ ys) + shared_among unit zs = sum_by-append one (xs ++ ys) zs in
    let both : shared_among unit (xs ++ ys) ≡ shared_among unit xs + shared_among unit ys = sum_by-append one xs ys in
    let few : shared_among unit ys ≤ length ys = count_by-le-length test ys in
    omega (arith, all, both, few)

-- Where no site was linked, there is nothing to restore.
pub restores_none : (unit : Unit) (begun : RunState) (links : RunWiring) → IsEmpty links.wiring.relinked → restoring unit begun links ≡ 0
restores_none unit begun links none =
    let y = run_system unit in
    sum_same (y.count begun) (λ i. cond (has links.wiring.relinked i) (weight y begun i) 0) (λ _. 0)
    (λ i. ap (λ b. cond b (weight y begun i) 0) (none i))
    ∙ sum_zero (y.count begun)

-- ---- cells that have a key

key_of_person : (uri : List ℕ) (person : Option (Option (List ℕ))) → count_of (person >>= λ one. Some (key_at uri one)) ≤ 1
key_of_person uri None = omega arith
key_of_person uri (Some person) = omega arith

key_of_uri : (persons : Persons) (owner : Owner) (personal : Bool) (uri : Option (List ℕ))
    → count_of (uri >>= λ u. store_person persons personal owner >>= λ person. Some (key_at u person)) ≤ cond (is_some uri) 1 0
key_of_uri persons owner personal None = omega arith
key_of_uri persons owner personal (Some uri) = key_of_person uri (store_person persons personal owner)

key_of_property : (persons : Persons) (owner : Owner) (found : Option Property)
    → count_of (found >>= λ property. property.uri >>= λ uri. store_person persons (is_personal property.kind) owner >>= λ person. Some (key_at uri person))
    ≤ cond (is_some (found >>= λ property. property.uri)) 1 0
key_of_property persons owner None = omega arith
key_of_property persons owner (Some property) = key_of_uri persons owner (is_personal property.kind) property.uri

-- A cell that has a key is one of a property that has a uri.
key_there : (unit : Unit) (persons : Persons) (c : CellName) → count_of (key_of_cell unit persons c) ≤ cond (is_shared_cell unit c) 1 0
key_there unit persons (Prop p owner) = key_of_property persons owner (slice_get unit.properties p.0)
key_there unit persons (Vis t p) = omega arith
key_there unit persons (Member r p) = omega arith
key_there unit persons (Chosen t owner) = omega arith
key_there unit persons (Opened t owner) = omega arith
key_there unit persons (ActOpened t) = omega arith
key_there unit persons Started = omega arith
key_there unit persons (Mark r owner) = omega arith
key_there unit persons Now = omega arith
key_there unit persons Roster = omega arith

slot_there : (unit : Unit) (persons : Persons) → length persons ≤ SEATS → (k : ℕ)
    → count_of (key_in_slot unit persons k) ≤ cond (is_some_and (is_shared_cell unit) (slice_get (all_cells unit SEATS) k)) 1 0
slot_there unit persons seated k = by (slice_get (all_cells unit (length persons)) k) refl
  where
    by : (found : Option CellName) → slice_get (all_cells unit (length persons)) k ≡ found
        → count_of (found >>= key_of_cell unit persons) ≤ cond (is_some_and (is_shared_cell unit) (slice_get (all_cells unit SEATS) k)) 1 0
    by None at = omega arith
    by (Some c) at =
        subst (λ there. count_of (key_of_cell unit persons c) ≤ cond (is_some_and (is_shared_cell unit) there) 1 0)
        (sym (cell_stays unit (length persons) SEATS k c seated at)) (key_there unit persons c)

one_more : (key : Option Key) (keys : List Key) → length (cons_option key keys) ≡ count_of key + length keys
one_more None keys = omega arith
one_more (Some key) keys = omega arith

-- So no more slots are those of cells that have a key than are counted.
pub shared_fewer : (unit : Unit) (persons : Persons) → length persons ≤ SEATS → (slots : List ℕ)
    → shared_slots unit persons slots ≤ shared_among unit slots
shared_fewer unit persons seated [] = omega arith
shared_fewer unit persons seated (k ∷ ks) =
    let test : ℕ → Bool = λ j. is_some_and (is_shared_cell unit) (slice_get (all_cells unit SEATS) j) in
    let rest = shared_fewer unit persons seated ks in
    let first = slot_there unit persons seated k in
    let more : shared_among unit (k ∷ ks) ≡ cond (test k) 1 0 + shared_among unit ks = sum_by-cons (λ j. cond (test j) 1 0) k ks in
    let keys : shared_slots unit persons (k ∷ ks) ≡ count_of (key_in_slot unit persons k) + shared_slots unit persons ks =
    one_more (key_in_slot unit persons k) (filter_map (key_in_slot unit persons) ks) in
    omega (arith, rest, first, more, keys)
