-- That nothing but what changed is told: of a write, of the moment and the store's values, of a person who joins, and of a
-- role that is given or taken.
use Rattle.std.proofs.Common.{◌≡◌, refl, sym, ap, subst, ◌∙◌, ℕ, ℤ, pos, negsuc, ◌+◌, ◌<◌, ◌≤◌, ◌⊎◌, inl, inr, List, [], ◌∷◌, ◌++◌, map, flat_map, filter, filter_map, length, slice_get, get_or, Option, Some, None, option_map, Bool, true, false, not, Contains, Result, Ok, Err, OnOk, length-append, arith, nat_lt, ◌&&◌, if◌then◌else◌}
use Rattle.std.proofs.lemmas.Bool.{lt-ltb}
use Rattle.std.proofs.lemmas.Option.{slice_get-get_or}
use Rattle.std.specs.List.{cons_option}
use Rattle.std.specs.Option.{option_eq}
use Rattle.ld_base.specs.Maybe.{◌>>=◌, provided}
use Rattle.ld_base.specs.Numbers.{numbers_below}
use Rattle.ld_value.specs.Datum.{Datum, text_datum, truth_datum, number_datum, moment_datum, span_datum, same_datum, same_truth}
use Rattle.ld_model.specs.Cells.{same_cell}
use Rattle.ld_model.specs.declared.cell.CellName.{CellName}
use Rattle.ld_model.specs.declared.cell.CellName.TheVariants.{Prop, Vis, Member, Chosen, Opened, ActOpened, Started, Mark, Now, Roster}
use Rattle.ld_model.specs.declared.unit.Unit.{Unit}
use Rattle.ld_expr.specs.Owners.{of_person}
use Rattle.ld_expr.specs.Seen.{chosen_cell, member_cell, opened_cell}
use Rattle.ld_rules.specs.LawWords.{is_property}
use Rattle.ld_roles.specs.RoleBounds.{role_bounds}
use Rattle.ld_roles.specs.Roster.{is_member_in, newcomer, with_role}
use Rattle.ld_state.specs.GlobalValues.{GlobalValues}
use Rattle.ld_state.specs.Layout.{slot_in}
use Rattle.ld_state.specs.RunCells.{all_cells, cell_if, person_cells, run_cells, slot_of}
use Rattle.ld_state.specs.RunState.{RunState, cell_of, holding, joined, with_cell}
use Rattle.ld_state.specs.StateView.{IsStateOf, StateView, run_of, slots_of_membership}
use Rattle.ld_state.proofs.Cells.{person_cells_are_own, run_cells_are_of_run}
use Rattle.ld_state.proofs.Elements.{IsIn, different, from_flat_map, from_map, in_either, in_filter, in_from_contains, in_stands, is_below, some_same}
use Rattle.ld_state.proofs.Laid.{slot_laid}
use Rattle.ld_state.proofs.Memberships.{changed_count}
use Rattle.ld_state.proofs.SameCells.{one_cell, same_cell_itself}
use Rattle.ld_state.proofs.SeenSame.{persons_counted}
use Rattle.ld_state.proofs.There.{own_of_slot}
use Rattle.ld_firing.specs.RunSystem.{content_of}
use Rattle.ld_firing.proofs.Found.{found_by, given_by}
use Rattle.ld_firing.proofs.Growing.{cell_stays}
use Rattle.ld_firing.proofs.Progressing.{told_where}
use Rattle.ld_sharing.specs.Globals.{taking_in}
use Rattle.ld_run.specs.CleanBefore.{TellsChanges}
use Rattle.ld_run.specs.RunStep.{at_moment}
use Rattle.ld_run.proofs.PersonsTold.{membership_slots, roles_apart}

-- ---- what is seen at a slot

-- A cell that is found by a slot stands there.
stands_there : (unit : Unit) (n k : ℕ) (c : CellName) → slot_of unit n c ≡ Some k → slice_get (all_cells unit n) k ≡ Some c
stands_there unit n k c is =
    let found = found_by (same_cell c) (all_cells unit n) 0 k is in
    ap (slice_get (all_cells unit n)) (omega (arith, found.sum)) ∙ found.at ∙ ap Some (sym (one_cell c found.element found.passes))

seen_at : (unit : Unit) (s : RunState) (k : ℕ) (c : CellName) → slice_get (all_cells unit (length s.persons)) k ≡ Some c
    → content_of unit s k ≡ cell_of unit s c
seen_at unit s k c at = ap (λ found. found >>= cell_of unit s) at

none_in : (k : ℕ) → Contains [] k → ⊥
none_in k there = in_from_contains [] k there

first_or_later : {A : Type 0} (test : A → Bool) (y : A) (ys : List A) (x : A) (b : Bool) → test y ≡ b → IsIn (filter test (y ∷ ys)) x
    → (test x ≡ true) ⊎ IsIn (filter test ys) x
first_or_later test y ys x true is inside = elim (rw is at inside) [ inl same ↦ inl (sym (ap test same) ∙ is) | inr later ↦ inr later ]
first_or_later test y ys x false is inside = inr (rw is at inside)

passes_filter : {A : Type 0} (test : A → Bool) (xs : List A) (x : A) → IsIn (filter test xs) x → test x ≡ true
passes_filter test [] x inside = absurd inside
passes_filter test (y ∷ ys) x inside = elim (first_or_later test y ys x (test y) refl inside) [
  | inl passes ↦ passes
  | inr later ↦ passes_filter test ys x later
]

-- ---- nothing, and one write

pub tells_none : (unit : Unit) (s t : RunState) (told : List ℕ) → told ≡ [] → TellsChanges unit s t told
tells_none unit s t told none k there below same = none_in k (subst (λ slots. Contains slots k) none there)

-- The cell is seen as it is kept: it is no membership, and not the roster.
abbrev pub IsSeenAsKept : Unit → CellName → Type 0
IsSeenAsKept unit cell = (s : RunState) → cell_of unit s cell ≡ s.cells cell

pub property_seen : (unit : Unit) (cell : CellName) → is_property cell ≡ true → IsSeenAsKept unit cell
unfolding cell_of
property_seen unit (Prop n owner) is s = refl
property_seen unit (Vis t p) is s = different (sym is)
property_seen unit (Member r p) is s = different (sym is)
property_seen unit (Chosen t owner) is s = different (sym is)
property_seen unit (Opened t owner) is s = different (sym is)
property_seen unit (ActOpened t) is s = different (sym is)
property_seen unit Started is s = different (sym is)
property_seen unit (Mark r owner) is s = different (sym is)
property_seen unit Now is s = different (sym is)
property_seen unit Roster is s = different (sym is)

pub now_seen : (unit : Unit) → IsSeenAsKept unit Now
unfolding cell_of
now_seen unit s = refl

pub started_seen : (unit : Unit) → IsSeenAsKept unit Started
unfolding cell_of
started_seen unit s = refl

pub opened_seen : (unit : Unit) (thing p : ℕ) → IsSeenAsKept unit (opened_cell thing (of_person p))
unfolding cell_of
opened_seen unit thing p s = refl

pub chosen_seen : (unit : Unit) (thing p : ℕ) → IsSeenAsKept unit (chosen_cell thing p)
unfolding cell_of
chosen_seen unit thing p s = refl

module _ (unit : Unit) (old new : StateView) (told : List ℕ) (cell : CellName) (value : Option Datum) (own : IsStateOf unit old)
    (run : run_of new ≡ with_cell (run_of old) cell value) (same : (run_of old).cells cell ≡ value → told ≡ [])
    (changed : ((run_of old).cells cell ≡ value → ⊥) → Some told ≡ option_map (λ slot. [] ++ slot ∷ []) (slot_in old.layout (length old.rows) cell)) where
  abbrev s : RunState
  s = run_of old

  slots : told ≡ filter_map (slot_of unit (length s.persons)) (cell_if (not (option_eq same_datum (s.cells cell) value)) cell)
  slots =
      subst (λ n. told ≡ filter_map (slot_of unit n) (cell_if (not (option_eq same_datum (s.cells cell) value)) cell)) (sym (persons_counted old))
      (told_where unit old new [] told cell value (option_eq same_datum (s.cells cell) value) refl own same changed)

  -- Where its slot is told the cell has another value.
  write_changes : IsSeenAsKept unit cell → TellsChanges unit s (with_cell s cell value) told
  write_changes kept k there below equal = by (not (option_eq same_datum (s.cells cell) value)) (subst (λ all. IsIn all k) slots (in_from_contains told k there))
    where
      by : (b : Bool) → IsIn (filter_map (slot_of unit (length s.persons)) (cell_if b cell)) k → ⊥
      by false inside = inside
      by true inside =
          let one = given_by (slot_of unit (length s.persons)) (cell ∷ []) k inside in
          let is_cell : cell ≡ one.element = elim one.inside [ inl is ↦ is | inr none ↦ absurd none ] in
          let at = stands_there unit (length s.persons) k cell (ap (slot_of unit (length s.persons)) is_cell ∙ one.gives) in
          let is_value : s.cells cell ≡ value =
          sym (kept s) ∙ sym (seen_at unit s k cell at) ∙ equal ∙ seen_at unit (with_cell s cell value) k cell at
          ∙ kept (with_cell s cell value) ∙ ap (λ b. if b then value else s.cells cell) (same_cell_itself cell) in
          none_in k (subst (λ all. Contains all k) (same is_value) there)

  pub set_changes : IsSeenAsKept unit cell → TellsChanges unit s (run_of new) told
  set_changes kept = subst (λ t. TellsChanges unit s t told) (sym run) (write_changes kept)

  -- At most one slot is told.
  pub one_told : length told ≤ 1
  one_told = by (not (option_eq same_datum (s.cells cell) value)) slots
    where
      at_most : (slot : Option ℕ) → length (cons_option slot []) ≤ 1
      at_most None = omega arith
      at_most (Some k) = omega arith

      by : (b : Bool) → told ≡ filter_map (slot_of unit (length s.persons)) (cell_if b cell) → length told ≤ 1
      by false is = omega (arith, ap (length {A = ℕ}) is)
      by true is = omega (arith, ap (length {A = ℕ}) is, at_most (slot_of unit (length s.persons) cell))

-- What the clauses of a state's `set` come to, where nothing was told before.
pub changes_if_set : {A E : Type 0} → (result : Result A E) (unit : Unit) (old new : StateView) (before told : List ℕ) (cell : CellName) (value : Option Datum)
    → IsSeenAsKept unit cell → IsStateOf unit old → OnOk result (run_of new ≡ with_cell (run_of old) cell value)
    → OnOk result ((run_of old).cells cell ≡ value → told ≡ before)
    → OnOk result (((run_of old).cells cell ≡ value → ⊥) → Some told ≡ option_map (λ slot. before ++ slot ∷ []) (slot_in old.layout (length old.rows) cell))
    → OnOk result (before ≡ [] → TellsChanges unit (run_of old) (run_of new) told)
changes_if_set (Ok a) unit old new before told cell value kept own run same changed = λ none.
    set_changes unit old new told cell value own run (λ is. same is ∙ none)
    (λ other. changed other ∙ ap (λ early. option_map (λ slot. early ++ slot ∷ []) (slot_in old.layout (length old.rows) cell)) none) kept
changes_if_set (Err e) unit old new before told cell value kept own run same changed = tt

pub few_if_set : {A E : Type 0} → (result : Result A E) (unit : Unit) (old new : StateView) (before told : List ℕ) (cell : CellName) (value : Option Datum)
    → IsStateOf unit old → OnOk result (run_of new ≡ with_cell (run_of old) cell value)
    → OnOk result ((run_of old).cells cell ≡ value → told ≡ before)
    → OnOk result (((run_of old).cells cell ≡ value → ⊥) → Some told ≡ option_map (λ slot. before ++ slot ∷ []) (slot_in old.layout (length old.rows) cell))
    → OnOk result (before ≡ [] → length told ≤ 1)
few_if_set (Ok a) unit old new before told cell value own run same changed = λ none.
    one_told unit old new told cell value own run (λ is. same is ∙ none)
    (λ other. changed other ∙ ap (λ early. option_map (λ slot. early ++ slot ∷ []) (slot_in old.layout (length old.rows) cell)) none)
few_if_set (Err e) unit old new before told cell value own run same changed = tt

-- ---- the moment and the store's values

module _ (unit : Unit) (store : GlobalValues) (s : RunState) (moment : ℤ) (told more : List ℕ) where
  abbrev dated : RunState
  dated = at_moment s moment

  abbrev taken : RunState
  taken = taking_in unit store dated

  -- Of the two only the one changes the cell of the moment, and that one no other.
  now_stays : (k : ℕ) (c : CellName) → slice_get (all_cells unit (length s.persons)) k ≡ Some c → same_cell c Now ≡ true
      → content_of unit dated k ≡ content_of unit taken k
  unfolding cell_of
  now_stays k c at is =
      let at_now = at ∙ ap Some (one_cell c Now is) in
      seen_at unit dated k Now at_now ∙ sym (seen_at unit taken k Now at_now)

  other_stays : (k : ℕ) (c : CellName) → slice_get (all_cells unit (length s.persons)) k ≡ Some c → same_cell c Now ≡ false
      → content_of unit s k ≡ content_of unit dated k
  unfolding cell_of
  other_stays k c at other = seen_at unit s k c at ∙ by c other ∙ sym (seen_at unit dated k c at)
    where
      by : (one : CellName) → same_cell one Now ≡ false → cell_of unit s one ≡ cell_of unit dated one
      by (Member r p) other = refl
      by Roster other = refl
      by (Prop n owner) other = refl
      by (Vis t p) other = refl
      by (Chosen t owner) other = refl
      by (Opened t owner) other = refl
      by (ActOpened t) other = refl
      by Started other = refl
      by (Mark r owner) other = refl
      by Now other = different other

  pub refreshed_changes : TellsChanges unit s dated told
      → ((k : ℕ) → Contains more k → Contains told k ⊎ (content_of unit dated k ≡ content_of unit taken k → ⊥))
      → TellsChanges unit s taken more
  refreshed_changes first second k there below equal =
      by (same_cell c Now) refl (second k there)
    where
      c : CellName
      c = get_or (all_cells unit (length s.persons)) k Now

      at : slice_get (all_cells unit (length s.persons)) k ≡ Some c
      at = slice_get-get_or (all_cells unit (length s.persons)) k Now below

      by : (b : Bool) → same_cell c Now ≡ b → Contains told k ⊎ (content_of unit dated k ≡ content_of unit taken k → ⊥) → ⊥
      by true is (inl early) = first k early below (equal ∙ sym (now_stays k c at is))
      by true is (inr late) = late (now_stays k c at is)
      by false is (inl early) = first k early below (other_stays k c at is)
      by false is (inr late) = late (sym (other_stays k c at is) ∙ equal)

-- The same where a refusal is possible.
pub refreshed_if : {A E : Type 0} (result : Result A E) (unit : Unit) (store : GlobalValues) (s mid t : RunState) (moment : ℤ) (before told more : List ℕ)
    → mid ≡ at_moment s moment → (before ≡ [] → TellsChanges unit s mid told) → OnOk result (t ≡ taking_in unit store mid)
    → OnOk result ((k : ℕ) → Contains more k → Contains told k ⊎ (content_of unit mid k ≡ content_of unit t k → ⊥))
    → OnOk result (before ≡ [] → TellsChanges unit s t more)
refreshed_if (Ok a) unit store s mid t moment before told more dates first takes second = λ none.
    let is = takes ∙ ap (taking_in unit store) dates in
    subst (λ r. TellsChanges unit s r more) (sym is)
    (refreshed_changes unit store s moment told more
    (subst (λ r. TellsChanges unit s r told) dates (first none))
    (subst (λ r. (k : ℕ) → Contains more k → Contains told k ⊎ (content_of unit (at_moment s moment) k ≡ content_of unit r k → ⊥)) is
    (subst (λ r. (k : ℕ) → Contains more k → Contains told k ⊎ (content_of unit r k ≡ content_of unit t k → ⊥)) dates second)))
refreshed_if (Err e) unit store s mid t moment before told more dates first takes second = tt

-- ---- a person joins

natural : ℤ → ℕ
natural (pos n) = n
natural (negsuc n) = 0

count_in : Option Datum → ℕ
count_in None = 0
count_in (Some (text_datum text)) = 0
count_in (Some (truth_datum b)) = 0
count_in (Some (number_datum z)) = natural z
count_in (Some (moment_datum z)) = 0
count_in (Some (span_datum n)) = 0

module _ (unit : Unit) (store : GlobalValues) (s : RunState) (moment : ℤ) (name : List ℕ) (told : List ℕ)
    (is : told ≡ filter_map (slot_of unit (length s.persons + 1)) (Roster ∷ person_cells unit (length s.persons))) where
  abbrev n : ℕ
  n = length s.persons

  abbrev after : RunState
  after = joined unit store s moment name

  counted : length after.persons ≡ n + 1
  counted = length-append s.persons (newcomer name ∷ [])

  -- No cell of the newcomer's is one that the run had.
  own_is_new : (k : ℕ) (c : CellName) → slice_get (all_cells unit n) k ≡ Some c → IsIn (person_cells unit n) c → ⊥
  own_is_new k c at own =
      by (in_either (run_cells unit) (flat_map (person_cells unit) (numbers_below n)) c (in_stands (all_cells unit n) k c at))
    where
      by : IsIn (run_cells unit) c ⊎ IsIn (flat_map (person_cells unit) (numbers_below n)) c → ⊥
      by (inl early) = omega (arith, run_cells_are_of_run unit c early, person_cells_are_own unit n c own)
      by (inr late) =
          let one = from_flat_map (person_cells unit) (numbers_below n) c late in
          omega (arith, person_cells_are_own unit one.element c one.gives, person_cells_are_own unit n c own, is_below n one.element one.inside)

  pub joined_changes : TellsChanges unit s after told
  unfolding cell_of count_in natural
  joined_changes k there below equal =
      let one = given_by (slot_of unit (n + 1)) (Roster ∷ person_cells unit n) k (subst (λ slots. IsIn slots k) is (in_from_contains told k there)) in
      let at_after = stands_there unit (n + 1) k one.element one.gives in
      let c = get_or (all_cells unit n) k Roster in
      let at = slice_get-get_or (all_cells unit n) k Roster below in
      let is_c : c ≡ one.element = some_same (sym (cell_stays unit n (n + 1) k c (omega arith) at) ∙ at_after) in
      let at_before : slice_get (all_cells unit n) k ≡ Some one.element = at ∙ ap Some is_c in
      elim one.inside [
        | inl roster ↦
            let early = seen_at unit s k Roster (at_before ∙ ap Some (sym roster)) in
            let late = seen_at unit after k Roster (ap (λ m. slice_get (all_cells unit m) k) counted ∙ at_after ∙ ap Some (sym roster)) in
            let same : n ≡ length after.persons = ap count_in (sym early ∙ equal ∙ late) in
            omega (arith, same, counted)
        | inr own ↦ own_is_new k one.element at_before own
      ]

-- ---- a role is given or taken

truth_in : Option Datum → Bool
truth_in None = false
truth_in (Some (text_datum text)) = false
truth_in (Some (truth_datum b)) = b
truth_in (Some (number_datum z)) = false
truth_in (Some (moment_datum z)) = false
truth_in (Some (span_datum n)) = false

truth_itself : (b : Bool) → same_truth b b ≡ true
truth_itself true = refl
truth_itself false = refl

module _ (unit : Unit) (s : RunState) (p role : ℕ) (held : Bool) (told : List ℕ)
    (is : told ≡ filter_map (slot_of unit (length s.persons))
    (map (λ r. member_cell r p) (roles_apart (role_bounds unit) s.persons (holding s p role held).persons p))) where
  abbrev now : RunState
  now = holding s p role held

  as_many : length now.persons ≡ length s.persons
  as_many = changed_count (with_role role held) p s.persons

  -- What is seen of the membership of a person who is there.
  seen_member : (t : RunState) (r : ℕ) → r < length (role_bounds unit) → p < length t.persons
      → truth_in (cell_of unit t (member_cell r p)) ≡ is_member_in unit t.persons r p
  unfolding cell_of truth_in
  seen_member t r role_there there =
      ap (λ b. truth_in (provided (b && nat_lt p (length t.persons)) (truth_datum (is_member_in unit t.persons r p)))) (lt-ltb r (length (role_bounds unit)) role_there)
      ∙ ap (λ b. truth_in (provided b (truth_datum (is_member_in unit t.persons r p)))) (lt-ltb p (length t.persons) there)

  pub holding_changes : TellsChanges unit s now told
  holding_changes k there below equal =
      let n = length s.persons in
      let roles = roles_apart (role_bounds unit) s.persons now.persons p in
      let one = given_by (slot_of unit n) (map (λ r. member_cell r p) roles) k (subst (λ slots. IsIn slots k) is (in_from_contains told k there)) in
      let found = from_map (λ r. member_cell r p) roles one.element one.inside in
      let r = found.element in
      let slot : slot_of unit n (member_cell r p) ≡ Some k = ap (slot_of unit n) found.is ∙ one.gives in
      let at = stands_there unit n k (member_cell r p) slot in
      let at_now : slice_get (all_cells unit (length now.persons)) k ≡ Some (member_cell r p) = ap (λ m. slice_get (all_cells unit m) k) as_many ∙ at in
      let test : ℕ → Bool = λ q. not (same_truth (is_member_in unit s.persons q p) (is_member_in unit now.persons q p)) in
      let apart : test r ≡ true = passes_filter test (numbers_below (length (role_bounds unit))) r found.inside in
      let role_there = is_below (length (role_bounds unit)) r (in_filter test (numbers_below (length (role_bounds unit))) r found.inside) in
      let person = own_of_slot unit n p (member_cell r p) k refl (slot_laid unit n (member_cell r p) ∙ slot) in
      let one_truth : is_member_in unit s.persons r p ≡ is_member_in unit now.persons r p =
      sym (seen_member s r role_there person.below) ∙ ap truth_in (sym (seen_at unit s k (member_cell r p) at) ∙ equal ∙ seen_at unit now k (member_cell r p) at_now)
      ∙ seen_member now r role_there (omega (arith, as_many, person.below)) in
      different (sym apart ∙ ap (λ b. not (same_truth b (is_member_in unit now.persons r p))) one_truth ∙ ap not (truth_itself (is_member_in unit now.persons r p)))

-- What is told where a role was given or taken, of nothing told before.
pub changes_of_membership : {A E : Type 0} (result : Result A E) (unit : Unit) (state later : StateView) → IsStateOf unit state
    → (p role : ℕ) (held : Bool) (before told : List ℕ)
    → OnOk result (run_of later ≡ holding (run_of state) p role held)
    → OnOk result (told ≡ before ++ slots_of_membership state later p) → later.roles ≡ state.roles
    → OnOk result (before ≡ [] → TellsChanges unit (run_of state) (run_of later) told)
changes_of_membership (Ok a) unit state later own p role held before told run changed roles = λ none.
    let s = run_of state in
    let slots = changed ∙ ap (λ slots. slots ++ slots_of_membership state later p) none ∙ membership_slots unit state later p own roles
    ∙ ap (λ (t : RunState). filter_map (slot_of unit (length s.persons)) (map (λ r. member_cell r p) (roles_apart (role_bounds unit) s.persons t.persons p))) run in
    subst (λ (t : RunState). TellsChanges unit s t told) (sym run) (holding_changes unit s p role held told slots)
changes_of_membership (Err e) unit state later own p role held before told run changed roles = tt
