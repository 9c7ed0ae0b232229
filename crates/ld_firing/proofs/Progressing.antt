-- What one step, and several one after another, add to what was done.
use Rattle.std.proofs.Common.{◌≡◌, refl, sym, ap, ap₂, subst, ◌∙◌, ℕ, suc, ◌+◌, ◌<◌, ◌≤◌, List, [], ◌∷◌, ◌++◌, map, fold, filter_map, take, get_or, length, slice_get, Option, Some, None, Bool, true, false, not, Result, Ok, Err, OnOk, arith, append_assoc, append-nil}
use Rattle.std.proofs.Math.Seq.{take-suc}
use Rattle.std.proofs.lemmas.Bool.{eq-eqb}
use Rattle.std.proofs.lemmas.Bool.Decides.{Decides-int_eq}
use Rattle.std.proofs.lemmas.List.{map-append, take_all}
use Rattle.std.proofs.lemmas.List.Elements.{filter_map-append}
use Rattle.std.proofs.lemmas.List.FromFn.{map-range_with_len_more}
use Rattle.std.proofs.lemmas.List.Sums.{fold_more, fold-append}
use Rattle.std.proofs.lemmas.Slice.Eq.{bytes_eq-Decides}
use Rattle.std.specs.List.{cons_option}
use Rattle.std.specs.Option.{option_map, option_eq}
use Rattle.ld_base.specs.Maybe.{◌>>=◌}
use Rattle.ld_base.specs.declared.fired.Fired.{Fired}
use Rattle.ld_base.specs.Numbers.{numbers_below}
use Rattle.ld_value.specs.Datum.{Datum, text_datum, truth_datum, number_datum, moment_datum, span_datum, same_datum, same_truth}
use Rattle.ld_model.specs.declared.cell.CellName.{CellName}
use Rattle.ld_model.specs.declared.cell.CellName.TheVariants.{Now}
use Rattle.ld_model.specs.declared.cell.Owner.{Owner}
use Rattle.ld_model.specs.declared.cell.Owner.TheVariants.{Run}
use Rattle.ld_model.specs.declared.completion.Change.{Change as ChangeOf}
use Rattle.ld_model.specs.declared.completion.Notice.{Notice}
use Rattle.ld_model.specs.declared.completion.OnCompletion.{OnCompletion}
use Rattle.ld_model.specs.declared.condition.Action.{Action}
use Rattle.ld_model.specs.declared.condition.Action.TheVariants.{Change, Notify}
use Rattle.ld_model.specs.declared.property.Property.{Property}
use Rattle.ld_model.specs.declared.unit.Unit.{Unit}
use Rattle.ld_names.specs.Names.{thing_number}
use Rattle.ld_names.specs.Rules.{Site}
use Rattle.ld_names.specs.declared.rule.Rule.{Rule}
use Rattle.ld_names.specs.Holders.{holder_of}
use Rattle.ld_names.specs.declared.holder.Holder.TheVariants.{Persons as HeldByPersons}
use Rattle.ld_rules.specs.SiteTests.{rule_of, site_test}
use Rattle.ld_expr.specs.Lookup.{property_number}
use Rattle.ld_expr.specs.Owners.{of_person, value_owner}
use Rattle.ld_expr.specs.Seen.{property_cell, visibility_cell, act_opened_cell, mark_cell}
use Rattle.ld_expr.specs.Terms.{term_value, cell_of_property}
use Rattle.ld_firing.specs.Actions.{Doing, nothing_done, differs, with_write, with_change, actions_if, do_action, if_fitting, change_for, firing_by, rule_effect, site_firing, holder_named, owners_of_change, do_change, do_notify, notice_now, set_visible, with_opening, with_visible}
use Rattle.ld_firing.specs.Progress.{Progress, progress_of, progress_by, Does}
use Rattle.ld_firing.specs.RunSystem.{slots_named}
use Rattle.ld_state.specs.Layout.{slot_in}
use Rattle.ld_state.specs.RunCells.{cell_if, slot_of}
use Rattle.ld_state.specs.RunState.{RunState, NoticeState, seen_in, with_cell, with_notice}
use Rattle.ld_state.specs.StateView.{StateView, IsStateOf, is_following, run_of}
use Rattle.ld_state.proofs.Elements.{different, none_is_some, some_same}
use Rattle.ld_state.proofs.SameCells.{one_value}
use Rattle.ld_state.proofs.SeenSame.{persons_counted}
use Rattle.ld_firing.proofs.SlotsThere.{slot_same}

-- ---- one after another

pub does_nothing : (unit : Unit) (p : Progress) → Does unit p p (λ doing. doing)
does_nothing unit p = record { each = λ before doing is. is }

pub does_then : {unit : Unit} {p q r : Progress} (f g : Doing → Doing) → Does unit p q f → Does unit q r g
    → Does unit p r (λ doing. g (f doing))
does_then f g first second =
    record { each = λ before doing is. second.each before (f doing) (first.each before doing is) }

pub does_same : {unit : Unit} {p q : Progress} (f g : Doing → Doing) → ((doing : Doing) → f doing ≡ g doing)
    → Does unit p q f → Does unit p q g
does_same {unit = unit} f g same does = record {
  each = λ before doing is. does.each before doing is ∙ ap (progress_by unit before) (same doing);
}

-- The next of a list.
pub does_next : {A : Type 0} {unit : Unit} {p q r : Progress} (step : Doing → A → Doing) (xs : List A) (i : ℕ) (x : A)
    → i < length xs → x ≡ get_or xs i x → Does unit p q (λ doing. fold step doing (take i xs))
    → Does unit q r (λ doing. step doing x) → Does unit p r (λ doing. fold step doing (take (i + 1) xs))
does_next step xs i x within is before one =
    does_same (λ doing. step (fold step doing (take i xs)) x) (λ doing. fold step doing (take (i + 1) xs))
    (λ doing. ap (step (fold step doing (take i xs))) is ∙ sym (fold_more step doing xs i x within))
    (does_then (λ doing. fold step doing (take i xs)) (λ doing. step doing x) before one)

pub one_more : {A : Type 0} → (xs : List A) (i : ℕ) (x : A) → i < length xs → x ≡ get_or xs i x
    → take (i + 1) xs ≡ take i xs ++ x ∷ []
one_more xs i x within is =
    let more : i + 1 ≡ suc i = omega arith in
    ap (λ n. take n xs) more ∙ take-suc xs i x within ∙ ap (λ y. take i xs ++ y ∷ []) (sym is)

-- The next of a list that is made of another.
pub does_next_of : {A B : Type 0} {unit : Unit} {p q r : Progress} (step : Doing → B → Doing) (f : A → B) (xs : List A) (i : ℕ) (x : A)
    → i < length xs → x ≡ get_or xs i x → Does unit p q (λ doing. fold step doing (map f (take i xs)))
    → Does unit q r (λ doing. step doing (f x)) → Does unit p r (λ doing. fold step doing (map f (take (i + 1) xs)))
does_next_of step f xs i x within is before one =
    does_same (λ doing. step (fold step doing (map f (take i xs))) (f x)) (λ doing. fold step doing (map f (take (i + 1) xs)))
    (λ doing. sym (fold-append step doing (map f (take i xs)) (f x ∷ []))
    ∙ ap (fold step doing) (sym (map-append f (take i xs) (x ∷ [])))
    ∙ ap (λ ys. fold step doing (map f ys)) (sym (one_more xs i x within is)))
    (does_then (λ doing. fold step doing (map f (take i xs))) (λ doing. step doing (f x)) before one)

-- All of a list.
pub does_all : {A : Type 0} {unit : Unit} {p q : Progress} (step : Doing → A → Doing) (xs : List A) (i : ℕ)
    → length xs ≤ i → Does unit p q (λ doing. fold step doing (take i xs))
    → Does unit p q (λ doing. fold step doing xs)
does_all step xs i whole does =
    does_same (λ doing. fold step doing (take i xs)) (λ doing. fold step doing xs)
    (λ doing. ap (fold step doing) (take_all i xs whole)) does

pub does_all_of : {A B : Type 0} {unit : Unit} {p q : Progress} (step : Doing → B → Doing) (f : A → B) (xs : List A) (i : ℕ)
    → length xs ≤ i → Does unit p q (λ doing. fold step doing (map f (take i xs)))
    → Does unit p q (λ doing. fold step doing (map f xs))
does_all_of step f xs i whole does =
    does_same (λ doing. fold step doing (map f (take i xs))) (λ doing. fold step doing (map f xs))
    (λ doing. ap (λ ys. fold step doing (map f ys)) (take_all i xs whole)) does

-- The next number.
pub does_number : {B : Type 0} {unit : Unit} {p q r : Progress} (step : Doing → B → Doing) (f : ℕ → B) (n : ℕ)
    → Does unit p q (λ doing. fold step doing (map f (numbers_below n))) → Does unit q r (λ doing. step doing (f n))
    → Does unit p r (λ doing. fold step doing (map f (numbers_below (n + 1))))
does_number step f n before one =
    does_same (λ doing. step (fold step doing (map f (numbers_below n))) (f n)) (λ doing. fold step doing (map f (numbers_below (n + 1))))
    (λ doing. sym (fold-append step doing (map f (numbers_below n)) (f n ∷ []))
    ∙ ap (fold step doing) (sym (map-range_with_len_more f 0 n n (omega arith))))
    (does_then (λ doing. fold step doing (map f (numbers_below n))) (λ doing. step doing (f n)) before one)

-- ---- a write

same_truth_itself : (b : Bool) → same_truth b b ≡ true
same_truth_itself true = refl
same_truth_itself false = refl

same_datum_itself : (d : Datum) → same_datum d d ≡ true
same_datum_itself (text_datum text) = (bytes_eq-Decides text text).1 refl
same_datum_itself (truth_datum b) = same_truth_itself b
same_datum_itself (number_datum z) = (Decides-int_eq z z).1 refl
same_datum_itself (moment_datum z) = (Decides-int_eq z z).1 refl
same_datum_itself (span_datum n) = eq-eqb n n refl

same_value_itself : (v : Option Datum) → option_eq same_datum v v ≡ true
same_value_itself None = refl
same_value_itself (Some d) = same_datum_itself d

module _ (unit : Unit) (s t : StateView) (told after : List ℕ) (cell : CellName) (value : Option Datum) where
  -- The slots that are told of it.
  pub told_where : (b : Bool) → option_eq same_datum ((run_of s).cells cell) value ≡ b → IsStateOf unit s
      → ((run_of s).cells cell ≡ value → after ≡ told)
      → (((run_of s).cells cell ≡ value → ⊥) → Some after ≡ option_map (λ slot. told ++ slot ∷ []) (slot_in s.layout (length s.rows) cell))
      → after ≡ told ++ filter_map (slot_of unit (length s.rows)) (cell_if (not b) cell)
  told_where true is own same other = same (one_value ((run_of s).cells cell) value is) ∙ sym (append-nil told)
  told_where false is own same other = by (slot_of unit (length s.rows) cell)
      (other (λ equal. different (sym (same_value_itself value)
      ∙ subst (λ v. option_eq same_datum v value ≡ false) equal is))
      ∙ ap (option_map (λ slot. told ++ slot ∷ [])) (slot_same unit s own cell))
    where
      by : (slot : Option ℕ) → Some after ≡ option_map (λ k. told ++ k ∷ []) slot → after ≡ told ++ cons_option slot []
      by None is = none_is_some (sym is)
      by (Some k) is = some_same is

  -- The cell gets the value, and its slot is told where that changed its value.
  pub wrote : (fired : Fired) → IsStateOf unit s → run_of t ≡ with_cell (run_of s) cell value
      → ((run_of s).cells cell ≡ value → after ≡ told)
      → (((run_of s).cells cell ≡ value → ⊥) → Some after ≡ option_map (λ slot. told ++ slot ∷ []) (slot_in s.layout (length s.rows) cell))
      → Does unit (progress_of s told fired) (progress_of t after fired) (λ doing. with_write doing cell value)
  wrote fired own written same other = record { each = each }
    where
      each : (before : List ℕ) (doing : Doing) → progress_of s told fired ≡ progress_by unit before doing
          → progress_of t after fired ≡ progress_by unit before (with_write doing cell value)
      each before doing is =
          let runs : run_of s ≡ doing.state = ap (λ (p : Progress). p.run) is in
          let slots : List CellName → List ℕ = λ cells. slots_named unit doing.state cells in
          let now : List CellName = cell_if (differs (doing.state.cells cell) value) cell in
          let new : after ≡ told ++ slots now =
          told_where (option_eq same_datum ((run_of s).cells cell) value) refl own same other
          ∙ ap₂ (λ n (r : RunState). told ++ filter_map (slot_of unit n) (cell_if (differs (r.cells cell) value) cell))
          (sym (persons_counted s) ∙ ap (λ (r : RunState). length r.persons) runs) runs in
          let all : after ≡ before ++ slots (doing.changes ++ now) =
          new ∙ ap (λ xs. xs ++ slots now) (ap (λ (p : Progress). p.told) is)
          ∙ append_assoc before (slots doing.changes) (slots now)
          ∙ ap (λ xs. before ++ xs) (sym (filter_map-append (slot_of unit (length doing.state.persons)) doing.changes now)) in
          λ i. record {
            run = (written ∙ ap (λ (r : RunState). with_cell r cell value) runs) i;
            told = all i;
            rejected = (is i).rejected;
            sent = (is i).sent;
          }

pub wrote_if : {A E : Type 0} → (result : Result A E) (unit : Unit) (s t : StateView) (told after : List ℕ) (cell : CellName) (value : Option Datum) (fired : Fired)
    → IsStateOf unit s → OnOk result (run_of t ≡ with_cell (run_of s) cell value)
    → OnOk result ((run_of s).cells cell ≡ value → after ≡ told)
    → OnOk result (((run_of s).cells cell ≡ value → ⊥) → Some after ≡ option_map (λ slot. told ++ slot ∷ []) (slot_in s.layout (length s.rows) cell))
    → OnOk result (Does unit (progress_of s told fired) (progress_of t after fired) (λ doing. with_write doing cell value))
wrote_if (Ok a) unit s t told after cell value fired own written same other =
    wrote unit s t told after cell value fired own written same other
wrote_if (Err e) unit s t told after cell value fired own written same other = tt

-- ---- changes

-- The value of the cell of a property does not follow from the persons.
pub property_plain : (unit : Unit) (owner : Owner) (id : List ℕ) (cell : CellName)
    → cell_of_property unit owner id ≡ Some cell → is_following cell ≡ false
property_plain unit owner id cell is = by (property_number unit id) is
  where
    of_property : (n : ℕ) (property : Option Property)
        → (property >>= λ one. Some (property_cell n (value_owner (holder_of unit one) owner))) ≡ Some cell
        → is_following cell ≡ false
    of_property n None is = none_is_some is
    of_property n (Some one) is = ap is_following (sym (some_same is))

    by : (number : Option ℕ)
        → (number >>= λ n. slice_get unit.properties n >>= λ one. Some (property_cell n (value_owner (holder_of unit one) owner))) ≡ Some cell
        → is_following cell ≡ false
    by None is = none_is_some is
    by (Some n) is = of_property n (slice_get unit.properties n) is

module _ (unit : Unit) (change : ChangeOf) (owner : Owner) where
  -- The owner's new value of the property in the run, where it fits.
  abbrev pub new_in : RunState → Option Datum
  new_in s = term_value unit (seen_in unit s) owner change.value >>= if_fitting unit change.property

  pub change_done : {p q : Progress} (cell : CellName) (value : Datum)
      → cell_of_property unit owner change.property ≡ Some cell → new_in p.run ≡ Some value
      → Does unit p q (λ doing. with_write doing cell (Some value))
      → Does unit p q (λ doing. change_for unit change doing owner)
  change_done {p = p} cell value names new does = record {
    each = λ before doing is.
        does.each before doing is
        ∙ ap (progress_by unit before) (sym (ap₂ (with_change doing) names
        (ap new_in (sym (ap (λ (r : Progress). r.run) is)) ∙ new)));
  }

  rejected_by : (s : StateView) (told : List ℕ) (old new : Fired) (before : List ℕ) (doing : Doing)
      → new.rejected ≡ old.rejected + 1 → new.sent ≡ old.sent → progress_of s told old ≡ progress_by unit before doing
      → progress_of s told new ≡ progress_by unit before (record doing { rejected = doing.rejected + 1 })
  rejected_by s told old new before doing rejected sent is = λ i. record {
    run = (is i).run;
    told = (is i).told;
    rejected = (rejected ∙ ap (λ (p : Progress). p.rejected + 1) is) i;
    sent = (sent ∙ ap (λ (p : Progress). p.sent) is) i;
  }

  -- A property that is none's.
  pub change_unnamed : (s : StateView) (told : List ℕ) (old new : Fired) → new.rejected ≡ old.rejected + 1
      → new.sent ≡ old.sent → cell_of_property unit owner change.property ≡ None
      → Does unit (progress_of s told old) (progress_of s told new) (λ doing. change_for unit change doing owner)
  change_unnamed s told old new rejected sent none = record {
    each = λ before doing is.
        rejected_by s told old new before doing rejected sent is
        ∙ ap (progress_by unit before) (sym (ap (λ cell. with_change doing cell (new_in doing.state)) none));
  }

  without_value : (doing : Doing) (cell : Option CellName) → with_change doing cell None ≡ record doing { rejected = doing.rejected + 1 }
  without_value doing None = refl
  without_value doing (Some cell) = refl

  -- No value that fits.
  pub change_unfit : (s : StateView) (told : List ℕ) (old new : Fired) → new.rejected ≡ old.rejected + 1
      → new.sent ≡ old.sent → new_in (run_of s) ≡ None
      → Does unit (progress_of s told old) (progress_of s told new) (λ doing. change_for unit change doing owner)
  change_unfit s told old new rejected sent none = record {
    each = λ before doing is.
        rejected_by s told old new before doing rejected sent is
        ∙ ap (progress_by unit before) (sym (ap (with_change doing (cell_of_property unit owner change.property))
        (ap new_in (sym (ap (λ (r : Progress). r.run) is)) ∙ none)
        ∙ without_value doing (cell_of_property unit owner change.property)));
  }

-- A change that is made for the owner alone, however many persons there are.
pub changed_alone : {unit : Unit} {q r : Progress} (change : ChangeOf) (owner : Owner)
    → ((n : ℕ) → owners_of_change (holder_named unit change.property) n owner ≡ owner ∷ [])
    → Does unit q r (λ doing. change_for unit change doing owner) → Does unit q r (λ doing. do_change unit owner doing change)
changed_alone {unit = unit} change owner alone does =
    does_same (λ doing. change_for unit change doing owner) (λ doing. do_change unit owner doing change)
    (λ doing. ap (fold (change_for unit change) doing) (sym (alone (length doing.state.persons)))) does

-- A change that is made for each person.
pub changed_by_all : {unit : Unit} {q r : Progress} (change : ChangeOf) (owner : Owner) (n : ℕ) → owner ≡ Run
    → holder_named unit change.property ≡ HeldByPersons → length q.run.persons ≡ n
    → Does unit q r (λ doing. fold (change_for unit change) doing (map of_person (numbers_below n)))
    → Does unit q r (λ doing. do_change unit owner doing change)
changed_by_all {unit = unit} {q = q} {r = r} change owner n is all count does =
    subst (λ (one : Owner). Does unit q r (λ doing. do_change unit one doing change)) (sym is) (record { each = each })
  where
    each : (before : List ℕ) (doing : Doing) → q ≡ progress_by unit before doing
        → r ≡ progress_by unit before (do_change unit Run doing change)
    each before doing same =
        does.each before doing same
        ∙ ap (λ k. progress_by unit before (fold (change_for unit change) doing (map of_person (numbers_below k))))
        (sym count ∙ ap (λ (p : Progress). length p.run.persons) same)
        ∙ ap (λ holder. progress_by unit before (fold (change_for unit change) doing (owners_of_change holder (length doing.state.persons) Run)))
        (sym all)

-- ---- notices

-- The notice is sent, and counted.
pub notified : (unit : Unit) (notice : Notice) (s t : StateView) (told : List ℕ) (old new : Fired) (sent : NoticeState)
    → run_of t ≡ with_notice (run_of s) sent → sent ≡ notice_now unit (run_of s) notice
    → new.rejected ≡ old.rejected → new.sent ≡ old.sent + 1
    → Does unit (progress_of s told old) (progress_of t told new) (λ doing. do_notify unit doing notice)
notified unit notice s t told old new sent run is_now rejected counted = record { each = each }
  where
    each : (before : List ℕ) (doing : Doing) → progress_of s told old ≡ progress_by unit before doing
        → progress_of t told new ≡ progress_by unit before (do_notify unit doing notice)
    each before doing is =
        let runs : run_of s ≡ doing.state = ap (λ (p : Progress). p.run) is in
        λ i. record {
          run = (run ∙ ap (with_notice (run_of s)) is_now ∙ ap (λ r. with_notice r (notice_now unit r notice)) runs) i;
          told = (is i).told;
          rejected = (rejected ∙ ap (λ (p : Progress). p.rejected) is) i;
          sent = (counted ∙ ap (λ (p : Progress). p.sent + 1) is) i;
        }

-- ---- the opening of an act

pub opened_now : {unit : Unit} {p q : Progress} (thing : ℕ) (opened : Option ℕ) (value : Option Datum)
    → opened ≡ Some thing → value ≡ p.run.cells Now
    → Does unit p q (λ doing. with_write doing (act_opened_cell thing) value)
    → Does unit p q (λ doing. with_opening doing opened)
opened_now {unit = unit} thing opened value names now does = record {
  each = λ before doing is.
      does.each before doing is
      ∙ ap (λ v. progress_by unit before (with_write doing (act_opened_cell thing) v))
      (now ∙ ap (λ (r : Progress). r.run.cells Now) is)
      ∙ ap (λ o. progress_by unit before (with_opening doing o)) (sym names);
}

pub nothing_opened : {unit : Unit} {p : Progress} (opened : Option ℕ) → opened ≡ None
    → Does unit p p (λ doing. with_opening doing opened)
nothing_opened {unit = unit} opened none = record {
  each = λ before doing is. is ∙ ap (λ o. progress_by unit before (with_opening doing o)) (sym none);
}

-- ---- visibility

pub nothing_shown : {unit : Unit} {p : Progress} (q : ℕ) (visible : Bool) (thing : Option ℕ) → thing ≡ None
    → Does unit p p (λ doing. with_visible q visible doing thing)
nothing_shown {unit = unit} q visible thing none = record {
  each = λ before doing is. is ∙ ap (λ o. progress_by unit before (with_visible q visible doing o)) (sym none);
}

pub one_shown : {unit : Unit} {p r : Progress} (q : ℕ) (visible : Bool) (n : ℕ) (thing : Option ℕ) → thing ≡ Some n
    → Does unit p r (λ doing. with_write doing (visibility_cell n q) (Some (truth_datum visible)))
    → Does unit p r (λ doing. with_visible q visible doing thing)
one_shown {unit = unit} q visible n thing is does = record {
  each = λ before doing same.
      does.each before doing same ∙ ap (λ o. progress_by unit before (with_visible q visible doing o)) (sym is);
}

-- What is shown to a person who acts.
pub shown_by : {unit : Unit} {p r : Progress} (owner : Owner) (q : ℕ) (visible : Bool) (id : List ℕ) → owner ≡ of_person q
    → Does unit p r (λ doing. with_visible q visible doing (thing_number unit id))
    → Does unit p r (λ doing. set_visible unit owner visible doing id)
shown_by {unit = unit} {p = p} {r = r} owner q visible id is does =
    subst (λ (one : Owner). Does unit p r (λ doing. set_visible unit one visible doing id)) (sym is) does

-- ---- actions

-- The same action.
pub acts_as : {unit : Unit} {q r : Progress} (owner : Owner) (one other : Action) → one ≡ other
    → Does unit q r (λ doing. do_action unit owner doing other) → Does unit q r (λ doing. do_action unit owner doing one)
acts_as {unit = unit} {q = q} {r = r} owner one other is does =
    subst (λ (a : Action). Does unit q r (λ doing. do_action unit owner doing a)) (sym is) does

-- What follows a completion: first the changes, then the notices.
pub followed : {unit : Unit} {p q r : Progress} (owner : Owner) (follows : Option OnCompletion) (one : OnCompletion)
    (changes : List ChangeOf) (notices : List Notice) → follows ≡ Some one → changes ≡ one.change → notices ≡ one.notify
    → Does unit p q (λ doing. fold (do_action unit owner) doing (map Change changes))
    → Does unit q r (λ doing. fold (do_action unit owner) doing (map Notify notices))
    → Does unit p r (λ doing. fold (do_action unit owner) doing (actions_if follows))
followed {unit = unit} owner follows one changes notices is same_changes same_notices first second =
    does_same
    (λ doing. fold (do_action unit owner) (fold (do_action unit owner) doing (map Change changes)) (map Notify notices))
    (λ doing. fold (do_action unit owner) doing (actions_if follows))
    (λ doing. sym (fold-append (do_action unit owner) doing (map Change changes) (map Notify notices))
    ∙ ap₂ (λ xs ys. fold (do_action unit owner) doing (map Change xs ++ map Notify ys)) same_changes same_notices
    ∙ ap (λ (o : Option OnCompletion). fold (do_action unit owner) doing (actions_if o)) (sym is))
    (does_then (λ doing. fold (do_action unit owner) doing (map Change changes)) (λ doing. fold (do_action unit owner) doing (map Notify notices)) first second)

-- The actions of another list that is the same.
pub does_listed : {A : Type 0} {unit : Unit} {q r : Progress} (step : Doing → A → Doing) (xs ys : List A) → xs ≡ ys
    → Does unit q r (λ doing. fold step doing xs) → Does unit q r (λ doing. fold step doing ys)
does_listed {unit = unit} {q = q} {r = r} step xs ys same does =
    subst (λ zs. Does unit q r (λ doing. fold step doing zs)) same does

-- ---- from nothing

-- What was done from the start on.
pub done_at_all : (unit : Unit) (s : StateView) (told : List ℕ) (q : Progress) (step : Doing → Doing)
    → Does unit (progress_of s told (record { rejected = 0; sent = 0 })) q step
    → q ≡ progress_by unit told (step (nothing_done (run_of s)))
done_at_all unit s told q step does =
    does.each told (nothing_done (run_of s)) (λ i. record {
      run = run_of s;
      told = sym (append-nil told) i;
      rejected = 0;
      sent = 0;
    })

-- What is done once the mark is set is the firing of the site.
pub fired_is : (unit : Unit) (s : RunState) (site : Site) (rule : Rule) (verdict : Bool) → rule_of unit site ≡ Some rule
    → verdict ≡ site_test unit (seen_in unit s) site
    → rule_effect unit site.owner rule verdict (with_write (nothing_done s) (mark_cell site.rule site.owner) (Some (truth_datum verdict)))
    ≡ site_firing unit s site
unfolding site_firing
fired_is unit s site rule verdict ruled is =
    ap (λ b. rule_effect unit site.owner rule b (with_write (nothing_done s) (mark_cell site.rule site.owner) (Some (truth_datum b)))) is
    ∙ ap (λ (found : Option Rule). elim found as (λ _. Doing) [ None ↦ nothing_done s | Some r ↦ firing_by unit s site r ]) (sym ruled)
