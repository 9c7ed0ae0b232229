-- What a firing writes: values that suit their cells, and but for its own mark no mark. What holds before a
-- firing and through each write, rejection and notice of it holds after it.
use Rattle.std.proofs.Common.{◌≡◌, refl, sym, subst, ℕ, ◌+◌, List, [], ◌∷◌, ◌++◌, fold, slice_get, Option, Some, None, Bool, true, false, ◌&&◌, nat_le, length}
use Rattle.std.specs.Option.{option_map}
use Rattle.ld_base.specs.Maybe.{◌>>=◌, provided}
use Rattle.ld_value.specs.Datum.{Datum, text_datum, truth_datum, number_datum, moment_datum, span_datum}
use Rattle.ld_value.specs.Values.{is_value, is_text, is_uri, fits_in}
use Rattle.ld_value.specs.declared.kind.Kind.{Kind}
use Rattle.ld_value.specs.declared.kind.Kind.TheVariants as kind
use Rattle.ld_model.specs.declared.cell.CellName.{CellName}
use Rattle.ld_model.specs.declared.cell.CellName.TheVariants.{Prop, Vis, Member, Chosen, Opened, ActOpened, Started, Mark, Now, Roster}
use Rattle.ld_model.specs.declared.cell.Owner.{Owner}
use Rattle.ld_model.specs.declared.cell.Owner.TheVariants.{Run, Person}
use Rattle.ld_model.specs.declared.completion.Change.{Change as ChangeOf}
use Rattle.ld_model.specs.declared.condition.Action.{Action}
use Rattle.ld_model.specs.declared.condition.Action.TheVariants.{Show, Hide, Change, Notify}
use Rattle.ld_model.specs.declared.property.Property.{Property}
use Rattle.ld_model.specs.declared.unit.Unit.{Unit}
use Rattle.ld_names.specs.declared.rule.Rule.{Rule}
use Rattle.ld_names.specs.Names.{thing_number}
use Rattle.ld_names.specs.Rules.{Site}
use Rattle.ld_names.specs.Holders.{holder_of}
use Rattle.ld_expr.specs.Lookup.{is_some_and, property_number}
use Rattle.ld_expr.specs.Owners.{fits_property, value_owner}
use Rattle.ld_expr.specs.Seen.{property_cell, visibility_cell, act_opened_cell}
use Rattle.ld_expr.specs.Terms.{term_value, cell_of_property}
use Rattle.ld_firing.specs.Actions.{Doing, nothing_done, with_write, with_change, if_fitting, change_for, targets_of, do_change, notice_now, with_visible, set_visible, do_action, actions_of, opened_by, with_opening, rule_effect, firing_by, site_firing}
use Rattle.ld_state.specs.RunCells.{widest_of, suits_cell}
use Rattle.ld_state.specs.RunState.{RunState, NoticeState, seen_in}
use Rattle.ld_rules.specs.SiteTests.{site_test, site_mark, rule_of}
use Rattle.ld_state.proofs.Elements.{none_is_some, some_same}

-- Actions write values of properties, what persons see of things, and when acts were opened.
abbrev pub is_written : CellName → Bool
is_written (Prop _ _) = true
is_written (Vis _ _) = true
is_written (ActOpened _) = true
is_written (Member _ _) = false
is_written (Chosen _ _) = false
is_written (Opened _ _) = false
is_written Started = false
is_written (Mark _ _) = false
is_written Now = false
is_written Roster = false

-- Such a cell gets a value that suits it, if the moment of the run is one.
pub record IsFair (unit : Unit) (s : RunState) (cell : CellName) (value : Option Datum) : Type 0 where
  pub written : is_written cell ≡ true
  pub suits : suits_cell unit Now (s.cells Now) ≡ true → suits_cell unit cell value ≡ true

-- ---- values of properties

both_parts : (a b : Bool) → (a && b) ≡ true → (a ≡ true) × (b ≡ true)
both_parts true b is = (refl, is)
both_parts false b is = absurd (cc)

is_text_too : (text : List ℕ) → is_uri text ≡ true → is_text text ≡ true
is_text_too text is = (both_parts (nat_le (length text) 4096) _ (both_parts _ _ is).1).0

-- A value of a datatype is one of the widest of its type.
pub widens : (datatype : Kind) (value : Datum) → is_value datatype value ≡ true
    → is_value (widest_of datatype) value ≡ true
widens kind.String value is = is
widens kind.Text (text_datum text) is = is
widens kind.Text (truth_datum _) is = is
widens kind.Text (number_datum _) is = is
widens kind.Text (moment_datum _) is = is
widens kind.Text (span_datum _) is = is
widens kind.Uri (text_datum text) is = is_text_too text is
widens kind.Uri (truth_datum _) is = is
widens kind.Uri (number_datum _) is = is
widens kind.Uri (moment_datum _) is = is
widens kind.Uri (span_datum _) is = is
widens kind.Boolean value is = is
widens kind.Integer value is = is
widens kind.Datetime value is = is
widens kind.Duration value is = is

fitting_is_value : (property : Property) (value : Datum) → fits_property property value ≡ true
    → is_value property.datatype value ≡ true
unfolding fits_in
fitting_is_value property value fits = (both_parts (is_value property.datatype value) _ fits).0

-- The cell of a property of this number, and the value where it fits that property.
abbrev cell_by : Unit → Owner → Option ℕ → Option CellName
cell_by unit owner number =
    number >>= λ n. slice_get unit.properties n >>= λ property. Some
    (property_cell n (value_owner (holder_of unit property) owner))

abbrev fitting_by : Unit → Option ℕ → Datum → Option Datum
fitting_by unit number value =
    number >>= slice_get unit.properties >>= λ property. provided (fits_property property value) value

fair_value : (unit : Unit) (s : RunState) (n : ℕ) (owner : Owner) (property : Property) (value v : Datum)
    → slice_get unit.properties n ≡ Some property → (fits : Bool) → fits_property property value ≡ fits
    → provided fits value ≡ Some v → IsFair unit s (property_cell n owner) (Some v)
fair_value unit s n owner property value v at false fits is = none_is_some is
fair_value unit s n owner property value v at true fits is = record {
  written = refl;
  suits = λ now.
      subst (λ (o : Option Property). is_some_and (λ datatype. is_value datatype v)
      (option_map (λ found. widest_of found.datatype) o) ≡ true) (sym at)
      (subst (λ w. is_value (widest_of property.datatype) w ≡ true) (some_same is)
      (widens property.datatype value (fitting_is_value property value fits)));
}

fair_property : (unit : Unit) (s : RunState) (n : ℕ) (owner : Owner) (value v : Datum) (c : CellName) (found : Option Property)
    → slice_get unit.properties n ≡ found
    → (found >>= λ property. Some (property_cell n (value_owner (holder_of unit property) owner))) ≡ Some c
    → (found >>= λ property. provided (fits_property property value) value) ≡ Some v → IsFair unit s c (Some v)
fair_property unit s n owner value v c None at cell fits = none_is_some cell
fair_property unit s n owner value v c (Some property) at cell fits =
    subst (λ name. IsFair unit s name (Some v)) (some_same cell)
    (fair_value unit s n (value_owner (holder_of unit property) owner) property value v at
    (fits_property property value) refl fits)

fair_by : (unit : Unit) (s : RunState) (owner : Owner) (number : Option ℕ) (value : Option Datum) (c : CellName) (v : Datum)
    → cell_by unit owner number ≡ Some c → (value >>= fitting_by unit number) ≡ Some v
    → IsFair unit s c (Some v)
fair_by unit s owner None value c v cell fits = none_is_some cell
fair_by unit s owner (Some n) None c v cell fits = none_is_some fits
fair_by unit s owner (Some n) (Some value) c v cell fits =
    fair_property unit s n owner value v c (slice_get unit.properties n) refl cell fits

-- A change of a property is fair.
fair_change : (unit : Unit) (s : RunState) (owner : Owner) (id : List ℕ) (value : Option Datum) (c : CellName) (v : Datum)
    → cell_of_property unit owner id ≡ Some c → (value >>= if_fitting unit id) ≡ Some v
    → IsFair unit s c (Some v)
fair_change unit s owner id value c v cell fits = fair_by unit s owner (property_number unit id) value c v cell fits

-- The moment suits the opening of an act.
suits_opening : (unit : Unit) (thing : ℕ) (now : Option Datum) → suits_cell unit Now now ≡ true
    → suits_cell unit (act_opened_cell thing) now ≡ true
suits_opening unit thing None is = refl
suits_opening unit thing (Some v) is = is

-- ---- what holds through all of a firing

holds_through : {A B : Type 0} → (P : B → Type 0) (f : B → A → B) → ((b : B) (x : A) → P b → P (f b x))
    → (xs : List A) (b : B) → P b → P (fold f b xs)
holds_through P f each [] b holds = holds
holds_through P f each (x ∷ xs) b holds = holds_through P f each xs (f b x) (each b x holds)

-- A change that was rejected, and a notice that was sent.
abbrev pub rejecting : Doing → Doing
rejecting doing = record doing { rejected = doing.rejected + 1 }

abbrev pub sending : Doing → NoticeState → Doing
sending doing notice = record doing {
  state = record doing.state { outbox = doing.state.outbox ++ notice ∷ [] };
  sent = doing.sent + 1;
}

-- What each write, rejection and notice leaves true.
pub record StaysTrue (unit : Unit) (P : Doing → Type 0) : Type 0 where
  pub writes : (doing : Doing) (cell : CellName) (value : Option Datum) → IsFair unit doing.state cell value
      → P doing → P (with_write doing cell value)
  pub rejects : (doing : Doing) → P doing → P (rejecting doing)
  pub sends : (doing : Doing) (notice : NoticeState) → P doing → P (sending doing notice)

module _ (unit : Unit) (P : Doing → Type 0) (kept : StaysTrue unit P) where
  through_change : (doing : Doing) (cell : Option CellName) (value : Option Datum)
      → ((c : CellName) (v : Datum) → cell ≡ Some c → value ≡ Some v → IsFair unit doing.state c (Some v))
      → P doing → P (with_change doing cell value)
  through_change doing (Some c) (Some v) fair holds = kept.writes doing c (Some v) (fair c v refl refl) holds
  through_change doing (Some c) None fair holds = kept.rejects doing holds
  through_change doing None (Some v) fair holds = kept.rejects doing holds
  through_change doing None None fair holds = kept.rejects doing holds

  through_change_for : (change : ChangeOf) (doing : Doing) (owner : Owner) → P doing
      → P (change_for unit change doing owner)
  through_change_for change doing owner holds =
      through_change doing (cell_of_property unit owner change.property)
      (term_value unit (seen_in unit doing.state) owner change.value >>= if_fitting unit change.property)
      (λ c v cell value. fair_change unit doing.state owner change.property
      (term_value unit (seen_in unit doing.state) owner change.value) c v cell value)
      holds

  through_do_change : (owner : Owner) (change : ChangeOf) (doing : Doing) → P doing
      → P (do_change unit owner doing change)
  through_do_change owner change doing holds =
      holds_through P (change_for unit change) (through_change_for change) (targets_of unit doing.state owner change) doing holds

  through_visible : (p : ℕ) (visible : Bool) (doing : Doing) (thing : Option ℕ) → P doing
      → P (with_visible p visible doing thing)
  through_visible p visible doing None holds = holds
  through_visible p visible doing (Some thing) holds =
      kept.writes doing (visibility_cell thing p) (Some (truth_datum visible)) (record { written = refl; suits = λ now. refl }) holds

  through_set_visible : (owner : Owner) (visible : Bool) (doing : Doing) (id : List ℕ) → P doing
      → P (set_visible unit owner visible doing id)
  through_set_visible Run visible doing id holds = holds
  through_set_visible (Person p) visible doing id holds = through_visible p.0 visible doing (thing_number unit id) holds

  pub through_action : (owner : Owner) (doing : Doing) (action : Action) → P doing
      → P (do_action unit owner doing action)
  through_action owner doing (Show things) holds =
      holds_through P (set_visible unit owner true) (through_set_visible owner true) things doing holds
  through_action owner doing (Hide things) holds =
      holds_through P (set_visible unit owner false) (through_set_visible owner false) things doing holds
  through_action owner doing (Change change) holds = through_do_change owner change doing holds
  through_action owner doing (Notify notice) holds = kept.sends doing (notice_now unit doing.state notice) holds

  through_opening : (doing : Doing) (thing : Option ℕ) → P doing → P (with_opening doing thing)
  through_opening doing None holds = holds
  through_opening doing (Some thing) holds =
      kept.writes doing (act_opened_cell thing) (doing.state.cells Now) (record { written = refl; suits = suits_opening unit thing (doing.state.cells Now) }) holds

  through_effect : (owner : Owner) (rule : Rule) (verdict : Bool) (doing : Doing) → P doing
      → P (rule_effect unit owner rule verdict doing)
  through_effect owner rule verdict doing holds =
      holds_through P (do_action unit owner) (through_action owner) (actions_of unit rule verdict)
      (with_opening doing (opened_by unit rule))
      (through_opening doing (opened_by unit rule) holds)

  -- The mark of a site is set to its test.
  abbrev pub marked : RunState → Site → Doing
  marked s site = with_write (nothing_done s) (site_mark site) (Some (truth_datum (site_test unit (seen_in unit s) site)))

  -- What holds once the mark is set holds after the firing of a site that has a rule.
  pub through_firing : (s : RunState) (site : Site) (rule : Rule) → rule_of unit site ≡ Some rule
      → P (marked s site) → P (site_firing unit s site)
  unfolding site_firing
  through_firing s site rule is holds =
      subst (λ (found : Option Rule). P (elim found as (λ _. Doing) [ None ↦ nothing_done s | Some r ↦ firing_by unit s site r ])) (sym is)
      (through_effect site.owner rule (site_test unit (seen_in unit s) site) (marked s site) holds)

  -- The same of what holds before it, whether it has a rule or not.
  pub through_any_firing : (s : RunState) (site : Site) → P (nothing_done s) → P (marked s site)
      → P (site_firing unit s site)
  unfolding site_firing
  through_any_firing s site before holds = by (rule_of unit site)
    where
      by : (found : Option Rule)
          → P (elim found as (λ _. Doing) [ None ↦ nothing_done s | Some r ↦ firing_by unit s site r ])
      by None = before
      by (Some rule) = through_effect site.owner rule (site_test unit (seen_in unit s) site) (marked s site) holds
