-- The laws of the system of a unit's runs, but for the last three, one by one.
use Rattle.std.proofs.Common.{◌≡◌, refl, sym, ap, ap₂, subst, ◌∙◌, ℕ, ◌<◌, ◌⊎◌, inl, inr, List, [], length, slice_get, Option, Some, None, Bool, true, false, is_some, nat_eq, Contains, pos, arith}
use mathlib.Core.Path.{fun_ext}
use Rattle.std.proofs.lemmas.Bool.{eqb-true}
use Rattle.std.specs.Option.{option_map_or}
use Rattle.ld_base.specs.Maybe.{◌>>=◌}
use Rattle.ld_cascade.specs.System.{MayFire}
use Rattle.ld_value.specs.Datum.{number_datum}
use Rattle.ld_model.specs.Cells.{same_cell, same_owner}
use Rattle.ld_model.specs.declared.cell.CellName.{CellName}
use Rattle.ld_model.specs.declared.cell.CellName.TheVariants.{Prop, Vis, Member, Chosen, Opened, ActOpened, Started, Mark, Now, Roster}
use Rattle.ld_model.specs.declared.unit.Unit.{Unit}
use Rattle.ld_names.specs.Rules.{Site}
use Rattle.ld_expr.specs.Lookup.{list_from}
use Rattle.ld_roles.specs.Roster.{Persons}
use Rattle.ld_firing.specs.Actions.{Doing, nothing_done, site_firing}
use Rattle.ld_state.specs.RunCells.{all_cells, slot_of, suits_cell}
use Rattle.ld_state.specs.RunState.{RunState, seen_in, cell_of, membership_of}
use Rattle.ld_names.specs.SiteNumbers.{site_count, site_number}
use Rattle.ld_firing.specs.RunSystem.{site_at, slots_named, Enrolment, IsSoundRun, verdict_in, firing_at, run_system}
use Rattle.ld_rules.specs.SiteLooks.{site_looks, open_looks}
use Rattle.ld_rules.specs.SiteTests.{site_test, site_mark}
use Rattle.ld_rules.proofs.Alike.{AgreeOnPersons, AreCounted}
use Rattle.ld_state.proofs.Cells.{slot_stands}
use Rattle.ld_state.specs.StateView.{is_following}
use Rattle.ld_state.proofs.Elements.{IsIn, different, in_from_contains, contains_from_in}
use Rattle.ld_firing.proofs.Found.{in_filter_map, given_by, number_there}
use Rattle.ld_firing.proofs.Firings.{IsEnrolled, firing_enrolment, firing_own_mark, firing_other_mark, firing_told, Suits, firing_suits}
use Rattle.ld_state.proofs.SameCells.{both, one_owner}
use Rattle.ld_firing.proofs.Sites.{site_found, some_of, none_of, said_of, said_of_none, same_site_at, site_below, at_firing}
use Rattle.ld_rules.proofs.LooksAlike.{same_open_looks}

-- ---- what is said of two states of one enrolment

pub enrolment_seats : (s t : RunState) → (run : Unit) → (run_system run).setting s ≡ (run_system run).setting t
    → s.seats ≡ t.seats
enrolment_seats s t run same = ap (λ (e : Enrolment). e.seats) same

pub enrolment_persons : (s t : RunState) → (run : Unit)
    → (run_system run).setting s ≡ (run_system run).setting t → s.persons ≡ t.persons
enrolment_persons s t run same = ap (λ (e : Enrolment). e.persons) same

-- The roster tells how many persons there are.
pub counted_by : (unit : Unit) (s t : RunState) → AreCounted (seen_in unit s) (seen_in unit t)
unfolding cell_of
counted_by unit s t same = cc

-- Who is a member of which role follows from the persons.
following_same : (unit : Unit) (s t : RunState) (c : CellName) → s.persons ≡ t.persons → is_following c ≡ true
    → cell_of unit s c ≡ cell_of unit t c
unfolding cell_of
following_same unit s t (Member r p) persons follows =
    ap (λ (ps : Persons). membership_of unit ps r.0 p.0) persons
following_same unit s t Roster persons follows = ap (λ (ps : Persons). Some (number_datum (pos (length ps)))) persons
following_same unit s t (Prop _ _) persons follows = different (sym follows)
following_same unit s t (Vis _ _) persons follows = different (sym follows)
following_same unit s t (Chosen _ _) persons follows = different (sym follows)
following_same unit s t (Opened _ _) persons follows = different (sym follows)
following_same unit s t (ActOpened _) persons follows = different (sym follows)
following_same unit s t Started persons follows = different (sym follows)
following_same unit s t (Mark _ _) persons follows = different (sym follows)
following_same unit s t Now persons follows = different (sym follows)

pub persons_alike : (unit : Unit) (s t : RunState) → s.persons ≡ t.persons → (cells : List CellName)
    → AgreeOnPersons (seen_in unit s) (seen_in unit t) cells
persons_alike unit s t persons cells c inside follows = following_same unit s t c persons follows

-- A cell has one value in both where the persons are the same and the stored values are.
pub same_cell_of : (unit : Unit) (s t : RunState) (c : CellName) → s.persons ≡ t.persons
    → s.cells c ≡ t.cells c → cell_of unit s c ≡ cell_of unit t c
unfolding cell_of
same_cell_of unit s t (Member r p) persons stored =
    ap (λ (ps : Persons). membership_of unit ps r.0 p.0) persons
same_cell_of unit s t Roster persons stored = ap (λ (ps : Persons). Some (number_datum (pos (length ps)))) persons
same_cell_of unit s t (Prop _ _) persons stored = stored
same_cell_of unit s t (Vis _ _) persons stored = stored
same_cell_of unit s t (Chosen _ _) persons stored = stored
same_cell_of unit s t (Opened _ _) persons stored = stored
same_cell_of unit s t (ActOpened _) persons stored = stored
same_cell_of unit s t Started persons stored = stored
same_cell_of unit s t (Mark _ _) persons stored = stored
same_cell_of unit s t Now persons stored = stored

module _ (unit : Unit) where
  -- The state after a firing, and that it has the enrolment.
  abbrev after : RunState → ℕ → RunState
  after s i = (firing_at unit s i).state

  pub enrolled : (s : RunState) (i : ℕ) → IsEnrolled s (after s i)
  enrolled s i =
      at_firing unit s i (λ doing. IsEnrolled s doing.state) (record { seats = refl; persons = refl }) (λ site at. firing_enrolment unit s site)

  same_sites : (s : RunState) (i j : ℕ) → site_at unit (after s i) j ≡ site_at unit s j
  same_sites s i j = let e = enrolled s i in same_site_at unit (after s i) s j e.seats e.persons

  -- ---- what a firing leaves

  pub keeps_setting : (s : RunState) (i : ℕ) → MayFire (run_system unit) s i
      → (run_system unit).setting (after s i) ≡ (run_system unit).setting s
  keeps_setting s i may =
      let e = enrolled s i in
      let enrol : ℕ → Persons → Enrolment = λ n ps. record { seats = n; persons = ps } in
      ap₂ enrol e.seats e.persons

  pub keeps_sites : (s : RunState) (i j : ℕ) → MayFire (run_system unit) s i
      → (run_system unit).is_site (after s i) j ≡ (run_system unit).is_site s j
  keeps_sites s i j may = ap is_some (same_sites s i j)

  pub keeps_count : (s : RunState) (i : ℕ) → MayFire (run_system unit) s i
      → (run_system unit).count (after s i) ≡ (run_system unit).count s
  keeps_count s i may = ap (site_count unit) (enrolled s i).seats

  pub keeps_slots : (s : RunState) (i : ℕ) → MayFire (run_system unit) s i
      → (run_system unit).slots (after s i) ≡ (run_system unit).slots s
  keeps_slots s i may = ap (λ (ps : Persons). length (all_cells unit (length ps))) (enrolled s i).persons

  pub keeps_size : (s : RunState) (i j : ℕ) → MayFire (run_system unit) s i
      → (run_system unit).size (after s i) j ≡ (run_system unit).size s j
  keeps_size s i j may =
      ap₂ (λ (size : Site → ℕ) found. option_map_or size found 0)
      (fun_ext (λ site. ap length (same_open_looks unit (seen_in unit (after s i)) (seen_in unit s)
      (counted_by unit (after s i) s) site
      (persons_alike unit (after s i) s (enrolled s i).persons (open_looks unit (seen_in unit (after s i)) site)))))
      (same_sites s i j)

  -- ---- numbers of sites

  pub within : (s : RunState) (i : ℕ) → IsSoundRun unit s → (run_system unit).is_site s i ≡ true
      → i < (run_system unit).count s
  within s i sound there =
      let found = some_of (site_at unit s i) there in
      site_below unit s i found.0 sound.seat sound.seated (site_found unit s i found.0 found.1)

  pub no_test : (s : RunState) (i : ℕ) → IsSoundRun unit s → (run_system unit).is_site s i ≡ false
      → (run_system unit).test s i ≡ false
  no_test s i sound out = said_of_none unit s i (site_test unit (seen_in unit s)) false (none_of (site_at unit s i) out)

  pub no_mark : (s : RunState) (i : ℕ) → IsSoundRun unit s → (run_system unit).is_site s i ≡ false
      → (run_system unit).mark s i ≡ Some false
  no_mark s i sound out =
      said_of_none unit s i (λ site. verdict_in (s.cells (site_mark site))) (Some false) (none_of (site_at unit s i) out)

  pub no_reads : (s : RunState) (i : ℕ) → IsSoundRun unit s → (run_system unit).is_site s i ≡ false
      → (run_system unit).reads s i ≡ []
  no_reads s i sound out =
      ap (λ found. slots_named unit s (list_from (site_looks unit (seen_in unit s)) found)) (none_of (site_at unit s i) out)

  pub no_size : (s : RunState) (i : ℕ) → IsSoundRun unit s → (run_system unit).is_site s i ≡ false
      → (run_system unit).size s i ≡ 0
  no_size s i sound out =
      said_of_none unit s i (λ site. length (open_looks unit (seen_in unit s) site)) 0 (none_of (site_at unit s i) out)

  -- ---- slots

  pub slots_below : (s : RunState) (cells : List CellName) (k : ℕ) → Contains (slots_named unit s cells) k
      → k < length (all_cells unit (length s.persons))
  slots_below s cells k there =
      let by = given_by (slot_of unit (length s.persons)) cells k (in_from_contains (slots_named unit s cells) k there) in
      number_there (same_cell by.element) (all_cells unit (length s.persons)) k by.gives

  pub reads_below : (s : RunState) (i k : ℕ) → IsSoundRun unit s → Contains ((run_system unit).reads s i) k
      → k < (run_system unit).slots s
  reads_below s i k sound there = slots_below s (list_from (site_looks unit (seen_in unit s)) (site_at unit s i)) k there

  pub changes_below : (s : RunState) (i k : ℕ) → MayFire (run_system unit) s i
      → Contains ((run_system unit).changed s i) k → k < (run_system unit).slots s
  changes_below s i k may there = slots_below s (firing_at unit s i).changes k there

  -- ---- marks

  -- What is left by the firing of the site.
  after_site : (s : RunState) (i : ℕ) (site : Site) → site_at unit s i ≡ Some site
      → after s i ≡ (site_firing unit s site).state
  after_site s i site at = ap (λ (doing : Doing). doing.state) (said_of unit s i site (site_firing unit s) (nothing_done s) at)

  pub own_mark : (s : RunState) (i : ℕ) → MayFire (run_system unit) s i
      → (run_system unit).mark (after s i) i ≡ Some ((run_system unit).test s i)
  own_mark s i may =
      let found = some_of (site_at unit s i) may.there in
      let site = found.0 in
      let has = site_found unit s i site found.1 in
      said_of unit (after s i) i site (λ one. verdict_in ((after s i).cells (site_mark one))) (Some false)
      (same_sites s i i ∙ found.1)
      ∙ ap (λ (t : RunState). verdict_in (t.cells (site_mark site))) (after_site s i site found.1)
      ∙ ap verdict_in (firing_own_mark unit s site has.rule has.ruled)
      ∙ ap Some (sym (said_of unit s i site (site_test unit (seen_in unit s)) false found.1))

  -- Sites of two numbers have two marks.
  two_marks : (s : RunState) (i j : ℕ) (site other : Site) → site_number unit s.seats site ≡ i
      → site_number unit s.seats other ≡ j → (j ≡ i → ⊥) → same_cell (site_mark other) (site_mark site) ≡ false
  two_marks s i j site other number other_number apart = by (same_cell (site_mark other) (site_mark site)) refl
    where
      by : (b : Bool) → same_cell (site_mark other) (site_mark site) ≡ b → b ≡ false
      by false is = refl
      by true is =
          let (rule, owner) = both (nat_eq other.rule site.rule) (same_owner other.owner site.owner) is in
          absurd (apart (sym other_number
          ∙ ap₂ (λ r o. site_number unit s.seats (record { rule = r; owner = o })) (eqb-true other.rule site.rule rule)
          (one_owner other.owner site.owner owner)
          ∙ number))

  pub other_marks : (s : RunState) (i j : ℕ) → MayFire (run_system unit) s i → (j ≡ i → ⊥)
      → (run_system unit).mark (after s i) j ≡ (run_system unit).mark s j
  other_marks s i j may apart =
      ap (λ found. option_map_or (λ one. verdict_in ((after s i).cells (site_mark one))) found (Some false)) (same_sites s i j)
      ∙ by (site_at unit s j) refl
    where
      stays : (other : Site) → site_at unit s j ≡ Some other
          → (after s i).cells (site_mark other) ≡ s.cells (site_mark other)
      stays other at =
          let found = some_of (site_at unit s i) may.there in
          let has = site_found unit s i found.0 found.1 in
          let has_other = site_found unit s j other at in
          ap (λ (t : RunState). t.cells (site_mark other)) (after_site s i found.0 found.1)
          ∙ firing_other_mark unit s found.0 other has.rule has.ruled
          (two_marks s i j found.0 other has.number has_other.number apart)

      by : (found : Option Site) → site_at unit s j ≡ found
          → option_map_or (λ one. verdict_in ((after s i).cells (site_mark one))) found (Some false) ≡ option_map_or (λ one. verdict_in (s.cells (site_mark one))) found (Some false)
      by None at = refl
      by (Some other) at = ap verdict_in (stays other at)

  -- ---- what is told

  told : (s : RunState) (i : ℕ) (c : CellName)
      → IsIn (firing_at unit s i).changes c ⊎ ((after s i).cells c ≡ s.cells c)
  told s i c =
      at_firing unit s i (λ doing. IsIn doing.changes c ⊎ (doing.state.cells c ≡ s.cells c)) (inr refl)
      (λ site at. firing_told unit s site c)

  pub reported : (s : RunState) (i k : ℕ) → MayFire (run_system unit) s i
      → (Contains ((run_system unit).changed s i) k → ⊥)
      → (run_system unit).content (after s i) k ≡ (run_system unit).content s k
  reported s i k may untold =
      ap (λ (ps : Persons). slice_get (all_cells unit (length ps)) k >>= cell_of unit (after s i)) (enrolled s i).persons
      ∙ by (slice_get (all_cells unit (length s.persons)) k) refl
    where
      stays : (c : CellName) → slice_get (all_cells unit (length s.persons)) k ≡ Some c
          → IsIn (firing_at unit s i).changes c ⊎ ((after s i).cells c ≡ s.cells c)
          → cell_of unit (after s i) c ≡ cell_of unit s c
      stays c at (inl changed) =
          absurd (untold (contains_from_in (slots_named unit s (firing_at unit s i).changes) k
          (in_filter_map (slot_of unit (length s.persons)) (firing_at unit s i).changes c k changed
          (slot_stands unit (length s.persons) k c at))))
      stays c at (inr same) = same_cell_of unit (after s i) s c (enrolled s i).persons same

      by : (found : Option CellName) → slice_get (all_cells unit (length s.persons)) k ≡ found
          → (found >>= cell_of unit (after s i)) ≡ (found >>= cell_of unit s)
      by None at = refl
      by (Some c) at = stays c at (told s i c)

  -- ---- soundness

  suits : (s : RunState) (i : ℕ) → suits_cell unit Now (s.cells Now) ≡ true → Suits unit s (after s i)
  suits s i moment =
      at_firing unit s i (λ doing. Suits unit s doing.state) (record { now = refl; cells = λ c suits. suits }) (λ site at. firing_suits unit s site moment)

  -- What suits a cell before a firing suits it after it.
  suits_after : (s : RunState) (i : ℕ) → Suits unit s (after s i) → (c : CellName)
      → suits_cell unit c (cell_of unit s c) ≡ true → suits_cell unit c (cell_of unit (after s i) c) ≡ true
  unfolding cell_of
  suits_after s i kept (Member r p) is =
      subst (λ (ps : Persons). suits_cell unit (Member r p) (membership_of unit ps r.0 p.0) ≡ true) (sym (enrolled s i).persons) is
  suits_after s i kept Roster is =
      subst (λ (ps : Persons). suits_cell unit Roster (Some (number_datum (pos (length ps)))) ≡ true)
      (sym (enrolled s i).persons) is
  suits_after s i kept (Prop n o) is = kept.cells (Prop n o) is
  suits_after s i kept (Vis n p) is = kept.cells (Vis n p) is
  suits_after s i kept (Chosen n o) is = kept.cells (Chosen n o) is
  suits_after s i kept (Opened n o) is = kept.cells (Opened n o) is
  suits_after s i kept (ActOpened n) is = kept.cells (ActOpened n) is
  suits_after s i kept Started is = kept.cells Started is
  suits_after s i kept (Mark r o) is = kept.cells (Mark r o) is
  suits_after s i kept Now is = kept.cells Now is

  -- The moment is one of the values of a sound run.
  moment_suits : (s : RunState) → IsSoundRun unit s → suits_cell unit Now (s.cells Now) ≡ true
  unfolding cell_of
  moment_suits s sound = sound.seen.values Now (contains_from_in (all_cells unit (length s.persons)) Now (inr (inl refl)))

  pub keeps_sound : (s : RunState) (i : ℕ) → MayFire (run_system unit) s i → IsSoundRun unit (after s i)
  unfolding cell_of
  keeps_sound s i may =
      let sound = may.sound in
      let e = enrolled s i in
      let kept = suits s i (moment_suits s sound) in
      record {
        valid = sound.valid;
        names = subst (λ (ps : Persons). Rattle.ld_firing.specs.RunSystem.HaveNamesOfTheirOwn ps) (sym e.persons) sound.names;
        seat = subst (λ n. 0 < n) (sym e.seats) sound.seat;
        seated = omega (arith, ap (λ (ps : Persons). length ps) e.persons, e.seats, sound.seated);
        seen = record {
          values = λ name there. suits_after s i kept name (sound.seen.values name (subst (λ (ps : Persons). Contains (all_cells unit (length ps)) name) e.persons there));
          moment = subst (λ now. is_some now ≡ true) (sym kept.now) sound.seen.moment;
          roster = refl;
        };
      }
