-- The links of a run in the system of its unit and in that of the runs of all units; what is told of writes keeps
-- them; and how many sites and slots there are.
use Rattle.std.proofs.Common.{◌≡◌, refl, sym, ap, ap₂, subst, ◌∙◌, ℕ, ◌+◌, ◌<◌, ◌≤◌, ◌⊎◌, inl, inr, List, [], ◌++◌, length, get_or, Option, Some, None, Bool, true, false, is_some, nat_lt, Contains, arith}
use Rattle.std.proofs.lemmas.Bool.{cases_Bool, ltb-false}
use Rattle.std.specs.Option.{option_map_or}
use Rattle.ld_graph.specs.Edges.{Edges, IsLinked}
use Rattle.ld_graph.specs.Table.{has}
use Rattle.ld_cascade.specs.Tidy.{Bound, ChangesOnly, Covers, IsTidy, Tidy, Touched}
use Rattle.ld_cascade.specs.System.{Lawful, System}
use Rattle.ld_cascade.specs.Wiring.{EdgesAre, IsSameTable, Wiring}
use Rattle.ld_cascade.proofs.Touching.{bound_touched, tidy_touched}
use Rattle.ld_model.specs.declared.unit.Unit.{Unit}
use Rattle.ld_names.specs.Names.{names_of}
use Rattle.ld_names.specs.Rules.{Site, rules_of}
use Rattle.ld_names.specs.SiteNumbers.{site_count, site_number}
use Rattle.ld_names.proofs.SitesNumbered.{count_constant}
use Rattle.ld_roles.specs.declared.limit.TheConstants.{SEATS}
use Rattle.ld_parts.specs.Listing.{parts_of}
use Rattle.ld_refs.specs.Bounds.{count_faults, leaves_in, object_limit_faults, over}
use Rattle.ld_refs.specs.Checks.{IsValid, amount_faults, check_faults, meaning_faults, text_faults}
use Rattle.ld_refs.specs.Extents.{size_faults}
use Rattle.ld_roles.specs.Roster.{Persons}
use Rattle.ld_state.specs.Layout.{Layout, cells_in}
use Rattle.ld_state.specs.RunCells.{all_cells}
use Rattle.ld_state.specs.RunState.{RunState}
use Rattle.ld_state.specs.StateView.{IsStateOf, StateView, run_of}
use Rattle.ld_state.proofs.Elements.{nothing_first, nothing_later}
use Rattle.ld_state.proofs.Laid.{cells_laid}
use Rattle.ld_rules.specs.SiteTests.{site_mark}
use Rattle.ld_firing.specs.RunSystem.{Enrolment, IsSoundRun, run_system, site_at, verdict_in}
use Rattle.ld_firing.specs.Telling.{Tells}
use Rattle.ld_firing.proofs.Lawful.{run_is_lawful}
use Rattle.ld_state.proofs.SeenSame.{persons_counted}
use Rattle.ld_firing.proofs.Sites.{same_site_at, site_found, some_of}
use Rattle.ld_settling.specs.RunLinking.{AreDirty, AreWired}
use Rattle.ld_settling.specs.UnitRuns.{UnitRun, unit_runs}

-- ---- in the system of the runs of all units

pub tidy_in_units : (s : UnitRun) (wiring : Wiring) → AreWired s.unit s.run wiring → Tidy unit_runs s wiring
tidy_in_units s wiring links = λ i clean.
    let tidy = links.tidy i clean in
    record { marked = tidy.marked; edges_are = tidy.edges_are }

pub covers_in_units : (s : UnitRun) (wiring : Wiring) → AreWired s.unit s.run wiring → Covers unit_runs s wiring
covers_in_units s wiring links = record { sites = links.covers.sites; slots = links.covers.slots }

pub bound_in_units : (s : UnitRun) (wiring : Wiring) → AreWired s.unit s.run wiring → Bound unit_runs s wiring
bound_in_units s wiring links = record {
  edges_are = λ i out.
      let are = links.bound.edges_are i out in
      record { named = are.named; linked = are.linked; once = are.once };
  dirty = links.bound.dirty;
}

-- What is so with a frame are the links of the run.
pub links_of_run : (s : UnitRun) (wiring : Wiring) → Tidy unit_runs s wiring → Bound unit_runs s wiring → Covers unit_runs s wiring
    → AreWired s.unit s.run wiring
links_of_run s wiring tidy bound covers = record {
  tidy = λ i clean.
      let one = tidy i clean in
      record { marked = one.marked; edges_are = one.edges_are };
  bound = record {
    edges_are = λ i out.
        let are = bound.edges_are i out in
        record { named = are.named; linked = are.linked; once = are.once };
    dirty = bound.dirty;
  };
  covers = record { sites = covers.sites; slots = covers.slots };
}

-- So they are where no site is dirty.
pub links_settled : (s : UnitRun) (wiring : Wiring) → ((i : ℕ) → IsTidy unit_runs s wiring.edges i) → Bound unit_runs s wiring
    → Covers unit_runs s wiring → AreWired s.unit s.run wiring
links_settled s wiring tidy bound covers = links_of_run s wiring (λ i clean. tidy i) bound covers

-- ---- writes

-- The mark of the site that a number has, and of a number that has none.
abbrev mark_by : RunState → Option Site → Option Bool
mark_by s found = option_map_or (λ site. verdict_in (s.cells (site_mark site))) found (Some false)

-- What is told of writes that are no firing is what they change.
pub changes_told : (unit : Unit) (s t : RunState) (told : List ℕ) → IsSoundRun unit s → IsSoundRun unit t
    → Tells unit s t [] told → ChangesOnly (run_system unit) s t told
changes_told unit s t told sound sound_after tells = record {
  sound_before = sound;
  sound_after = sound_after;
  grows = record { seats = sym tells.seats; persons = omega (arith, ap (λ (ps : Persons). length ps) tells.persons) };
  keeps_sites = λ i there. ap is_some (same_at i) ∙ there;
  same_marks = λ i there. ap (mark_by t) (same_at i) ∙ by (site_at unit s i);
  others = tells.untold;
}
  where
    same_at : (i : ℕ) → site_at unit t i ≡ site_at unit s i
    same_at i = same_site_at unit t s i tells.seats tells.persons

    by : (found : Option Site) → mark_by t found ≡ mark_by s found
    by None = refl
    by (Some site) = ap verdict_in (tells.marks site.rule site.owner)

-- The slots that are told are in range.
pub told_below : (unit : Unit) (s t : RunState) (told : List ℕ) (wiring : Wiring) → AreWired unit s wiring → Tells unit s t [] told
    → (k : ℕ) → Contains told k → k < wiring.edges.slots
told_below unit s t told wiring links tells k there = by (tells.slots k there)
  where
    by : Contains [] k ⊎ (k < length (all_cells unit (length s.persons))) → k < wiring.edges.slots
    by (inl none) = absurd (let less = none.1 in omega arith)
    by (inr below) = omega (arith, below, links.covers.slots)

-- Links that cover a run cover it after the writes.
covers_told : (unit : Unit) (s t : RunState) (told : List ℕ) (old now : Wiring) → AreWired unit s old → Tells unit s t [] told
    → old.sites ≤ now.sites → old.edges.slots ≤ now.edges.slots → Covers (run_system unit) t now
covers_told unit s t told old now links tells sites slots = record {
  sites = omega (arith, ap (site_count unit) tells.seats, links.covers.sites, sites);
  slots = omega (arith, ap (λ (persons : Persons). length (all_cells unit (length persons))) tells.persons, links.covers.slots, slots);
}

-- Where the slots that are told are touched, the links are those of the run after the writes.
pub links_told : (unit : Unit) (s t : RunState) (told : List ℕ) (old now : Wiring) → IsSoundRun unit s → IsSoundRun unit t
    → AreWired unit s old → Tells unit s t [] told → Touched (run_system unit) s t told old now
    → old.sites ≤ now.sites → old.edges.slots ≤ now.edges.slots → AreWired unit t now
links_told unit s t told old now sound sound_after links tells touched sites slots = record {
  tidy = tidy_touched (run_system unit) (run_is_lawful unit) s t told old now links.tidy (changes_told unit s t told sound sound_after tells) touched;
  bound = bound_touched (run_system unit) (run_is_lawful unit) s t told old now links.bound (changes_told unit s t told sound sound_after tells) touched;
  covers = covers_told unit s t told old now links tells sites slots;
}

-- No site is new where no person is; so the readers of the slots are all that has to be set dirty.
pub links_touched : (unit : Unit) (s t : RunState) (told : List ℕ) (old now : Wiring) → IsSoundRun unit s → IsSoundRun unit t
    → AreWired unit s old → Tells unit s t [] told → now.edges ≡ old.edges → now.sites ≡ old.sites → now.loose ≡ old.loose
    → ((i : ℕ) → has old.dirty i ≡ true → has now.dirty i ≡ true)
    → ((k : ℕ) → Contains told k → (i : ℕ) → IsLinked old.edges k i → has now.dirty i ≡ true)
    → AreWired unit t now
links_touched unit s t told old now sound sound_after links tells edges sites loose keeps readers =
    links_told unit s t told old now sound sound_after links tells
    (record {
      same_rows = λ i. ap (λ (e : Edges). get_or e.rows i []) edges;
      keeps = keeps;
      readers = readers;
      loosens = inl (sym (ap₂ enrol tells.seats tells.persons));
      fresh = λ i out there. absurd (let same = none_new i out there in cc);
      keeps_loose = λ i is_in. ap (λ (table : List Bool). has table i) loose ∙ is_in;
      fresh_loose = λ i out there. absurd (let same = none_new i out there in cc);
      only_loose = λ i is_in. inl (sym (ap (λ (table : List Bool). has table i) loose) ∙ is_in);
    })
    (omega (arith, sites)) (omega (arith, ap (λ (e : Edges). e.slots) edges))
  where
    enrol : ℕ → Persons → Enrolment
    enrol seats persons = record { seats = seats; persons = persons }

    none_new : (i : ℕ) → (run_system unit).is_site s i ≡ false → (run_system unit).is_site t i ≡ true → false ≡ true
    none_new i out there = sym out ∙ sym (ap is_some (same_site_at unit t s i tells.seats tells.persons)) ∙ there

-- A site that reads nothing and has no edge has its reads as edges.
edges_none : (edges : Edges) (i : ℕ) (slots : List ℕ) → get_or edges.rows i [] ≡ [] → slots ≡ [] → EdgesAre edges i slots
edges_none edges i slots row none = record {
  named = λ k h. let there : Contains [] k = rw row at h in absurd (let less = there.1 in omega arith);
  linked = λ k h. let there : Contains [] k = rw none at h in absurd (let less = there.1 in omega arith);
  once = rw (row, none) refl;
}

-- Where no number has an edge and each site is dirty and loose, the links are those of the run.
pub links_anew : (unit : Unit) (s : RunState) (wiring : Wiring) → IsSoundRun unit s → Covers (run_system unit) s wiring
    → ((i : ℕ) → (run_system unit).is_site s i ≡ true → has wiring.dirty i ≡ true) → IsSameTable wiring.dirty wiring.loose
    → ((i : ℕ) → get_or wiring.edges.rows i [] ≡ []) → AreWired unit s wiring
links_anew unit s wiring sound covers dirty loose none = record {
  tidy = tidy;
  bound = record {
    edges_are = λ i out. (tidy i (sym (loose i) ∙ out)).edges_are;
    dirty = λ i is_in. sym (loose i) ∙ is_in;
  };
  covers = covers;
}
  where
    y : System
    y = run_system unit

    law : Lawful y
    law = run_is_lawful unit

    tidy : Tidy (run_system unit) s wiring
    tidy i clean = elim (cases_Bool ((run_system unit).is_site s i)) [
      | inl there ↦ absurd (let is_in = dirty i there in cc)
      | inr out ↦ record {
        marked = rw (law.no_test s i sound out, law.no_mark s i sound out) refl;
        edges_are = edges_none wiring.edges i ((run_system unit).reads s i) (none i) (law.no_reads s i sound out);
      }
    ]

-- Where the numbers of all sites are dirty, each site is.
pub sites_dirty : (unit : Unit) (s : RunState) (dirty : List Bool) → s.seats ≡ SEATS → AreDirty dirty unit (length s.persons)
    → (i : ℕ) → (run_system unit).is_site s i ≡ true → has dirty i ≡ true
sites_dirty unit s dirty seats are i there =
    let found = some_of (site_at unit s i) there in
    let has_site = site_found unit s i found.0 found.1 in
    subst (λ n. has dirty n ≡ true) (ap (λ n. site_number unit n found.0) (sym seats) ∙ has_site.number) (are found.0 has_site.there)

-- ---- how many there are

within : (limit count : ℕ) → over limit count ≡ [] → count ≤ limit
within limit count none = by (nat_lt limit count) refl
  where
    by : (b : Bool) → nat_lt limit count ≡ b → count ≤ limit
    by true more = absurd (let some = rw more at none in cc)
    by false few = omega (arith, ltb-false limit count few)

-- A valid unit has at most 600 rules.
pub rules_few : (unit : Unit) → IsValid unit → length (rules_of unit) ≤ 600
unfolding check_faults amount_faults count_faults
rules_few unit valid =
    let names = names_of unit in
    let parts = parts_of unit in
    let texts = text_faults parts in
    let meanings = meaning_faults unit names parts in
    let objects = object_limit_faults parts in
    let counts = count_faults names parts in
    let amounts = objects ++ (counts ++ size_faults unit names parts) in
    let rules = over 600 (length (rules_of unit)) in
    let leaves = over 4000 (leaves_in false parts) ++ over 100 (leaves_in true parts) in
    let no_amount = nothing_later meanings amounts (nothing_later texts (meanings ++ amounts) valid.faultless) in
    let no_count = nothing_first counts (size_faults unit names parts) (nothing_later objects (counts ++ size_faults unit names parts) no_amount) in
    within 600 (length (rules_of unit)) (nothing_first rules leaves no_count)

-- A run has few numbers of sites.
pub sites_few : (unit : Unit) → IsValid unit → (s : RunState) → s.seats ≡ 200 → (run_system unit).count s ≤ 4000000
sites_few unit valid s seats =
    omega (arith, ap (site_count unit) seats, count_constant 200 (rules_of unit), rules_few unit valid)

-- A run has as many slots as its state has cells.
pub slots_many : (unit : Unit) (state : StateView) → IsStateOf unit state
    → (run_system unit).slots (run_of state) ≡ length (cells_in state.layout (length state.rows))
slots_many unit state own =
    ap (λ n. length (all_cells unit n)) (persons_counted state)
    ∙ ap length (sym (cells_laid unit (length state.rows)))
    ∙ ap (λ (layout : Layout). length (cells_in layout (length state.rows))) (sym own.layout)
