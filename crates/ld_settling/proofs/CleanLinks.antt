-- The room of the list for the reads, and the links of a run between commands: settled, restored, or bare.
use Rattle.std.proofs.Common.{◌≡◌, sym, ap, subst, ◌∙◌, ℕ, ◌≤◌, inl, inr, List, [], length, get_or, Bool, true, false, arith}
use Rattle.std.proofs.lemmas.Bool.{cases_Bool}
use Rattle.ld_graph.specs.Edges.{Edges}
use Rattle.ld_graph.specs.Table.{has}
use Rattle.ld_cascade.specs.Rooms.{HasRoom, HasRoomOutside, Restorable}
use Rattle.ld_cascade.specs.System.{System}
use Rattle.ld_cascade.specs.Tidy.{Bound, Covers, IsTidy}
use Rattle.ld_cascade.specs.Wiring.{EdgesAre, HasSameRow, IsEmpty, Wiring}
use Rattle.ld_cascade.proofs.Edges.{follows_self, follows_then}
use Rattle.ld_cascade.proofs.Restoring.{restorable_first, restorable_then}
use Rattle.ld_model.specs.declared.unit.Unit.{Unit}
use Rattle.ld_state.specs.RunState.{RunState}
use Rattle.ld_firing.specs.RunSystem.{IsSoundRun, run_system}
use Rattle.ld_firing.proofs.Lawful.{run_is_lawful}
use Rattle.ld_settling.specs.RunLinking.{AreBare, AreCleanLinks, AreLinksOf, RunLinksFollow, RunWiring, linked_with}
use Rattle.ld_settling.specs.UnitRuns.{UnitRun, unit_runs}

-- ---- room

-- A site that is not in the later table was not in the one before.
was_out : (old now : List Bool) → ((i : ℕ) → has old i ≡ true → has now i ≡ true) → (i : ℕ) → has now i ≡ false → has old i ≡ false
was_out old now keeps i out = elim (cases_Bool (has old i)) [
  | inl is_in ↦ absurd (let there = keeps i is_in in cc)
  | inr was ↦ was
]

-- Where rows stay and loose sites stay loose, a site that is not loose reads as much as before, so the room is enough.
pub rooms_stay : (y : System) (s t : y.Situation) (old now : Wiring) (room : ℕ) → Bound y s old → Bound y t now
    → ((i : ℕ) → HasSameRow old.edges now.edges i) → ((i : ℕ) → has old.loose i ≡ true → has now.loose i ≡ true)
    → HasRoomOutside y s old.loose room → HasRoomOutside y t now.loose room
rooms_stay y s t old now room before after rows keeps rooms i out =
    let was = was_out old.loose now.loose keeps i out in
    let a = (before.edges_are i was).once in
    let b = (after.edges_are i out).once in
    let r : length (get_or now.edges.rows i []) ≡ length (get_or old.edges.rows i []) = ap (λ (row : List ℕ). length row) (rows i) in
    let le = rooms i was in
    omega (arith, a, b, r, le)

-- Where no site has an edge, those that are not loose read nothing.
pub rooms_renewed : (y : System) (s : y.Situation) (wiring : Wiring) (room : ℕ) → Bound y s wiring
    → ((i : ℕ) → get_or wiring.edges.rows i [] ≡ []) → HasRoomOutside y s wiring.loose room
rooms_renewed y s wiring room bound none i out =
    let a = (bound.edges_are i out).once in
    let r : length (get_or wiring.edges.rows i []) ≡ 0 = ap (λ (row : List ℕ). length row) (none i) in
    omega (arith, a, r)

-- ---- one after another

pub run_follows_self : {links : RunWiring} → RunLinksFollow links links
run_follows_self {links} = record { links = follows_self; room = omega arith }

pub run_follows_then : {a b c : RunWiring} → RunLinksFollow a b → RunLinksFollow b c → RunLinksFollow a c
run_follows_then {a} {b} {c} first later = record {
  links = follows_then first.links later.links;
  room = omega (arith, first.room, later.room);
}

-- ---- clean links

module _ (unit : Unit) (s : RunState) where
  -- Clean links are links of the run.
  pub clean_linked : (links : RunWiring) → AreCleanLinks unit s links → AreLinksOf unit s links
  clean_linked links clean = record {
    wired = record {
      tidy = λ i out. record { marked = clean.marks i; edges_are = clean.edges i };
      bound = record {
        edges_are = λ i out. clean.edges i;
        dirty = λ i is_in. absurd (let none = clean.none_loose i in cc);
      };
      covers = clean.covers;
    };
    rooms = λ i out. clean.room i;
  }

  -- Where only the table of the sites that were linked differs, they stay clean.
  pub clean_begun : (old now : Wiring) (room : ℕ) → now.edges ≡ old.edges → now.dirty ≡ old.dirty → now.loose ≡ old.loose → now.sites ≡ old.sites
      → AreCleanLinks unit s (linked_with old room) → AreCleanLinks unit s (linked_with now room)
  clean_begun old now room edges dirty loose sites clean = record {
    marks = clean.marks;
    edges = λ i. subst (λ (e : Edges). EdgesAre e i ((run_system unit).reads s i)) (sym edges) (clean.edges i);
    none_dirty = subst IsEmpty (sym dirty) clean.none_dirty;
    none_loose = subst IsEmpty (sym loose) clean.none_loose;
    covers = record {
      sites = omega (arith, clean.covers.sites, sites);
      slots = omega (arith, clean.covers.slots, ap (λ (e : Edges). e.slots) edges);
    };
    room = clean.room;
  }

  -- Links that follow clean ones can be restored, in the room that there is.
  pub restorable_after : (begun now : RunWiring) → IsSoundRun unit s → AreCleanLinks unit s begun → RunLinksFollow begun now
      → Restorable (run_system unit) s now.wiring
  restorable_after begun now sound clean follows =
      restorable_then (run_system unit) s begun.wiring now.wiring
      (restorable_first (run_system unit) (run_is_lawful unit) s sound begun.wiring clean.covers clean.edges) follows.links

  pub room_after : (begun now : RunWiring) → AreCleanLinks unit s begun → RunLinksFollow begun now → HasRoom (run_system unit) s now.room
  room_after begun now clean follows i = omega (arith, clean.room i, follows.room)

-- Where only that table differs, bare links stay bare.
pub bare_begun : (old now : Wiring) (room : ℕ) → now.edges ≡ old.edges → now.dirty ≡ old.dirty → now.loose ≡ old.loose → IsEmpty now.relinked
    → AreBare (linked_with old room) → AreBare (linked_with now room)
bare_begun old now room edges dirty loose none bare = record {
  no_edges = λ i. ap (λ (e : Edges). get_or e.rows i []) edges ∙ bare.no_edges i;
  none_dirty = subst IsEmpty (sym dirty) bare.none_dirty;
  none_loose = subst IsEmpty (sym loose) bare.none_loose;
  none_relinked = none;
}

-- ---- in the system of the runs of all units

pub restorable_in_units : (s : UnitRun) (wiring : Wiring) → Restorable (run_system s.unit) s.run wiring → Restorable unit_runs s wiring
restorable_in_units s wiring r = record {
  edges_are = λ i out.
      let are = r.edges_are i out in
      record { named = are.named; linked = are.linked; once = are.once };
  room = r.room;
  sites = r.sites;
  slots = r.slots;
}

-- Where a settling is done, the links are clean.
pub clean_settled : (s : UnitRun) (wiring : Wiring) (room : ℕ) → ((i : ℕ) → IsTidy unit_runs s wiring.edges i) → Bound unit_runs s wiring
    → Covers unit_runs s wiring → IsEmpty wiring.dirty → HasRoom unit_runs s room → AreCleanLinks s.unit s.run (linked_with wiring room)
clean_settled s wiring room tidy bound covers none rooms = record {
  marks = λ i. (tidy i).marked;
  edges = λ i.
      let are = (tidy i).edges_are in
      record { named = are.named; linked = are.linked; once = are.once };
  none_dirty = none;
  none_loose = λ i. elim (cases_Bool (has wiring.loose i)) [
    | inl is_in ↦ absurd (let dirty = bound.dirty i is_in in let out = none i in cc)
    | inr out ↦ out
  ];
  covers = record { sites = covers.sites; slots = covers.slots };
  room = rooms;
}

-- And where they are restored.
pub clean_restored : (s : UnitRun) (begun : RunWiring) (wiring : Wiring) (room before : ℕ) → AreCleanLinks s.unit s.run begun
    → ((i : ℕ) → EdgesAre wiring.edges i (unit_runs.reads s i)) → IsEmpty wiring.dirty → Bound unit_runs s wiring
    → Covers unit_runs s wiring → begun.room ≤ before → before ≤ room → AreCleanLinks s.unit s.run (linked_with wiring room)
clean_restored s begun wiring room before clean edges none bound covers follows grows = record {
  marks = clean.marks;
  edges = λ i.
      let are = edges i in
      record { named = are.named; linked = are.linked; once = are.once };
  none_dirty = none;
  none_loose = λ i. elim (cases_Bool (has wiring.loose i)) [
    | inl is_in ↦ absurd (let dirty = bound.dirty i is_in in let out = none i in cc)
    | inr out ↦ out
  ];
  covers = record { sites = covers.sites; slots = covers.slots };
  room = λ i. omega (arith, clean.room i, follows, grows);
}
