-- The links of a run in which persons joined, or got or lost roles.
use Rattle.std.proofs.Common.{◌≡◌, refl, sym, ap, subst, ◌∙◌, ℕ, ◌≤◌, ◌⊎◌, inl, inr, List, [], length, get_or, Option, Some, None, Bool, true, false, is_some, Contains, arith}
use Rattle.std.proofs.lemmas.Bool.{cases_eq, cases_lt}
use Rattle.ld_graph.specs.Edges.{Edges, IsLinked, edge_room}
use Rattle.ld_graph.specs.Table.{has}
use Rattle.ld_cascade.specs.Tidy.{AreLoosened, ChangesOnly, Covers, Touched}
use Rattle.ld_cascade.specs.Wiring.{LinksFollow, HasSameRow, IsSameTable, IsWith, Wiring}
use Rattle.ld_cascade.proofs.Touching.{bound_touched, tidy_touched}
use Rattle.ld_model.specs.declared.cell.Owner.{Owner}
use Rattle.ld_model.specs.declared.unit.Unit.{Unit}
use Rattle.ld_names.specs.Rules.{Site, sites_of}
use Rattle.ld_names.specs.SiteNumbers.{site_number}
use Rattle.ld_names.proofs.SitesNumbered.{is_numbering}
use Rattle.ld_roles.specs.declared.limit.TheConstants.{SEATS}
use Rattle.ld_state.specs.RunState.{RunState}
use Rattle.ld_state.proofs.Elements.{different}
use Rattle.ld_rules.specs.LawWords.{HasOwner}
use Rattle.ld_rules.specs.SiteTests.{site_mark}
use Rattle.ld_firing.specs.RunSystem.{IsSoundRun, run_system, site_at, verdict_in}
use Rattle.ld_firing.specs.Telling.{TellsPersons}
use Rattle.ld_firing.proofs.Growing.{site_is_there, site_stays, sites_grow}
use Rattle.ld_firing.proofs.Lawful.{run_is_lawful}
use Rattle.ld_firing.proofs.Sites.{IsOwner, a_person, the_run, said_of, site_found, some_of}
use Rattle.ld_firing.proofs.SitesNumbered.{seats_of}
use Rattle.ld_settling.specs.RunLinking.{AreNewcomers, AreWired, IsNewcomer, Loosens}

has_owner : (s : RunState) (own : Bool) (owner : Owner) → IsOwner (length s.persons) own owner → HasOwner s owner
has_owner s own owner (a_person p below) = below
has_owner s own owner the_run = tt

module _ (unit : Unit) (s t : RunState) (told : List ℕ) (sound : IsSoundRun unit s) (sound_after : IsSoundRun unit t)
    (tells : TellsPersons unit s t told) where
  stays : (i : ℕ) (site : Site) → site_at unit s i ≡ Some site → site_at unit t i ≡ Some site
  stays i site at = site_stays unit s t i site (sym tells.seats) tells.persons (seats_of unit t sound_after) at

  -- What is told is what they change.
  changes_told : ChangesOnly (run_system unit) s t told
  changes_told = record {
    sound_before = sound;
    sound_after = sound_after;
    grows = record { seats = sym tells.seats; persons = tells.persons };
    keeps_sites = λ i there. let found = some_of (site_at unit s i) there in ap is_some (stays i found.0 found.1);
    same_marks = λ i there.
        let found = some_of (site_at unit s i) there in
        let site = found.0 in
        let owned = (site_found unit s i site found.1).owned in
        said_of unit t i site (λ one. verdict_in (t.cells (site_mark one))) (Some false) (stays i site found.1)
        ∙ ap verdict_in (tells.marks site.rule site.owner (has_owner s _ site.owner owned))
        ∙ sym (said_of unit s i site (λ one. verdict_in (s.cells (site_mark one))) (Some false) found.1);
    others = tells.untold;
  }

  -- A site that there was not came with a person who joined.
  new_site : t.seats ≡ SEATS → (i : ℕ) → (run_system unit).is_site s i ≡ false → (run_system unit).is_site t i ≡ true
      → IsNewcomer unit (length s.persons) (length t.persons) i
  new_site seats i out there =
      let found = some_of (site_at unit t i) there in
      let site = found.0 in
      let has_site = site_found unit t i site found.1 in
      record {
        site = site;
        is_new = record {
          there = has_site.there;
          was_none = λ was.
              different (sym (ap is_some (site_is_there unit t s i site tells.seats (seats_of unit s sound) was found.1)) ∙ out);
        };
        number = ap (λ n. site_number unit n site) (sym seats) ∙ has_site.number;
      }

-- The number of a newcomer's site was none before.
pub newcomer_is_none : (unit : Unit) (s : RunState) (below i : ℕ) → IsSoundRun unit s → s.seats ≡ SEATS → below ≤ SEATS
    → IsNewcomer unit (length s.persons) below i → (run_system unit).is_site s i ≡ false
newcomer_is_none unit s below i sound are most new = by (site_at unit s i) refl
  where
    was_there : (site : Site) → site_at unit s i ≡ Some site → Contains (sites_of unit (length s.persons)) new.site
    was_there site at = elim (cases_lt below (length s.persons)) [
      | inl fewer ↦ sites_grow unit below (length s.persons) new.site (omega (arith, fewer)) new.is_new.there
      | inr more ↦
          let has_site = site_found unit s i site at in
          let number : site_number unit SEATS site ≡ site_number unit SEATS new.site =
          ap (λ k. site_number unit k site) (sym are) ∙ has_site.number ∙ sym new.number in
          let one = (is_numbering unit SEATS below (omega arith) most).apart site new.site
          (sites_grow unit (length s.persons) below site more has_site.there) new.is_new.there number in
          subst (Contains (sites_of unit (length s.persons))) one has_site.there
    ]

    by : (found : Option Site) → site_at unit s i ≡ found → (run_system unit).is_site s i ≡ false
    by None at = ap is_some at
    by (Some site) at = absurd (new.is_new.was_none (was_there site at))

-- Links in which sites were set loose follow those before.
pub follows_loosened : {old now : Wiring} → Loosens old now → LinksFollow old now
follows_loosened {old} {now} l = record {
  sites = let e = l.sites in omega arith;
  slots = let e : now.edges.slots ≡ old.edges.slots = ap (λ (x : Edges). x.slots) l.edges in omega arith;
  room = let e : edge_room now.edges ≡ edge_room old.edges = ap (λ (x : Edges). edge_room x) l.edges in omega arith;
  was_out = λ i out. subst (λ (t : List Bool). has t i ≡ false) l.relinked out;
  rows = λ i out. ap (λ (x : Edges). get_or x.rows i []) l.edges;
  loose = λ i is_in. inl (l.loose i is_in);
}

-- What was in the table is in the one with a site more.
pub still_with : {table later : List Bool} {m : ℕ} → IsWith table later m → (i : ℕ) → has table i ≡ true → has later i ≡ true
still_with {table} {later} {m} more i was = elim (cases_eq i m) [
  | inl is ↦ subst (λ n. has later n ≡ true) (sym is) more.there
  | inr other ↦ more.others i other ∙ was
]

-- Two tables that have the same have it once both have the site more.
pub same_with : {a b c d : List Bool} {m : ℕ} → IsWith a c m → IsWith b d m → IsSameTable a b → IsSameTable c d
same_with {a} {b} {c} {d} {m} first second same i = elim (cases_eq i m) [
  | inl is ↦ subst (λ n. has d n ≡ has c n) (sym is) (second.there ∙ sym first.there)
  | inr other ↦ second.others i other ∙ same i ∙ sym (first.others i other)
]

-- What is in the one with a site more was in the other, or is that site.
pub there_or_it : {table later : List Bool} {m : ℕ} → IsWith table later m → (i : ℕ) → has later i ≡ true
    → (has table i ≡ true) ⊎ (i ≡ m)
there_or_it {table} {later} {m} more i there = elim (cases_eq i m) [
  | inl is ↦ inr is
  | inr other ↦ inl (sym (more.others i other) ∙ there)
]

-- What sets one site more dirty and loose.
pub loosens_one : {old now : Wiring} {m : ℕ} → IsWith old.dirty now.dirty m → IsWith old.loose now.loose m → now.edges ≡ old.edges
    → now.relinked ≡ old.relinked → now.sites ≡ old.sites → Loosens old now
loosens_one {old} {now} {m} dirty loose edges relinked sites = record {
  dirty = still_with dirty;
  loose = still_with loose;
  only = λ i is_in. elim (there_or_it loose i is_in) [
    | inl was ↦ inl was
    | inr is ↦ inr (subst (λ k. has now.dirty k ≡ true) (sym is) dirty.there)
  ];
  edges = edges;
  relinked = relinked;
  sites = sites;
}

-- What loosens nothing, and one after another.
pub loosens_self : {links : Wiring} → Loosens links links
loosens_self {links} = record {
  dirty = λ i was. was;
  loose = λ i was. was;
  only = λ i was. inl was;
  edges = refl;
  relinked = refl;
  sites = refl;
}

pub loosens_then : {a b c : Wiring} → Loosens a b → Loosens b c → Loosens a c
loosens_then {a} {b} {c} first later = record {
  dirty = λ i was. later.dirty i (first.dirty i was);
  loose = λ i was. later.loose i (first.loose i was);
  only = λ i is_in. elim (later.only i is_in) [
    | inl was ↦ elim (first.only i was) [
      | inl early ↦ inl early
      | inr became ↦ inr (later.dirty i became)
    ]
    | inr became ↦ inr became
  ];
  edges = later.edges ∙ first.edges;
  relinked = later.relinked ∙ first.relinked;
  sites = later.sites ∙ first.sites;
}

-- The readers of the slots are dirty, and loose, and else no more is told.
pub record IsTold (told : List ℕ) (old now : Wiring) : Type 0 where
  pub rest : Loosens old now
  pub readers : (k : ℕ) → Contains told k → (i : ℕ) → IsLinked old.edges k i → has now.dirty i ≡ true
  pub loosens : AreLoosened told old now

-- The links before, once they had room, once the slots were told, and once the sites of the persons who joined were
-- set loose.
module _ (unit : Unit) (s t : RunState) (told : List ℕ) (sound : IsSoundRun unit s) (sound_after : IsSoundRun unit t)
    (tells : TellsPersons unit s t told) (seats : t.seats ≡ SEATS) (old roomy touched now : Wiring)
    (rows : (i : ℕ) → HasSameRow old.edges roomy.edges i) (same_dirty : IsSameTable old.dirty roomy.dirty)
    (same_loose : IsSameTable old.loose roomy.loose) (is_told : IsTold told roomy touched) (loosened : Loosens touched now)
    (dirty : AreNewcomers unit now.dirty (length s.persons) (length t.persons))
    (loose : AreNewcomers unit now.loose (length s.persons) (length t.persons)) where
  linked : (k i : ℕ) → IsLinked old.edges k i → IsLinked roomy.edges k i
  linked k i link = subst (λ (row : List ℕ). Contains row k) (sym (rows i)) link

  among : (table : List Bool) → AreNewcomers unit table (length s.persons) (length t.persons) → (i : ℕ)
      → (run_system unit).is_site s i ≡ false → (run_system unit).is_site t i ≡ true → has table i ≡ true
  among table are i out there =
      let new = new_site unit s t told sound sound_after tells seats i out there in
      subst (λ n. has table n ≡ true) new.number (are new.site new.is_new)

  all_touched : Touched (run_system unit) s t told old now
  all_touched = record {
    same_rows = λ i. ap (λ (e : Edges). get_or e.rows i []) (loosened.edges ∙ is_told.rest.edges) ∙ rows i;
    keeps = λ i was. loosened.dirty i (is_told.rest.dirty i (same_dirty i ∙ was));
    readers = λ k there i link. loosened.dirty i (is_told.readers k there i (linked k i link));
    loosens = inr (λ k there i link. loosened.loose i (is_told.loosens k there i (linked k i link)));
    fresh = among now.dirty dirty;
    keeps_loose = λ i was. loosened.loose i (is_told.rest.loose i (same_loose i ∙ was));
    fresh_loose = among now.loose loose;
    only_loose = λ i is_in. elim (loosened.only i is_in) [
      | inl was ↦ elim (is_told.rest.only i was) [
        | inl first ↦ inl (sym (same_loose i) ∙ first)
        | inr became ↦ inr (loosened.dirty i became)
      ]
      | inr became ↦ inr became
    ];
  }

  -- The links are those of the run as it is now.
  pub links_of_persons : AreWired unit s old → Covers (run_system unit) t now → AreWired unit t now
  links_of_persons links covers = record {
    tidy = tidy_touched (run_system unit) (run_is_lawful unit) s t told old now links.tidy
        (changes_told unit s t told sound sound_after tells) all_touched;
    bound = bound_touched (run_system unit) (run_is_lawful unit) s t told old now links.bound
        (changes_told unit s t told sound sound_after tells) all_touched;
    covers = covers;
  }
