use Rattle.std.proofs.Common.{◌≡◌, ℕ, arith, refl, sym, ap, ◌∙◌, subst, inl, inr, Bool, List, [], get_or, length, true, Contains}
use Rattle.ld_graph.specs.Edges.{Edges, IsLinked}
use Rattle.ld_graph.specs.Table.{has}
use Rattle.ld_cascade.proofs.Edges.{follows_then}
use Rattle.ld_state.specs.StateView.{run_of}
use Rattle.ld_state.proofs.SeenSame.{persons_counted}
use Rattle.ld_firing.specs.RunSystem.{run_system}
use Rattle.ld_settling.specs.RunLinking.{AreLinksOf, AreNewcomers, IsNewcomer, RunLinksFollow, RunWiring, linked_with}
use Rattle.ld_settling.proofs.CleanLinks.{rooms_stay}
use Rattle.ld_settling.proofs.PersonsTold.{follows_loosened, links_of_persons}
use Rattle.ld_settling.proofs.Linking.{slots_many}
use Rattle.ld_settling.proofs.links.RunLinks.tell_persons.Goals as goal

pub loosen_readers-requires : goal.loosen_readers-requires
loosen_readers-requires c =
    let tells = c.requires.told.4 in
    record {
      slots = λ k there.
          omega (
            arith,
            tells.slots k there,
            c.in_ok-grow.ensures.slots,
            c.slot_count.ensures,
            slots_many c.args.unit.now c.args.state.now c.requires.own,
          );
    }

pub returns-clause-linked : goal.returns-clause-linked
returns-clause-linked c =
    let unit = c.args.unit.now in
    let t = run_of c.args.state.now in
    let told = c.requires.told in
    let grown = c.in_ok-grow.ensures in
    let r = c.loosen_readers.ensures in
    let e = c.loosen_newcomers.ensures in
    let joined = c.persons.ensures ∙ sym (persons_counted c.args.state.now) in
    let between : (P : ℕ → ℕ → Type 0) → P c.args.before c.persons.result → P (length told.0.persons) (length t.persons) =
    λ P is. subst (λ n. P n (length t.persons)) (sym told.1) (subst (P c.args.before) joined is) in
    let before = subst (λ (w : RunWiring). AreLinksOf unit told.0 w) (sym c.self.view_is) told.3 in
    let wired = links_of_persons unit told.0 t c.args.changed.now told.2 c.requires.sound told.4 refl
    c.self.inside.links c.grow.new.self c.loosen_readers.new.self c.loosen_newcomers.new.links
    grown.edges grown.dirty grown.loose
    (record {
      rest = record { dirty = r.keeps; loose = r.keeps_loose; only = r.only_loose; edges = r.edges; relinked = r.relinked; sites = r.sites };
      readers = r.readers;
      loosens = r.loosens;
    })
    e.rest
    (between (AreNewcomers unit c.loosen_newcomers.new.links.dirty) e.dirty)
    (between (AreNewcomers unit c.loosen_newcomers.new.links.loose) e.loose)
    before.wired
    (record {
      sites = omega (arith, grown.sites, r.sites, e.rest.sites, c.count.ensures);
      slots = omega (
        arith,
        grown.slots,
        ap (λ (edges : Edges). edges.slots) (e.rest.edges ∙ r.edges),
        c.slot_count.ensures,
        slots_many unit c.args.state.now c.requires.own,
      );
    }) in
    record {
      wired = wired;
      rooms = rooms_stay (run_system unit) told.0 t c.self.inside.links c.loosen_newcomers.new.links c.self.inside.list.room before.wired.bound wired.bound
          (λ i. ap (λ (edges : Edges). get_or edges.rows i []) (e.rest.edges ∙ r.edges) ∙ grown.edges i)
          (λ i was. e.rest.loose i (r.keeps_loose i (grown.loose i ∙ was))) before.rooms;
    }

pub returns-in_err-grow-clause-only : goal.returns-in_err-grow-clause-only
returns-in_err-grow-clause-only c i is_in =
    inl (subst (λ (w : RunWiring). has w.wiring.dirty i ≡ true) c.self.view_is (sym (c.grow.ensures.dirty i) ∙ is_in))

pub returns-clause-only : goal.returns-clause-only
returns-clause-only c i is_in =
    elim (c.loosen_newcomers.ensures.only i is_in) [
      | inl was ↦ elim (c.loosen_readers.ensures.only i was) [
        | inl first ↦ inl (subst (λ (w : RunWiring). has w.wiring.dirty i ≡ true) c.self.view_is (sym (c.grow.ensures.dirty i) ∙ first))
        | inr read ↦ inr (inl (
          read.0,
          read.1,
          subst (λ (w : RunWiring). IsLinked w.wiring.edges read.0 i) c.self.view_is
              (subst (λ (row : List ℕ). Contains row read.0) (c.grow.ensures.edges i) read.2),
        ))
      ]
      | inr new ↦ inr (inr (subst (λ n. IsNewcomer c.args.unit.now c.args.before n i) (c.persons.ensures ∙ sym (persons_counted c.args.state.now)) new))
    ]

pub returns-in_err-grow-clause-follows : goal.returns-in_err-grow-clause-follows
returns-in_err-grow-clause-follows c =
    subst (λ (w : RunWiring). RunLinksFollow w (linked_with c.grow.new.self c.self.inside.list.room)) c.self.view_is
    (record { links = c.grow.ensures.follows; room = omega arith })

pub returns-clause-follows : goal.returns-clause-follows
returns-clause-follows c =
    subst (λ (w : RunWiring). RunLinksFollow w (linked_with c.loosen_newcomers.new.links c.self.inside.list.room)) c.self.view_is
    (record {
      links = follows_then c.grow.ensures.follows (follows_then c.loosen_readers.ensures.follows (follows_loosened c.loosen_newcomers.ensures.rest));
      room = omega arith;
    })

pub returns-clause-same_relinked : goal.returns-clause-same_relinked
returns-clause-same_relinked c i =
    ap (λ (table : List Bool). has table i) (c.loosen_newcomers.ensures.rest.relinked ∙ c.loosen_readers.ensures.relinked)
    ∙ c.grow.ensures.relinked i ∙ ap (λ (w : RunWiring). has w.wiring.relinked i) c.self.view_is

pub returns-in_err-grow-clause-same_relinked : goal.returns-in_err-grow-clause-same_relinked
returns-in_err-grow-clause-same_relinked c i =
    c.grow.ensures.relinked i ∙ ap (λ (w : RunWiring). has w.wiring.relinked i) c.self.view_is
