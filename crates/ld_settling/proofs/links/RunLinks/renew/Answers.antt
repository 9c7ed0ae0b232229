use Rattle.std.proofs.Common.{arith, ◌≡◌, ℕ, ap, ◌∙◌, refl, sym, subst, Bool, List, [], get_or}
use Rattle.ld_graph.specs.Edges.{Edges}
use Rattle.ld_graph.specs.Table.{has}
use Rattle.ld_state.specs.StateView.{run_of}
use Rattle.ld_state.proofs.SeenSame.{persons_counted}
use Rattle.ld_firing.specs.RunSystem.{run_system}
use Rattle.ld_settling.specs.RunLinking.{AreDirty}
use Rattle.ld_settling.proofs.CleanLinks.{rooms_renewed}
use Rattle.ld_settling.proofs.Linking.{links_anew, sites_dirty, slots_many}
use Rattle.ld_settling.proofs.links.RunLinks.renew.Goals as goal

pub returns : goal.returns
returns c =
    let unit = c.args.unit.now in
    let run = run_of c.args.state.now in
    let e = c.set_all_dirty.ensures in
    let grown = c.in_ok-grow.ensures in
    let new = c.set_all_dirty.new.links in
    let bare : (i : ℕ) → get_or new.edges.rows i [] ≡ [] =
    λ i. ap (λ (edges : Edges). get_or edges.rows i []) e.rest.edges ∙ grown.edges i ∙ c.clear.ensures.edges i in
    let wired =
    links_anew unit run new c.requires.sound
    (record {
      sites = omega (arith, grown.sites, e.rest.sites, c.count.ensures);
      slots = omega (
        arith,
        grown.slots,
        ap (λ (edges : Edges). edges.slots) e.rest.edges,
        c.slot_count.ensures,
        slots_many unit c.args.state.now c.requires.own,
      );
    })
    (sites_dirty unit run new.dirty refl
    (subst (AreDirty new.dirty unit) (c.persons.ensures ∙ sym (persons_counted c.args.state.now)) e.dirty))
    e.loose bare in
    record {
      linked = record { wired = wired; rooms = rooms_renewed (run_system unit) run new c.self.inside.list.room wired.bound bare };
      none_relinked = λ i.
          ap (λ (table : List Bool). has table i) e.rest.relinked ∙ grown.relinked i ∙ c.clear.ensures.relinked i;
    }
