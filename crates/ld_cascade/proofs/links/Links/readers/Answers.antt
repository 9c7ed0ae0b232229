use Rattle.std.proofs.Common.{◌≡◌, ◌<◌, ◌↔◌, ap, subst, Contains}
use Rattle.ld_graph.specs.Edges.{IsLinked}
use Rattle.ld_cascade.specs.Wiring.{Wiring, wired}
use Rattle.ld_cascade.proofs.Edges.{linked_below}
use Rattle.ld_cascade.proofs.links.Links.readers.Goals as goal

pub returns-clause-sites : goal.returns-clause-sites
returns-clause-sites c i =
    subst (λ (w : Wiring). Contains c.readers.result i ↔ IsLinked w.edges c.args.slot i) c.self.view_is (c.readers.ensures.sites i)

pub returns-clause-range : goal.returns-clause-range
returns-clause-range c i there =
    let l = c.self.inside in
    subst (λ (w : Wiring). i < w.sites) c.self.view_is
    (linked_below (wired l.graph l.dirty_sites l.loose_sites l.relinked_sites l.site_count) c.self.invariant c.args.slot i ((c.readers.ensures.sites i).0 there))
