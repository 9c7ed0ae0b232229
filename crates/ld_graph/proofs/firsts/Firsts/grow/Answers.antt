use Rattle.std.proofs.Common.{arith, ℕ, List, length, replicate, sym, ap, subst}
use Rattle.std.proofs.lemmas.List.{length-append, length-replicate}
use Rattle.ld_graph.specs.Linked.{none_at}
use Rattle.ld_graph.specs.Paged.{paged, ArePages, Widens}
use Rattle.ld_graph.proofs.Pages.{seen_length, entries_length, widens_none, pages_wider, widens}
use Rattle.ld_graph.proofs.firsts.Firsts.grow.Goals as goal

pub returns-then-sites-self-clause-ok : goal.returns-then-sites-self-clause-ok
returns-then-sites-self-clause-ok c =
    let n = seen_length c.self.inside.pages.items c.self.inside.entries.items c.self.inside.sites c.args.self.now c.self.view_is in
    let less = c.if-sites-self.true in
    omega arith

pub returns-then-sites-self-clause-widens : goal.returns-then-sites-self-clause-widens
returns-then-sites-self-clause-widens c =
    let n = seen_length c.self.inside.pages.items c.self.inside.entries.items c.self.inside.sites c.args.self.now c.self.view_is in
    let fits = c.self.invariant.fits in
    widens_none c.args.self.now (omega arith)

pub invariant_of-self : goal.invariant_of-self
invariant_of-self c =
    let covers = c.self.invariant.covers in
    subst (λ (x : List ℕ). ArePages x c.self.inside.entries.items c.self.inside.sites) (sym c.pad.ensures.rest.1)
    (pages_wider c.self.invariant c.pad.ensures.rest.0 c.self.inside.sites (omega arith) c.self.invariant.fits (omega arith))

pub returns-in_err-pad-clause-widens : goal.returns-in_err-pad-clause-widens
returns-in_err-pad-clause-widens c =
    let covers = c.self.invariant.covers in
    subst (λ (x : List ℕ). Widens c.args.self.now (paged x c.self.inside.entries.items c.self.inside.sites)) (sym c.pad.ensures.rest.1)
    (widens c.self.invariant c.pad.ensures.rest.0 c.self.inside.sites (omega arith) c.self.invariant.fits (omega arith) c.args.self.now c.self.view_is)

pub invariant_of-self-2 : goal.invariant_of-self-2
invariant_of-self-2 c =
    let more = c.if-sites-self.false in
    let fits = c.ranges.sites.fits in
    let enough = c.in_ok-pad.ensures.ok in
    let is = ap (λ (x : List ℕ). length x) c.pad.ensures.rest.1 in
    let long = length-append c.self.inside.pages.items (replicate c.pad.ensures.rest.0 none_at) in
    let rest = length-replicate c.pad.ensures.rest.0 none_at in
    subst (λ (x : List ℕ). ArePages x c.self.inside.entries.items c.args.sites) (sym c.pad.ensures.rest.1)
    (pages_wider c.self.invariant c.pad.ensures.rest.0 c.args.sites (omega arith) (omega arith) (omega arith))

pub returns-clause-ok : goal.returns-clause-ok
returns-clause-ok c =
    let long = entries_length c.pad.new.list.items c.self.inside.entries.items c.args.sites in
    omega arith

pub returns-clause-widens : goal.returns-clause-widens
returns-clause-widens c =
    let more = c.if-sites-self.false in
    let fits = c.ranges.sites.fits in
    let enough = c.in_ok-pad.ensures.ok in
    let is = ap (λ (x : List ℕ). length x) c.pad.ensures.rest.1 in
    let long = length-append c.self.inside.pages.items (replicate c.pad.ensures.rest.0 none_at) in
    let rest = length-replicate c.pad.ensures.rest.0 none_at in
    subst (λ (x : List ℕ). Widens c.args.self.now (paged x c.self.inside.entries.items c.args.sites)) (sym c.pad.ensures.rest.1)
    (widens c.self.invariant c.pad.ensures.rest.0 c.args.sites (omega arith) (omega arith) (omega arith) c.args.self.now c.self.view_is)
