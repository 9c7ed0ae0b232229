use Rattle.std.proofs.Common.{rules, arith, ℕ, ◌*◌, ◌/◌, ◌%◌, ◌+◌, ◌<◌, length, get_or, set, sym, ◌∙◌, ap, subst}
use Rattle.std.proofs.lemmas.List.{get_or_read}
use Rattle.ld_graph.specs.Linked.{none_at}
use Rattle.ld_graph.specs.Paged.{Paged, entries_of, ArePages}
use Rattle.ld_graph.specs.Table.{has}
use Rattle.ld_graph.proofs.Pages.{page_within, open_page, place_there, entries_at, entries_set, pages_set}
use Rattle.ld_graph.proofs.firsts.Firsts.replace.Goals as goal

pub index-page-requires : goal.index-page-requires
index-page-requires c =
    let (here, lt) = page_within c.self.invariant c.args.self.now c.self.view_is c.args.site c.requires.site in
    search rules

pub index-was-requires : goal.index-was-requires
index-was-requires c =
    let (here, lt) = page_within c.self.invariant c.args.self.now c.self.view_is c.args.site c.requires.site in
    let read = get_or_read c.self.inside.pages.items (c.args.site / 16) c.index-page.result.now lt c.index-page.ensures none_at in
    let some = open_page c.self.invariant c.args.site (ap (λ (x : Paged). has x.opened c.args.site) c.self.view_is ∙ c.requires.opened) in
    let there = place_there c.self.invariant c.args.site some in
    let at : c.index-page.result.now * 16 + c.args.site % 16 < length c.self.inside.entries.items = omega arith in
    search rules

pub index_mut-requires : goal.index_mut-requires
index_mut-requires c =
    let (here, lt) = page_within c.self.invariant c.args.self.now c.self.view_is c.args.site c.requires.site in
    let read = get_or_read c.self.inside.pages.items (c.args.site / 16) c.index-page.result.now lt c.index-page.ensures none_at in
    let some = open_page c.self.invariant c.args.site (ap (λ (x : Paged). has x.opened c.args.site) c.self.view_is ∙ c.requires.opened) in
    let there = place_there c.self.invariant c.args.site some in
    let at : c.index-page.result.now * 16 + c.args.site % 16 < length c.self.inside.entries.items = omega arith in
    search rules

pub returns-clause-was : goal.returns-clause-was
returns-clause-was c =
    let (here, lt) = page_within c.self.invariant c.args.self.now c.self.view_is c.args.site c.requires.site in
    let read = get_or_read c.self.inside.pages.items (c.args.site / 16) c.index-page.result.now lt c.index-page.ensures none_at in
    let some = open_page c.self.invariant c.args.site (ap (λ (x : Paged). has x.opened c.args.site) c.self.view_is ∙ c.requires.opened) in
    let there = place_there c.self.invariant c.args.site some in
    let at : c.index-page.result.now * 16 + c.args.site % 16 < length c.self.inside.entries.items = omega arith in
    get_or_read c.self.inside.entries.items (c.index-page.result.now * 16 + c.args.site % 16) c.index-was.result.now at c.index-was.ensures none_at
    ∙ (ap (λ (p : ℕ). get_or c.self.inside.entries.items (p * 16 + c.args.site % 16) none_at) read
    ∙ (sym (entries_at c.self.inside.pages.items c.self.inside.entries.items c.self.inside.sites c.args.site none_at here)
    ∙ ap (λ (x : Paged). get_or x.items c.args.site none_at) c.self.view_is))

pub invariant_of-self : goal.invariant_of-self
invariant_of-self c =
    let (here, lt) = page_within c.self.invariant c.args.self.now c.self.view_is c.args.site c.requires.site in
    let read = get_or_read c.self.inside.pages.items (c.args.site / 16) c.index-page.result.now lt c.index-page.ensures none_at in
    let some = open_page c.self.invariant c.args.site (ap (λ (x : Paged). has x.opened c.args.site) c.self.view_is ∙ c.requires.opened) in
    subst (λ (p : ℕ). ArePages c.self.inside.pages.items (set c.self.inside.entries.items (p * 16 + c.args.site % 16) c.args.first) c.self.inside.sites) (sym read)
    (pages_set c.self.invariant c.args.site c.args.first here some)

pub returns-clause-items : goal.returns-clause-items
returns-clause-items c =
    let (here, lt) = page_within c.self.invariant c.args.self.now c.self.view_is c.args.site c.requires.site in
    let read = get_or_read c.self.inside.pages.items (c.args.site / 16) c.index-page.result.now lt c.index-page.ensures none_at in
    let some = open_page c.self.invariant c.args.site (ap (λ (x : Paged). has x.opened c.args.site) c.self.view_is ∙ c.requires.opened) in
    ap (λ (p : ℕ). entries_of c.self.inside.pages.items (set c.self.inside.entries.items (p * 16 + c.args.site % 16) c.args.first) c.self.inside.sites) read
    ∙ (entries_set c.self.invariant c.args.site c.args.first here some
    ∙ ap (λ (x : Paged). set x.items c.args.site c.args.first) c.self.view_is)
