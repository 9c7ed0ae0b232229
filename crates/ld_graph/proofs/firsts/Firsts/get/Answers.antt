use Rattle.std.proofs.Common.{rules, arith, ℕ, ◌*◌, ◌/◌, ◌%◌, ◌+◌, ◌<◌, length, get_or, sym, ◌∙◌, ap}
use Rattle.std.proofs.lemmas.List.{get_or_read}
use Rattle.ld_graph.specs.Linked.{none_at}
use Rattle.ld_graph.specs.Paged.{Paged}
use Rattle.ld_graph.specs.Table.{has}
use Rattle.ld_graph.proofs.Pages.{page_within, entries_at, entry_none, page_open, place_there}
use Rattle.ld_graph.proofs.firsts.Firsts.get.Goals as goal

pub index-page-requires : goal.index-page-requires
index-page-requires c =
    let (here, lt) = page_within c.self.invariant c.args.self.now c.self.view_is c.args.site c.requires in
    search rules

pub returns-then-page-clause-value : goal.returns-then-page-clause-value
returns-then-page-clause-value c =
    let (here, lt) = page_within c.self.invariant c.args.self.now c.self.view_is c.args.site c.requires in
    let read = get_or_read c.self.inside.pages.items (c.args.site / 16) c.index-page.result.now lt c.index-page.ensures none_at in
    sym (ap (λ (x : Paged). get_or x.items c.args.site none_at) (sym c.self.view_is)
    ∙ (entries_at c.self.inside.pages.items c.self.inside.entries.items c.self.inside.sites c.args.site none_at here
    ∙ entry_none c.self.invariant c.args.site (sym read ∙ c.if-page.true)))

pub index-requires : goal.index-requires
index-requires c =
    let (here, lt) = page_within c.self.invariant c.args.self.now c.self.view_is c.args.site c.requires in
    let read = get_or_read c.self.inside.pages.items (c.args.site / 16) c.index-page.result.now lt c.index-page.ensures none_at in
    let there = place_there c.self.invariant c.args.site (λ none. c.if-page.false (read ∙ none)) in
    let at : c.index-page.result.now * 16 + c.args.site % 16 < length c.self.inside.entries.items = omega arith in
    search rules

pub returns-clause-value : goal.returns-clause-value
returns-clause-value c =
    let (here, lt) = page_within c.self.invariant c.args.self.now c.self.view_is c.args.site c.requires in
    let read = get_or_read c.self.inside.pages.items (c.args.site / 16) c.index-page.result.now lt c.index-page.ensures none_at in
    let there = place_there c.self.invariant c.args.site (λ none. c.if-page.false (read ∙ none)) in
    let at : c.index-page.result.now * 16 + c.args.site % 16 < length c.self.inside.entries.items = omega arith in
    get_or_read c.self.inside.entries.items (c.index-page.result.now * 16 + c.args.site % 16) c.index.result.now at c.index.ensures none_at
    ∙ (ap (λ (p : ℕ). get_or c.self.inside.entries.items (p * 16 + c.args.site % 16) none_at) read
    ∙ (sym (entries_at c.self.inside.pages.items c.self.inside.entries.items c.self.inside.sites c.args.site none_at here)
    ∙ ap (λ (x : Paged). get_or x.items c.args.site none_at) c.self.view_is))

pub returns-clause-opened : goal.returns-clause-opened
returns-clause-opened c _ =
    let (here, lt) = page_within c.self.invariant c.args.self.now c.self.view_is c.args.site c.requires in
    let read = get_or_read c.self.inside.pages.items (c.args.site / 16) c.index-page.result.now lt c.index-page.ensures none_at in
    ap (λ (x : Paged). has x.opened c.args.site) (sym c.self.view_is)
    ∙ page_open c.self.invariant c.args.site here (λ none. c.if-page.false (read ∙ none))
