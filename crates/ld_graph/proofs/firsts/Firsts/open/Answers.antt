use Rattle.std.proofs.Common.{rules, arith, ◌≡◌, ℕ, ◌/◌, ◌++◌, true, List, length, get_or, set, replicate, sym, ◌∙◌, ap, subst}
use Rattle.std.proofs.lemmas.List.{get_or_read}
use Rattle.ld_graph.specs.Linked.{none_at}
use Rattle.ld_graph.specs.Paged.{Paged, opened_of, entries_of, ArePages}
use Rattle.ld_graph.specs.Table.{has}
use Rattle.ld_graph.proofs.Pages.{page_within, page_count, page_open, entries_open, pages_open, opens, keeps}
use Rattle.ld_graph.proofs.firsts.Firsts.open.Goals as goal

pub index-requires : goal.index-requires
index-requires c =
    let (here, lt) = page_within c.self.invariant c.args.self.now c.self.view_is c.args.site c.requires in
    search rules

pub returns-then-index-clause-ok : goal.returns-then-index-clause-ok
returns-then-index-clause-ok c =
    let (here, lt) = page_within c.self.invariant c.args.self.now c.self.view_is c.args.site c.requires in
    let read = get_or_read c.self.inside.pages.items (c.args.site / 16) c.index.result.now lt c.index.ensures none_at in
    ap (λ (x : Paged). has x.opened c.args.site) (sym c.self.view_is)
    ∙ page_open c.self.invariant c.args.site here (λ none. c.if-index.true (read ∙ none))

pub index_mut-requires : goal.index_mut-requires
index_mut-requires c =
    let (here, lt) = page_within c.self.invariant c.args.self.now c.self.view_is c.args.site c.requires in
    search rules

pub invariant_of-self-2 : goal.invariant_of-self-2
invariant_of-self-2 c =
    let (here, lt) = page_within c.self.invariant c.args.self.now c.self.view_is c.args.site c.requires in
    let read = get_or_read c.self.inside.pages.items (c.args.site / 16) c.index.result.now lt c.index.ensures none_at in
    let none : get_or c.self.inside.pages.items (c.args.site / 16) none_at ≡ none_at = let is = c.if-index.false in omega arith in
    let room = c.if-count.false in
    let len : c.len.result ≡ length c.self.inside.entries.items = search rules in
    let count = page_count c.self.invariant ∙ ap (λ (n : ℕ). n / 16) (sym len) in
    subst (λ (x : List ℕ). ArePages (set c.self.inside.pages.items (c.args.site / 16) (c.len.result / 16)) x c.self.inside.sites) (sym c.in_ok-add_page.ensures.ok)
    (subst (λ (k : ℕ). ArePages (set c.self.inside.pages.items (c.args.site / 16) k) (c.self.inside.entries.items ++ replicate 16 none_at) c.self.inside.sites) count
    (pages_open c.self.invariant c.args.site here none (omega arith)))

pub returns-clause-ok : goal.returns-clause-ok
returns-clause-ok c =
    let (here, lt) = page_within c.self.invariant c.args.self.now c.self.view_is c.args.site c.requires in
    let read = get_or_read c.self.inside.pages.items (c.args.site / 16) c.index.result.now lt c.index.ensures none_at in
    let none : get_or c.self.inside.pages.items (c.args.site / 16) none_at ≡ none_at = let is = c.if-index.false in omega arith in
    let room = c.if-count.false in
    let len : c.len.result ≡ length c.self.inside.entries.items = search rules in
    let count = page_count c.self.invariant ∙ ap (λ (n : ℕ). n / 16) (sym len) in
    subst (λ (k : ℕ). has (opened_of (set c.self.inside.pages.items (c.args.site / 16) k) c.self.inside.sites) c.args.site ≡ true) count
    (opens c.self.invariant c.args.site here none (omega arith))

pub returns-clause-items : goal.returns-clause-items
returns-clause-items c =
    let (here, lt) = page_within c.self.invariant c.args.self.now c.self.view_is c.args.site c.requires in
    let read = get_or_read c.self.inside.pages.items (c.args.site / 16) c.index.result.now lt c.index.ensures none_at in
    let none : get_or c.self.inside.pages.items (c.args.site / 16) none_at ≡ none_at = let is = c.if-index.false in omega arith in
    let room = c.if-count.false in
    let len : c.len.result ≡ length c.self.inside.entries.items = search rules in
    let count = page_count c.self.invariant ∙ ap (λ (n : ℕ). n / 16) (sym len) in
    ap (λ (x : List ℕ). entries_of (set c.self.inside.pages.items (c.args.site / 16) (c.len.result / 16)) x c.self.inside.sites) c.in_ok-add_page.ensures.ok
    ∙ (ap (λ (k : ℕ). entries_of (set c.self.inside.pages.items (c.args.site / 16) k) (c.self.inside.entries.items ++ replicate 16 none_at) c.self.inside.sites) (sym count)
    ∙ (entries_open c.self.invariant c.args.site here none (omega arith)
    ∙ ap (λ (x : Paged). x.items) c.self.view_is))

pub returns-clause-keeps : goal.returns-clause-keeps
returns-clause-keeps c i was =
    let (here, lt) = page_within c.self.invariant c.args.self.now c.self.view_is c.args.site c.requires in
    let read = get_or_read c.self.inside.pages.items (c.args.site / 16) c.index.result.now lt c.index.ensures none_at in
    let none : get_or c.self.inside.pages.items (c.args.site / 16) none_at ≡ none_at = let is = c.if-index.false in omega arith in
    let room = c.if-count.false in
    let len : c.len.result ≡ length c.self.inside.entries.items = search rules in
    let count = page_count c.self.invariant ∙ ap (λ (n : ℕ). n / 16) (sym len) in
    subst (λ (k : ℕ). has (opened_of (set c.self.inside.pages.items (c.args.site / 16) k) c.self.inside.sites) i ≡ true) count
    (keeps c.self.invariant c.args.site here none (omega arith) i (ap (λ (x : Paged). has x.opened i) c.self.view_is ∙ was))
