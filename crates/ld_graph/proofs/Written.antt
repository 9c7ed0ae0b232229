use Rattle.std.proofs.Common.{◌≡◌, ℕ, ◌<◌, List, length, get_or, set, map, refl, sym, ◌∙◌, ap}
use Rattle.std.proofs.lemmas.List.{map-set, set-get_or, get_or-map}
use Rattle.ld_graph.specs.declared.edge.Edge.{Edge}
use Rattle.ld_graph.specs.Linked.{none_at}
use Rattle.ld_graph.specs.Columns.{slots_of, edge_sites, nexts_of, befores_of, site_nexts_of, HaveColumns}

-- a column where the entry written is the one that was there
kept : (field : Edge → ℕ) (edges : List Edge) (at : ℕ) (e e' : Edge) → at < length edges → e ≡ get_or edges at e → field e' ≡ field e
    → map field (set edges at e') ≡ map field edges
kept field edges at e e' lt read same =
    let there : field e' ≡ get_or (map field edges) at none_at =
    same ∙ (ap field read ∙ sym (get_or-map field edges at e none_at lt)) in
    map-set field edges at e' ∙ (ap (λ (x : ℕ). set (map field edges) at x) there ∙ set-get_or (map field edges) at none_at)

pub edge_written : (edges : List Edge) (at : ℕ) (e : Edge)
    → HaveColumns (set edges at e) (set (slots_of edges) at e.slot) (set (edge_sites edges) at e.site) (set (nexts_of edges) at e.next)
    (set (befores_of edges) at e.before) (set (site_nexts_of edges) at e.site_next)
edge_written edges at e = record {
  slots_are = map-set (λ (e : Edge). e.slot) edges at e;
  sites_are = map-set (λ (e : Edge). e.site) edges at e;
  nexts_are = map-set (λ (e : Edge). e.next) edges at e;
  befores_are = map-set (λ (e : Edge). e.before) edges at e;
  site_nexts_are = map-set (λ (e : Edge). e.site_next) edges at e;
}

pub next_written : (edges : List Edge) (at : ℕ) (e : Edge) (v : ℕ) → at < length edges → e ≡ get_or edges at e
    → HaveColumns (set edges at (record e { next = v })) (slots_of edges) (edge_sites edges) (set (nexts_of edges) at v) (befores_of edges) (site_nexts_of edges)
next_written edges at e v lt read = record {
  slots_are = kept (λ (e : Edge). e.slot) edges at e (record e { next = v }) lt read refl;
  sites_are = kept (λ (e : Edge). e.site) edges at e (record e { next = v }) lt read refl;
  nexts_are = map-set (λ (e : Edge). e.next) edges at (record e { next = v });
  befores_are = kept (λ (e : Edge). e.before) edges at e (record e { next = v }) lt read refl;
  site_nexts_are = kept (λ (e : Edge). e.site_next) edges at e (record e { next = v }) lt read refl;
}

pub before_written : (edges : List Edge) (at : ℕ) (e : Edge) (v : ℕ) → at < length edges → e ≡ get_or edges at e
    → HaveColumns (set edges at (record e { before = v })) (slots_of edges) (edge_sites edges) (nexts_of edges) (set (befores_of edges) at v) (site_nexts_of edges)
before_written edges at e v lt read = record {
  slots_are = kept (λ (e : Edge). e.slot) edges at e (record e { before = v }) lt read refl;
  sites_are = kept (λ (e : Edge). e.site) edges at e (record e { before = v }) lt read refl;
  nexts_are = kept (λ (e : Edge). e.next) edges at e (record e { before = v }) lt read refl;
  befores_are = map-set (λ (e : Edge). e.before) edges at (record e { before = v });
  site_nexts_are = kept (λ (e : Edge). e.site_next) edges at e (record e { before = v }) lt read refl;
}

pub free_written : (edges : List Edge) (at : ℕ) (e : Edge) (v : ℕ) → at < length edges → e ≡ get_or edges at e
    → HaveColumns (set edges at (record e { slot = none_at; site = none_at; site_next = v })) (set (slots_of edges) at none_at) (set (edge_sites edges) at none_at)
    (nexts_of edges) (befores_of edges) (set (site_nexts_of edges) at v)
free_written edges at e v lt read = record {
  slots_are = map-set (λ (e : Edge). e.slot) edges at (record e { slot = none_at; site = none_at; site_next = v });
  sites_are = map-set (λ (e : Edge). e.site) edges at (record e { slot = none_at; site = none_at; site_next = v });
  nexts_are = kept (λ (e : Edge). e.next) edges at e (record e { slot = none_at; site = none_at; site_next = v }) lt read refl;
  befores_are = kept (λ (e : Edge). e.before) edges at e (record e { slot = none_at; site = none_at; site_next = v }) lt read refl;
  site_nexts_are = map-set (λ (e : Edge). e.site_next) edges at (record e { slot = none_at; site = none_at; site_next = v });
}
