use Rattle.std.proofs.Common.{◌≡◌, ◌≢◌, ℕ, ◌+◌, ◌-◌, ◌*◌, ◌/◌, ◌%◌, ◌<◌, ◌≤◌, inl, inr, true, false, List, [], ◌++◌, replicate, length, get_or, set, ltb, refl, sym, ◌∙◌, ap, arith}
use Rattle.std.proofs.lemmas.Bool.{cases_eq, cases_lt, ltb-true, lt-ltb}
use Rattle.std.proofs.lemmas.List.{get_or-set_same, get_or-set_other, length-set, ext_get_or, get_or_past, get_or_append_left, get_or-append_right, get_or-replicate, length-replicate, length-append, append-nil}
use Rattle.std.proofs.lemmas.List.FromFn.{get_or-map-range_with_len, length-map-range_with_len}
use Rattle.ld_graph.specs.Linked.{none_at}
use Rattle.ld_graph.specs.Table.{has}
use Rattle.ld_graph.specs.Paged.{Paged, paged_entry, entries_of, has_page, opened_of, ArePages, paged, Widens}

pub entries_length : (pages entries : List ℕ) (sites : ℕ) → length (entries_of pages entries sites) ≡ sites
entries_length pages entries sites = length-map-range_with_len (paged_entry pages entries) 0 sites

pub entries_at : (pages entries : List ℕ) (sites i d : ℕ) → i < sites → get_or (entries_of pages entries sites) i d ≡ paged_entry pages entries i
entries_at pages entries sites i d lt = get_or-map-range_with_len (paged_entry pages entries) 0 sites i i d lt (omega arith)

pub opened_at : (pages : List ℕ) (sites i : ℕ) → i < sites → has (opened_of pages sites) i ≡ has_page pages i
opened_at pages sites i lt = get_or-map-range_with_len (has_page pages) 0 sites i i false lt (omega arith)

-- an open site is in range
pub opened_within : (pages : List ℕ) (sites i : ℕ) → has (opened_of pages sites) i ≡ true → (i < sites) × (has_page pages i ≡ true)
opened_within pages sites i is_open = elim (cases_lt i sites) [
  | inl lt ↦ (lt, sym (opened_at pages sites i lt) ∙ is_open)
  | inr le ↦ absurd (
      let past : has (opened_of pages sites) i ≡ false = get_or_past (opened_of pages sites) i false
      (let long = length-map-range_with_len (has_page pages) 0 sites in omega arith) in
      let no : false ≡ true = sym past ∙ is_open in cc)
]

-- how many sites are seen
pub seen_length : (pages entries : List ℕ) (sites : ℕ) (f : Paged) → paged pages entries sites ≡ f → length f.items ≡ sites
seen_length pages entries sites f is = ap (λ (x : Paged). length x.items) (sym is) ∙ entries_length pages entries sites

-- a list that goes on with the default
pub padded : (xs : List ℕ) (more i d : ℕ) → get_or (xs ++ replicate more d) i d ≡ get_or xs i d
padded xs more i d = elim (cases_lt i (length xs)) [
  | inl lt ↦ get_or_append_left xs (replicate more d) d i lt
  | inr le ↦ get_or-append_right xs (replicate more d) (length xs) i d refl le
      ∙ (elim (cases_lt (i - length xs) more) [
        | inl within ↦ get_or-replicate more (i - length xs) d d within
        | inr past ↦ get_or_past (replicate more d) (i - length xs) d (let n = length-replicate more d in omega arith)
      ]
      ∙ sym (get_or_past xs i d le))
]

-- no page
pub no_pages : ArePages [] [] 0
no_pages = record {
  count = 0;
  whole = refl;
  few = omega arith;
  fits = omega arith;
  covers = omega arith;
  within = λ p. inl refl;
  apart = λ p q some same. absurd (some refl);
  beyond = λ i le. refl;
}

module _ {pages entries : List ℕ} {sites : ℕ} (a : ArePages pages entries sites) where
  -- a page that is there
  pub page_there : (p : ℕ) → get_or pages p none_at ≢ none_at → get_or pages p none_at < a.count
  page_there p some = elim (a.within p) [
    | inl none ↦ absurd (some none)
    | inr lt ↦ lt
  ]

  -- a site that is seen is in range, and has a place among the pages
  pub page_within : (f : Paged) → paged pages entries sites ≡ f → (i : ℕ) → i < length f.items → (i < sites) × (i / 16 < length pages)
  page_within f is i lt = let long = seen_length pages entries sites f is in let covers = a.covers in (omega arith, omega arith)

  -- how many pages there are
  pub page_count : a.count ≡ length entries / 16
  page_count = let whole = a.whole in omega arith

  pub page_open : (i : ℕ) → i < sites → get_or pages (i / 16) none_at ≢ none_at → has (opened_of pages sites) i ≡ true
  page_open i lt some = opened_at pages sites i lt ∙ lt-ltb (get_or pages (i / 16) none_at) none_at (let lt = page_there (i / 16) some in let few = a.few in omega arith)

  pub open_page : (i : ℕ) → has (opened_of pages sites) i ≡ true → get_or pages (i / 16) none_at ≢ none_at
  open_page i is_open none = let lt = ltb-true (get_or pages (i / 16) none_at) none_at (opened_within pages sites i is_open).1 in omega arith

  -- where the entry of a site with a page stands
  pub place_there : (i : ℕ) → get_or pages (i / 16) none_at ≢ none_at
      → get_or pages (i / 16) none_at * 16 + i % 16 < length entries
  place_there i some = let lt = page_there (i / 16) some in let whole = a.whole in omega arith

  -- the entry of a site without one
  pub entry_none : (i : ℕ) → get_or pages (i / 16) none_at ≡ none_at → paged_entry pages entries i ≡ none_at
  entry_none i none = get_or_past entries (get_or pages (i / 16) none_at * 16 + i % 16) none_at
      (let whole = a.whole in let few = a.few in omega arith)

  -- an entry is written
  module _ (site first : ℕ) (lt : site < sites) (some : get_or pages (site / 16) none_at ≢ none_at) where
    other_place : (i : ℕ) → i ≢ site
        → get_or pages (i / 16) none_at * 16 + i % 16 ≢ get_or pages (site / 16) none_at * 16 + site % 16
    other_place i ne same =
        let equal : get_or pages (site / 16) none_at ≡ get_or pages (i / 16) none_at = omega arith in
        let group = a.apart (site / 16) (i / 16) some equal in
        ne (omega arith)

    entry_other : (i : ℕ) → i ≢ site
        → paged_entry pages (set entries (get_or pages (site / 16) none_at * 16 + site % 16) first) i ≡ paged_entry pages entries i
    entry_other i ne = get_or-set_other entries (get_or pages (site / 16) none_at * 16 + site % 16)
        (get_or pages (i / 16) none_at * 16 + i % 16) first none_at (other_place i ne)

    pub entries_set : entries_of pages (set entries (get_or pages (site / 16) none_at * 16 + site % 16) first) sites
        ≡ set (entries_of pages entries sites) site first
    entries_set =
        let now : List ℕ = set entries (get_or pages (site / 16) none_at * 16 + site % 16) first in
        let long = entries_length pages now sites in
        let was = entries_length pages entries sites in
        ext_get_or none_at (entries_of pages now sites) (set (entries_of pages entries sites) site first)
        (omega (arith, length-set (entries_of pages entries sites) site first))
        (λ i within.
        entries_at pages now sites i none_at (omega arith)
        ∙ elim (cases_eq i site) [
          | inl here ↦ rw here (get_or-set_same entries (get_or pages (site / 16) none_at * 16 + site % 16) first none_at (place_there site some)
              ∙ sym (get_or-set_same (entries_of pages entries sites) site first none_at (omega arith)))
          | inr ne ↦ entry_other i ne
              ∙ (sym (entries_at pages entries sites i none_at (omega arith))
              ∙ sym (get_or-set_other (entries_of pages entries sites) site i first none_at ne))
        ])

    pub pages_set : ArePages pages (set entries (get_or pages (site / 16) none_at * 16 + site % 16) first) sites
    pages_set = record {
      count = a.count;
      whole = length-set entries (get_or pages (site / 16) none_at * 16 + site % 16) first ∙ a.whole;
      few = a.few;
      fits = a.fits;
      covers = a.covers;
      within = a.within;
      apart = a.apart;
      beyond = λ i le. entry_other i (λ q. omega arith) ∙ a.beyond i le;
    }

  -- a page is added
  module _ (site : ℕ) (lt : site < sites) (none : get_or pages (site / 16) none_at ≡ none_at) (room : a.count < none_at) where
    in_pages : site / 16 < length pages
    in_pages = let covers = a.covers in omega arith

    now_page : get_or (set pages (site / 16) a.count) (site / 16) none_at ≡ a.count
    now_page = get_or-set_same pages (site / 16) a.count none_at in_pages

    other_page : (p : ℕ) → p ≢ site / 16 → get_or (set pages (site / 16) a.count) p none_at ≡ get_or pages p none_at
    other_page p ne = get_or-set_other pages (site / 16) p a.count none_at ne

    pub entry_same : (i : ℕ) → paged_entry (set pages (site / 16) a.count) (entries ++ replicate 16 none_at) i ≡ paged_entry pages entries i
    entry_same i = padded entries 16 (get_or (set pages (site / 16) a.count) (i / 16) none_at * 16 + i % 16) none_at
        ∙ elim (cases_eq (i / 16) (site / 16)) [
          | inl here ↦ get_or_past entries (get_or (set pages (site / 16) a.count) (i / 16) none_at * 16 + i % 16) none_at
              (let now = ap (λ (p : ℕ). get_or (set pages (site / 16) a.count) p none_at) here ∙ now_page in let whole = a.whole in omega arith)
              ∙ sym (entry_none i (ap (λ (p : ℕ). get_or pages p none_at) here ∙ none))
          | inr ne ↦ ap (λ (p : ℕ). get_or entries (p * 16 + i % 16) none_at) (other_page (i / 16) ne)
        ]

    pub entries_open : entries_of (set pages (site / 16) a.count) (entries ++ replicate 16 none_at) sites ≡ entries_of pages entries sites
    entries_open =
        let now : List ℕ = set pages (site / 16) a.count in
        let after : List ℕ = entries ++ replicate 16 none_at in
        let long = entries_length now after sites in
        let was = entries_length pages entries sites in
        ext_get_or none_at (entries_of now after sites) (entries_of pages entries sites) (omega arith)
        (λ i within. entries_at now after sites i none_at (omega arith)
        ∙ (entry_same i ∙ sym (entries_at pages entries sites i none_at (omega arith))))

    pub pages_open : ArePages (set pages (site / 16) a.count) (entries ++ replicate 16 none_at) sites
    pages_open = record {
      count = a.count + 1;
      whole = let long = length-append entries (replicate 16 none_at) in let more = length-replicate 16 none_at in let whole = a.whole in omega arith;
      few = omega arith;
      fits = a.fits;
      covers = let long = length-set pages (site / 16) a.count in let covers = a.covers in omega arith;
      within = λ p. elim (cases_eq p (site / 16)) [
        | inl here ↦ inr (let now = ap (λ (q : ℕ). get_or (set pages (site / 16) a.count) q none_at) here ∙ now_page in omega arith)
        | inr ne ↦ elim (a.within p) [
          | inl gone ↦ inl (other_page p ne ∙ gone)
          | inr there ↦ inr (let same = other_page p ne in omega arith)
        ]
      ];
      apart = λ p q some same. elim (cases_eq p (site / 16)) [
        | inl p_here ↦ elim (cases_eq q (site / 16)) [
          | inl q_here ↦ p_here ∙ sym q_here
          | inr q_ne ↦
              let now = ap (λ (r : ℕ). get_or (set pages (site / 16) a.count) r none_at) p_here ∙ now_page in
              let there = page_there q (λ gone. let kept = other_page q q_ne in omega arith) in
              let kept = other_page q q_ne in absurd (omega arith)
        ]
        | inr p_ne ↦ elim (cases_eq q (site / 16)) [
          | inl q_here ↦
              let now = ap (λ (r : ℕ). get_or (set pages (site / 16) a.count) r none_at) q_here ∙ now_page in
              let kept = other_page p p_ne in
              let there = page_there p (λ gone. some (kept ∙ gone)) in absurd (omega arith)
          | inr q_ne ↦ a.apart p q (λ gone. some (other_page p p_ne ∙ gone)) (sym (other_page p p_ne) ∙ (same ∙ other_page q q_ne))
        ]
      ];
      beyond = λ i le. entry_same i ∙ a.beyond i le;
    }

    pub opens : has (opened_of (set pages (site / 16) a.count) sites) site ≡ true
    opens = opened_at (set pages (site / 16) a.count) sites site lt ∙ lt-ltb (get_or (set pages (site / 16) a.count) (site / 16) none_at) none_at (let now = now_page in omega arith)

    pub keeps : (i : ℕ) → has (opened_of pages sites) i ≡ true → has (opened_of (set pages (site / 16) a.count) sites) i ≡ true
    keeps i is_open = elim (cases_eq (i / 16) (site / 16)) [
      | inl here ↦ absurd (open_page i is_open (ap (λ (p : ℕ). get_or pages p none_at) here ∙ none))
      | inr ne ↦
          let was = opened_within pages sites i is_open in
          opened_at (set pages (site / 16) a.count) sites i was.0 ∙ (ap (λ (p : ℕ). ltb p none_at) (other_page (i / 16) ne) ∙ was.1)
    ]

  -- more sites are in range
  module _ (more sites' : ℕ) (le : sites ≤ sites') (fits : sites' ≤ none_at) (covers : sites' ≤ 16 * (length pages + more)) where
    page_kept : (p : ℕ) → get_or (pages ++ replicate more none_at) p none_at ≡ get_or pages p none_at
    page_kept p = padded pages more p none_at

    entry_kept : (i : ℕ) → paged_entry (pages ++ replicate more none_at) entries i ≡ paged_entry pages entries i
    entry_kept i = ap (λ (p : ℕ). get_or entries (p * 16 + i % 16) none_at) (page_kept (i / 16))

    pub pages_wider : ArePages (pages ++ replicate more none_at) entries sites'
    pages_wider = record {
      count = a.count;
      whole = a.whole;
      few = a.few;
      fits = fits;
      covers = let long = length-append pages (replicate more none_at) in let n = length-replicate more none_at in omega arith;
      within = λ p. elim (a.within p) [
        | inl gone ↦ inl (page_kept p ∙ gone)
        | inr there ↦ inr (let same = page_kept p in omega arith)
      ];
      apart = λ p q some same. a.apart p q (λ gone. some (page_kept p ∙ gone)) (sym (page_kept p) ∙ (same ∙ page_kept q));
      beyond = λ i past. entry_kept i ∙ a.beyond i (omega arith);
    }

    entries_wider : entries_of (pages ++ replicate more none_at) entries sites' ≡ entries_of pages entries sites ++ replicate (sites' - sites) none_at
    entries_wider =
        let now : List ℕ = pages ++ replicate more none_at in
        let long = entries_length now entries sites' in
        let was = entries_length pages entries sites in
        let both = length-append (entries_of pages entries sites) (replicate (sites' - sites) none_at) in
        let rest = length-replicate (sites' - sites) none_at in
        ext_get_or none_at (entries_of now entries sites') (entries_of pages entries sites ++ replicate (sites' - sites) none_at) (omega arith)
        (λ i within.
        entries_at now entries sites' i none_at (omega arith)
        ∙ (entry_kept i
        ∙ sym (padded (entries_of pages entries sites) (sites' - sites) i none_at
        ∙ elim (cases_lt i sites) [
          | inl old ↦ entries_at pages entries sites i none_at old
          | inr past ↦ get_or_past (entries_of pages entries sites) i none_at (omega arith) ∙ sym (a.beyond i past)
        ])))

    pub widens : (old : Paged) → paged pages entries sites ≡ old → Widens old (paged (pages ++ replicate more none_at) entries sites')
    widens old is = record {
      more = sites' - sites;
      items = entries_wider ∙ ap (λ (x : Paged). x.items ++ replicate (sites' - sites) none_at) is;
      fits = let long = entries_length (pages ++ replicate more none_at) entries sites' in omega arith;
      opened = λ i is_open.
          let was = opened_within pages sites i (ap (λ (x : Paged). has x.opened i) is ∙ is_open) in
          let before = was.0 in
          opened_at (pages ++ replicate more none_at) sites' i (omega arith) ∙ (ap (λ (p : ℕ). ltb p none_at) (page_kept (i / 16)) ∙ was.1);
    }

-- nothing is in range that was not
pub widens_none : (f : Paged) → length f.items ≤ none_at → Widens f f
widens_none f fits = record { more = 0; items = sym (append-nil f.items); fits = fits; opened = λ i is_open. is_open }
