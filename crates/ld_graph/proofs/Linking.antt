use Rattle.std.proofs.Common.{◌≡◌, ◌≢◌, ℕ, ◌<◌, ◌⊎◌, inl, inr, List, length, get_or, set, refl, sym, ◌∙◌, ap, subst, arith}
use Rattle.std.proofs.lemmas.Bool.{cases_eq, cases_lt}
use Rattle.std.proofs.lemmas.List.{get_or-set_same, get_or-set_other, length-set, get_or_past, get_or_default}
use Rattle.ld_graph.specs.Linked.{none_at, LeadsThrough, Linkage}
use Rattle.ld_graph.proofs.Moves.{moved, led_by, slot_less, slot_more}

-- a column in which one entry changed
at_same : (keys : List ℕ) (e to f : ℕ) → e < length keys → f ≡ e → get_or (set keys e to) f none_at ≡ to
at_same keys e to f lt q = ap (λ (z : ℕ). get_or (set keys e to) z none_at) q ∙ get_or-set_same keys e to none_at lt

at_other : (keys : List ℕ) (e to f : ℕ) → f ≢ e → get_or (set keys e to) f none_at ≡ get_or keys f none_at
at_other keys e to f ne = get_or-set_other keys e f to none_at ne

module _ {slots sites next before site_next firsts site_firsts : List ℕ} {free : ℕ} (l : Linkage slots sites next before site_next firsts site_firsts free) where
  -- the first edges of the sites' lists and of the list of the free ones
  abbrev Key : ℕ → Type 0
  Key t = (t < length site_firsts) ⊎ (t ≡ none_at)

  pub free_first_is : get_or site_firsts none_at free ≡ free
  free_first_is = get_or_past site_firsts none_at free l.sites_fit

  -- the first edge of a site
  pub site_edge : (i e : ℕ) → i < length site_firsts → get_or site_firsts i none_at ≡ e → e ≢ none_at → (e < length slots) × (get_or sites e none_at ≡ i)
  site_edge i e lt is some =
      let fit = l.edges_fit in let a = l.site_next_len in let b = l.sites_len in let c = l.sites_fit in
      let r = led_by site_next sites (omega arith) (omega arith) (λ t. get_or site_firsts t free) Key l.by_site
      i none_at e (inl lt) (inr refl) (λ q. omega arith) (get_or_default site_firsts i free none_at lt ∙ is) some in
      let there = r.0 in
      (omega arith, r.1)

  -- the first free edge
  pub free_edge : free ≢ none_at → (i : ℕ) → i < length site_firsts → (free < length slots) × (get_or sites free none_at ≡ none_at)
  free_edge some i lt =
      let fit = l.edges_fit in let a = l.site_next_len in let b = l.sites_len in let c = l.sites_fit in
      let r = led_by site_next sites (omega arith) (omega arith) (λ t. get_or site_firsts t free) Key l.by_site
      none_at i free (inr refl) (inl lt) (λ q. omega arith) free_first_is some in
      let there = r.0 in
      (omega arith, r.1)

  -- a site's first edge goes to the free ones
  pub linkage_less : (i e : ℕ) → i < length site_firsts → get_or site_firsts i none_at ≡ e → e ≢ none_at → (firsts' : List ℕ)
      → (get_or before e none_at ≡ none_at → firsts' ≡ set firsts (get_or slots e none_at) (get_or next e none_at))
      → (get_or before e none_at ≢ none_at → firsts' ≡ firsts)
      → Linkage (set slots e none_at) (set sites e none_at) (set next (get_or before e none_at) (get_or next e none_at))
      (set before (get_or next e none_at) (get_or before e none_at)) (set site_next e free) firsts' (set site_firsts i (get_or site_next e none_at)) e
  linkage_less i e lt is some firsts' front_case mid_case =
      let fit = l.edges_fit in let a = l.site_next_len in let b = l.sites_len in let c = l.sites_fit in
      let d = l.slots_fit in let f = l.next_len in let g = l.before_len in
      let edge = site_edge i e lt is some in
      let there : e < length slots = edge.0 in
      let of_site : get_or sites e none_at ≢ none_at = λ q. let p = edge.1 in omega arith in
      let slot_lt : get_or slots e none_at < length firsts = l.slot_there e there of_site in
      let firsts_len : length firsts' ≡ length firsts = elim (cases_eq (get_or before e none_at) none_at) [
        | inl q ↦ ap (λ (z : List ℕ). length z) (front_case q) ∙ length-set firsts (get_or slots e none_at) (get_or next e none_at)
        | inr q ↦ ap (λ (z : List ℕ). length z) (mid_case q)
      ] in
      let sets = length-set slots e none_at in
      let sets_sites = length-set sites e none_at in
      let sets_next = length-set next (get_or before e none_at) (get_or next e none_at) in
      let sets_before = length-set before (get_or next e none_at) (get_or before e none_at) in
      let sets_site_next = length-set site_next e free in
      let sets_firsts = length-set site_firsts i (get_or site_next e none_at) in
      let not_taken : (h : ℕ) → get_or (set sites e none_at) h none_at ≢ none_at → h ≢ e = λ h ne q. ne (at_same sites e none_at h (omega arith) q) in
      let was_some : (h : ℕ) → get_or (set sites e none_at) h none_at ≢ none_at → get_or sites h none_at ≢ none_at =
      λ h ne q. ne (at_other sites e none_at h (not_taken h ne) ∙ q) in
      record {
        edges_fit = omega arith;
        slots_fit = omega arith;
        sites_fit = omega arith;
        sites_len = omega arith;
        next_len = omega arith;
        before_len = omega arith;
        site_next_len = omega arith;
        by_slot = λ s within. slot_less next before slots (omega arith) (omega arith) (omega arith) firsts l.slots_fit l.by_slot e (get_or slots e none_at)
            there refl slot_lt firsts' front_case mid_case s (omega arith);
        by_site = λ t key. subst (λ (z : ℕ). LeadsThrough (set site_next e z) (set sites e none_at) (get_or (set site_firsts i (get_or site_next e none_at)) t e) t) free_first_is
            (moved site_next sites (omega arith) (omega arith) (λ u. get_or site_firsts u free) Key l.by_site
            i none_at e (inl lt) (inr refl) (λ q. omega arith) (get_or_default site_firsts i free none_at lt ∙ is) some
            (λ u. get_or (set site_firsts i (get_or site_next e none_at)) u e)
            (get_or-set_same site_firsts i (get_or site_next e none_at) e lt)
            (get_or_past (set site_firsts i (get_or site_next e none_at)) none_at e (omega arith))
            (λ u ukey not_i not_none. get_or-set_other site_firsts i u (get_or site_next e none_at) e not_i
            ∙ elim ukey [ inl within ↦ get_or_default site_firsts u e free within | inr no_site ↦ absurd (not_none no_site) ])
            t (elim key [ inl within ↦ inl (omega arith) | inr no_site ↦ inr no_site ]));
        slot_there = λ h within ne.
            let old = l.slot_there h (omega arith) (was_some h ne) in
            let same = at_other slots e none_at h (not_taken h ne) in
            omega arith;
        site_there = λ h within ne.
            let old = l.site_there h (omega arith) (was_some h ne) in
            let same = at_other sites e none_at h (not_taken h ne) in
            omega arith;
        no_slot = λ h q. elim (cases_eq h e) [
          | inl here ↦ at_same slots e none_at h there here
          | inr other ↦ at_other slots e none_at h other ∙ l.no_slot h (sym (at_other sites e none_at h other) ∙ q)
        ];
        once = λ h k ne slot_same site_same.
            let h_other = not_taken h ne in
            let k_other = not_taken k (λ q. ne (site_same ∙ q)) in
            l.once h k (was_some h ne) (sym (at_other slots e none_at h h_other) ∙ (slot_same ∙ at_other slots e none_at k k_other))
            (sym (at_other sites e none_at h h_other) ∙ (site_same ∙ at_other sites e none_at k k_other));
      }

  -- the first free edge goes to a slot and a site
  pub linkage_more : (s i : ℕ) → s < length firsts → i < length site_firsts → free ≢ none_at
      → ((h : ℕ) → h < length slots → get_or slots h none_at ≡ s → get_or sites h none_at ≡ i → ⊥)
      → Linkage (set slots free s) (set sites free i) (set next free (get_or firsts s none_at))
      (set (set before free none_at) (get_or firsts s none_at) free) (set site_next free (get_or site_firsts i none_at))
      (set firsts s free) (set site_firsts i free) (get_or site_next free none_at)
  linkage_more s i slot_lt lt some new =
      let fit = l.edges_fit in let a = l.site_next_len in let b = l.sites_len in let c = l.sites_fit in
      let d = l.slots_fit in let f = l.next_len in let g = l.before_len in
      let edge = free_edge some i lt in
      let there : free < length slots = edge.0 in
      let no_site : get_or sites free none_at ≡ none_at = edge.1 in
      let sets = length-set slots free s in
      let sets_sites = length-set sites free i in
      let sets_next = length-set next free (get_or firsts s none_at) in
      let sets_before = length-set before free none_at in
      let sets_before_too = length-set (set before free none_at) (get_or firsts s none_at) free in
      let sets_site_next = length-set site_next free (get_or site_firsts i none_at) in
      let sets_firsts = length-set firsts s free in
      let sets_site_firsts = length-set site_firsts i free in
      let taken : (h : ℕ) → get_or slots h none_at ≡ s → get_or sites h none_at ≡ i → ⊥ = λ h slot_is site_is. elim (cases_lt h (length slots)) [
        | inl within ↦ new h within slot_is site_is
        | inr past ↦ let q = get_or_past slots h none_at past in omega arith
      ] in
      record {
        edges_fit = omega arith;
        slots_fit = omega arith;
        sites_fit = omega arith;
        sites_len = omega arith;
        next_len = omega arith;
        before_len = omega arith;
        site_next_len = omega arith;
        by_slot = λ t within. slot_more next before slots (omega arith) (omega arith) (omega arith) firsts l.slots_fit l.by_slot free s
            there (l.no_slot free no_site) slot_lt t (omega arith);
        by_site = λ t key. subst (λ (z : ℕ). LeadsThrough (set site_next free z) (set sites free i) (get_or (set site_firsts i free) t (get_or site_next free none_at)) t)
            (get_or_default site_firsts i free none_at lt)
            (moved site_next sites (omega arith) (omega arith) (λ u. get_or site_firsts u free) Key l.by_site
            none_at i free (inr refl) (inl lt) (λ q. omega arith) free_first_is some
            (λ u. get_or (set site_firsts i free) u (get_or site_next free none_at))
            (get_or_past (set site_firsts i free) none_at (get_or site_next free none_at) (omega arith))
            (get_or-set_same site_firsts i free (get_or site_next free none_at) lt)
            (λ u ukey not_none not_i. get_or-set_other site_firsts i u free (get_or site_next free none_at) not_i
            ∙ elim ukey [ inl within ↦ get_or_default site_firsts u (get_or site_next free none_at) free within | inr is_none ↦ absurd (not_none is_none) ])
            t (elim key [ inl within ↦ inl (omega arith) | inr is_none ↦ inr is_none ]));
        slot_there = λ h within ne. elim (cases_eq h free) [
          | inl here ↦ let same = at_same slots free s h there here in omega arith
          | inr other ↦
              let old = l.slot_there h (omega arith) (λ q. ne (at_other sites free i h other ∙ q)) in
              let same = at_other slots free s h other in
              omega arith
        ];
        site_there = λ h within ne. elim (cases_eq h free) [
          | inl here ↦ let same = at_same sites free i h (omega arith) here in omega arith
          | inr other ↦
              let old = l.site_there h (omega arith) (λ q. ne (at_other sites free i h other ∙ q)) in
              let same = at_other sites free i h other in
              omega arith
        ];
        no_slot = λ h q. elim (cases_eq h free) [
          | inl here ↦ let same = at_same sites free i h (omega arith) here in absurd (omega arith)
          | inr other ↦ at_other slots free s h other ∙ l.no_slot h (sym (at_other sites free i h other) ∙ q)
        ];
        once = λ h k ne slot_same site_same. elim (cases_eq h free) [
          | inl h_here ↦ elim (cases_eq k free) [
            | inl k_here ↦ h_here ∙ sym k_here
            | inr k_other ↦ absurd (taken k
                (sym (at_other slots free s k k_other) ∙ (sym slot_same ∙ at_same slots free s h there h_here))
                (sym (at_other sites free i k k_other) ∙ (sym site_same ∙ at_same sites free i h (omega arith) h_here)))
          ]
          | inr h_other ↦ elim (cases_eq k free) [
            | inl k_here ↦ absurd (taken h
                (sym (at_other slots free s h h_other) ∙ (slot_same ∙ at_same slots free s k there k_here))
                (sym (at_other sites free i h h_other) ∙ (site_same ∙ at_same sites free i k (omega arith) k_here)))
            | inr k_other ↦ l.once h k (λ q. ne (at_other sites free i h h_other ∙ q))
                (sym (at_other slots free s h h_other) ∙ (slot_same ∙ at_other slots free s k k_other))
                (sym (at_other sites free i h h_other) ∙ (site_same ∙ at_other sites free i k k_other))
          ]
        ];
      }
