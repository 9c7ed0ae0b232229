use Rattle.std.proofs.Common.{◌≡◌, ◌≢◌, ℕ, ◌+◌, ◌-◌, ◌<◌, ◌≤◌, inl, inr, List, [], ◌∷◌, ◌++◌, length, get_or, set, Contains, refl, sym, ◌∙◌, ap, subst, arith}
use Rattle.std.proofs.lemmas.Bool.{cases_eq, cases_lt}
use Rattle.std.proofs.lemmas.List.{get_or-set_same, get_or-set_other, length-set, length_push, get_or_push, get_or_append_left, get_or_default}
use Rattle.std.proofs.lemmas.List.Elements.{Contains-get_or}
use Rattle.ld_graph.specs.Slots.{AreDistinct}
use Rattle.ld_graph.specs.Buckets.{bucket_of, bucket_at, LastBelow, IsIndexed, Emptied}

-- where a list has a number
pub place_of : (xs : List ℕ) (x : ℕ) → Contains xs x → (k : ℕ) × (k < length xs) × (get_or xs k 0 ≡ x)
place_of xs x h = (h.0, h.1, get_or_default xs h.0 0 x h.1 ∙ h.2)

-- a number at a place is in the list
pub found : (xs : List ℕ) (k x : ℕ) → k < length xs → get_or xs k 0 ≡ x → Contains xs x
found xs k x lt e = subst (λ (y : ℕ). Contains xs y) e (Contains-get_or xs k 0 lt)

-- one more number that was not there
pub distinct_push : (xs : List ℕ) (x : ℕ) → AreDistinct xs → (Contains xs x → ⊥) → AreDistinct (xs ++ x ∷ [])
distinct_push xs x d new i j li lj e =
    let long = length_push xs x in
    elim (cases_lt i (length xs)) [
      | inl a ↦ elim (cases_lt j (length xs)) [
        | inl b ↦ d i j a b (sym (get_or_append_left xs (x ∷ []) 0 i a) ∙ (e ∙ get_or_append_left xs (x ∷ []) 0 j b))
        | inr b ↦ absurd (new (found xs i x a
            (sym (get_or_append_left xs (x ∷ []) 0 i a) ∙ (e ∙ get_or_push xs x 0 j (omega arith)))))
      ]
      | inr a ↦ elim (cases_lt j (length xs)) [
        | inl b ↦ absurd (new (found xs j x b
            (sym (get_or_append_left xs (x ∷ []) 0 j b) ∙ (sym e ∙ get_or_push xs x 0 i (omega arith)))))
        | inr b ↦ omega arith
      ]
    ]

-- the walk through a bucket: the slot is not among those from the link on
pub record Sought (slots heads : List ℕ) (slot link : ℕ) : Type 0 where
  pub within : link ≤ length slots
  pub own : 0 < link → bucket_at slots (length heads) (link - 1) ≡ bucket_of slot (length heads)
  pub past : (j : ℕ) → link ≤ j → j < length slots → get_or slots j 0 ≢ slot

module _ {slots before heads : List ℕ} (d : IsIndexed slots before heads) (slot : ℕ) where
  pub sought_first : bucket_of slot (length heads) < length heads → (b link : ℕ) → b ≡ bucket_of slot (length heads)
      → get_or heads b 0 ≡ link → Sought slots heads slot link
  sought_first lt b link is e =
      let last : LastBelow slots (length heads) (length slots) (bucket_of slot (length heads)) link =
      subst (λ (x : ℕ). LastBelow slots (length heads) (length slots) (bucket_of slot (length heads)) x)
      (ap (λ (x : ℕ). get_or heads x 0) (sym is) ∙ e) (d.lasts (bucket_of slot (length heads)) lt) in
      record {
        within = last.within;
        own = last.own;
        past = λ j le l same. last.past j le l (ap (λ (x : ℕ). bucket_of x (length heads)) same);
      }

  pub sought_next : {link : ℕ} → Sought slots heads slot link → 0 < link → get_or slots (link - 1) 0 ≢ slot
      → (next : ℕ) → get_or before (link - 1) 0 ≡ next → Sought slots heads slot next × (next < link)
  sought_next {link} s some ne next e =
      let w = s.within in
      let last : LastBelow slots (length heads) (link - 1) (bucket_at slots (length heads) (link - 1)) next =
      subst (λ (x : ℕ). LastBelow slots (length heads) (link - 1) (bucket_at slots (length heads) (link - 1)) x)
      e (d.befores (link - 1) (omega arith)) in
      let i = last.within in (
        record {
          within = omega arith;
          own = λ p. last.own p ∙ s.own some;
          past = λ j le l same. elim (cases_lt j (link - 1)) [
            | inl lt ↦ last.past j le lt (ap (λ (x : ℕ). bucket_of x (length heads)) same ∙ sym (s.own some))
            | inr ge ↦ elim (cases_eq j (link - 1)) [
              | inl here ↦ ne (ap (λ (x : ℕ). get_or slots x 0) (sym here) ∙ same)
              | inr other ↦ s.past j (omega arith) l same
            ]
          ];
        },
        omega arith,
      )

pub sought_none : {slots heads : List ℕ} {slot link : ℕ} → Sought slots heads slot link → link ≡ 0 → Contains slots slot → ⊥
sought_none {slots} {heads} {slot} s e member =
    let at = place_of slots slot member in
    s.past at.0 (omega arith) at.1 at.2

-- a list that is longer by one
last_longer : {slots : List ℕ} {buckets bound bucket link : ℕ} (slot : ℕ) → LastBelow slots buckets bound bucket link → bound ≤ length slots
    → LastBelow (slots ++ slot ∷ []) buckets bound bucket link
last_longer {slots} {buckets} slot l le = let w = l.within in record {
  within = w;
  own = λ p. ap (λ (x : ℕ). bucket_of x buckets) (get_or_append_left slots (slot ∷ []) 0 _ (omega arith)) ∙ l.own p;
  past = λ j a b e. l.past j a b (sym (ap (λ (x : ℕ). bucket_of x buckets) (get_or_append_left slots (slot ∷ []) 0 j (omega arith))) ∙ e);
}

-- the bound one higher, where the slot there falls into another bucket
last_higher : {slots : List ℕ} {buckets bound bucket link : ℕ} → LastBelow slots buckets bound bucket link
    → bucket_at slots buckets bound ≢ bucket → LastBelow slots buckets (bound + 1) bucket link
last_higher {slots} {buckets} {bound} {bucket} l ne = let w = l.within in record {
  within = omega arith;
  own = l.own;
  past = λ j a b. elim (cases_eq j bound) [
    | inl e ↦ subst (λ (x : ℕ). bucket_at slots buckets x ≢ bucket) (sym e) ne
    | inr other ↦ l.past j a (omega arith)
  ];
}

module _ {slots before heads : List ℕ} (d : IsIndexed slots before heads) (slot b : ℕ) (is : b ≡ bucket_of slot (length heads)) (lt : b < length heads) where
  last_slot : bucket_at (slots ++ slot ∷ []) (length heads) (length slots) ≡ b
  last_slot = ap (λ (x : ℕ). bucket_of x (length heads)) (get_or_push slots slot 0 (length slots) refl) ∙ sym is

  new_lasts : (c : ℕ) → c < length heads
      → LastBelow (slots ++ slot ∷ []) (length heads) (length slots + 1) c (get_or (set heads b (length slots + 1)) c 0)
  new_lasts c within = elim (cases_eq c b) [
    | inl e ↦ rw (e, get_or-set_same heads b (length slots + 1) 0 lt) (record {
      within = omega arith;
      own = λ _. ap (λ (x : ℕ). bucket_at (slots ++ slot ∷ []) (length heads) x) (omega arith) ∙ last_slot;
      past = λ j p q. absurd (omega arith);
    })
    | inr ne ↦ rw (get_or-set_other heads b c (length slots + 1) 0 ne)
        (last_higher (last_longer slot (d.lasts c within) (omega arith)) (λ e. ne (sym e ∙ last_slot)))
  ]

  new_befores : (p : ℕ) → p < length (slots ++ slot ∷ [])
      → LastBelow (slots ++ slot ∷ []) (length heads) p (bucket_at (slots ++ slot ∷ []) (length heads) p) (get_or (before ++ get_or heads b 0 ∷ []) p 0)
  new_befores p within = let long = length_push slots slot in let same = d.lengths in elim (cases_lt p (length slots)) [
    | inl l ↦ rw (get_or_append_left before (get_or heads b 0 ∷ []) 0 p (omega arith), get_or_append_left slots (slot ∷ []) 0 p l)
        (last_longer slot (d.befores p l) (omega arith))
    | inr g ↦
        let e : length slots ≡ p = omega arith in
        rw (get_or_push before (get_or heads b 0) 0 p (omega arith), sym e, last_slot) (last_longer slot (d.lasts b lt) (omega arith))
  ]

  pub indexed_push : (Contains slots slot → ⊥) → (last count : ℕ) → get_or heads b 0 ≡ last → length slots + 1 ≡ count
      → IsIndexed (slots ++ slot ∷ []) (before ++ last ∷ []) (set heads b count)
  indexed_push new last count e n = rw (← e, ← n) (record {
    distinct = distinct_push slots slot d.distinct new;
    lengths = length_push before (get_or heads b 0) ∙ (ap (λ (x : ℕ). x + 1) d.lengths ∙ sym (length_push slots slot));
    lasts = rw (length-set heads b (length slots + 1), length_push slots slot) new_lasts;
    befores = rw (length-set heads b (length slots + 1)) new_befores;
  })

-- an empty list
pub indexed_none : (heads : List ℕ) → ((b : ℕ) → b < length heads → get_or heads b 0 ≡ 0) → IsIndexed [] [] heads
indexed_none heads zeros = record {
  distinct = λ i j li lj e. absurd (omega arith);
  lengths = refl;
  lasts = λ b lt. rw (zeros b lt) (record {
    within = omega arith;
    own = λ p. absurd (omega arith);
    past = λ j p q. absurd (omega arith);
  });
  befores = λ p lt. absurd (omega arith);
}

pub emptied_none : (slots heads : List ℕ) → Emptied slots heads heads 0
emptied_none slots heads = record { len = refl; gone = λ k lt. absurd (omega arith); others = λ b. inr refl }

pub emptied_more : {slots heads0 heads : List ℕ} {count : ℕ} → Emptied slots heads0 heads count → (b : ℕ)
    → b ≡ bucket_at slots (length heads0) count → b < length heads0 → Emptied slots heads0 (set heads b 0) (count + 1)
emptied_more {slots} {heads0} {heads} {count} m b is lt =
    let len = m.len in
    let after : (c : ℕ) → get_or heads c 0 ≡ 0 → get_or (set heads b 0) c 0 ≡ 0 = λ c zero. elim (cases_eq c b) [
      | inl e ↦ ap (λ (x : ℕ). get_or (set heads b 0) x 0) e ∙ get_or-set_same heads b 0 0 (omega arith)
      | inr ne ↦ get_or-set_other heads b c 0 0 ne ∙ zero
    ] in
    record {
      len = length-set heads b 0 ∙ len;
      gone = λ k l. elim (cases_eq k count) [
        | inl e ↦ ap (λ (x : ℕ). get_or (set heads b 0) x 0) (ap (λ (x : ℕ). bucket_at slots (length heads0) x) e ∙ sym is)
            ∙ get_or-set_same heads b 0 0 (omega arith)
        | inr ne ↦ after (bucket_at slots (length heads0) k) (m.gone k (omega arith))
      ];
      others = λ c. elim (m.others c) [
        | inl zero ↦ inl (after c zero)
        | inr same ↦ elim (cases_eq c b) [
          | inl e ↦ inl (ap (λ (x : ℕ). get_or (set heads b 0) x 0) e ∙ get_or-set_same heads b 0 0 (omega arith))
          | inr ne ↦ inr (get_or-set_other heads b c 0 0 ne ∙ same)
        ]
      ];
    }

pub emptied_all : {slots before heads0 heads : List ℕ} {count : ℕ} → IsIndexed slots before heads0 → Emptied slots heads0 heads count
    → length slots ≤ count → IsIndexed [] [] heads
emptied_all {slots} {before} {heads0} {heads} {count} d m le =
    let len = m.len in
    indexed_none heads (λ b lt. elim (m.others b) [
      | inl zero ↦ zero
      | inr same ↦ elim (cases_eq (get_or heads0 b 0) 0) [
        | inl none ↦ same ∙ none
        | inr more ↦
            let last = d.lasts b (omega arith) in
            let w = last.within in
            ap (λ (x : ℕ). get_or heads x 0) (sym (last.own (omega arith))) ∙ m.gone (get_or heads0 b 0 - 1) (omega arith)
      ]
    ])
