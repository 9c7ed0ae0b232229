use Rattle.std.proofs.Common.{◌≡◌, ◌≢◌, ℕ, ◌<◌, ◌≤◌, ◌⊎◌, inl, inr, List, [], ◌∷◌, ◌++◌, length, get_or, set, refl, sym, ◌∙◌, ap, subst, arith}
use Rattle.std.proofs.lemmas.Bool.{cases_eq}
use Rattle.std.proofs.lemmas.List.{get_or-set_same, get_or-set_other, length-set, set-set}
use Rattle.ld_graph.specs.Linked.{none_at, Among, Follows, FollowsBack, AreKeyed, LeadsThrough, LeadsBackThrough}
use Rattle.ld_graph.proofs.Chains.{Fresh, among_split, among_left, among_right, among_cases, follows_fresh, follows_within, follows_kept, forget, back_kept, prior_in, next_in, first_after, back_removed, back_pushed}

-- a number that is in the list and one that is not
pub other_than : (xs : List ℕ) (a b : ℕ) → Among xs a → (Among xs b → ⊥) → a ≢ b
other_than xs a b h new e = new (subst (λ (z : ℕ). Among xs z) e h)

-- edges that go from one key to another: the key of one edge changes
module _ (keys : List ℕ) (e to : ℕ) (there : e < length keys) where
  -- a list of the edges of a key that is neither
  pub keyed_kept : (edges : List ℕ) (key : ℕ) → AreKeyed keys edges key → key ≢ to → (Among edges e → ⊥) → get_or keys e none_at ≢ key
      → AreKeyed (set keys e to) edges key
  keyed_kept edges key k ne new was = record {
    all = λ f lt is. elim (cases_eq f e) [
      | inl same ↦ absurd (ne (sym is ∙ (ap (λ (z : ℕ). get_or (set keys e to) z none_at) same ∙ get_or-set_same keys e to none_at there)))
      | inr other ↦ k.all f (subst (λ (n : ℕ). f < n) (length-set keys e to) lt) (sym (get_or-set_other keys e f to none_at other) ∙ is)
    ];
    only = λ f h. get_or-set_other keys e f to none_at (other_than edges f e h new) ∙ k.only f h;
  }

  -- the list that it comes into
  pub keyed_more : (edges : List ℕ) → AreKeyed keys edges to → (Among edges e → ⊥) → AreKeyed (set keys e to) (e ∷ edges) to
  keyed_more edges k new = record {
    all = λ f lt is. elim (cases_eq f e) [
      | inl same ↦ inl (sym same)
      | inr other ↦ inr (k.all f (subst (λ (n : ℕ). f < n) (length-set keys e to) lt) (sym (get_or-set_other keys e f to none_at other) ∙ is))
    ];
    only = λ f h. elim h [
      | inl same ↦ ap (λ (z : ℕ). get_or (set keys e to) z none_at) (sym same) ∙ get_or-set_same keys e to none_at there
      | inr old ↦ get_or-set_other keys e f to none_at (other_than edges f e old new) ∙ k.only f old
    ];
  }

  -- the list that it leaves
  pub keyed_less : (front back : List ℕ) (key : ℕ) → AreKeyed keys (front ++ e ∷ back) key → key ≢ to → (Among (front ++ back) e → ⊥)
      → AreKeyed (set keys e to) (front ++ back) key
  keyed_less front back key k ne new = record {
    all = λ f lt is. elim (cases_eq f e) [
      | inl same ↦ absurd (ne (sym is ∙ (ap (λ (z : ℕ). get_or (set keys e to) z none_at) same ∙ get_or-set_same keys e to none_at there)))
      | inr other ↦ elim (among_cases front (e ∷ back) f
          (k.all f (subst (λ (n : ℕ). f < n) (length-set keys e to) lt) (sym (get_or-set_other keys e f to none_at other) ∙ is))) [
            | inl a ↦ among_left front back f a
            | inr b ↦ elim b [ inl same ↦ absurd (other (sym same)) | inr c ↦ among_right front back f c ]
          ]
    ];
    only = λ f h. get_or-set_other keys e f to none_at (other_than (front ++ back) f e h new) ∙ k.only f (elim (among_cases front back f h) [
      | inl a ↦ among_left front (e ∷ back) f a
      | inr b ↦ among_right front (e ∷ back) f (inr b)
    ]);
  }

-- an edge that is taken out of a list is not in what is left
pub gone_from : (front back : List ℕ) (e : ℕ) → Fresh (front ++ e ∷ back) → Among (front ++ back) e → ⊥
gone_from [] back e fresh h = fresh.0 h
gone_from (x ∷ xs) back e fresh h = elim h [
  | inl same ↦ fresh.0 (subst (λ (z : ℕ). Among (xs ++ e ∷ back) z) (sym same) (among_right xs (e ∷ back) e (inl refl)))
  | inr rest ↦ gone_from xs back e fresh.1 rest
]

-- the list that a first edge leads, without it
led : (next : List ℕ) (first e : ℕ) (xs : List ℕ) → Follows next first xs → first ≡ e → e ≢ none_at
    → (rest : List ℕ) × (xs ≡ e ∷ rest) × (e < length next) × Follows next (get_or next e none_at) rest
led next first e [] f is some = absurd (some (sym is ∙ f))
led next first e (x ∷ xs) f is some =
    let here : x ≡ e = sym f.0 ∙ is in (
      xs,
      ap (λ (z : ℕ). z ∷ xs) here,
      subst (λ (z : ℕ). z < length next) here f.1,
      subst (λ (z : ℕ). Follows next (get_or next z none_at) xs) here f.2,
    )

-- the first edge of one list goes to the head of another
module _ (next keys : List ℕ) (fits : length next ≤ none_at) (same : length keys ≡ length next)
    (first : ℕ → ℕ) (Key : ℕ → Type 0) (holds : (t : ℕ) → Key t → LeadsThrough next keys (first t) t)
    (from to e : ℕ) (key_from : Key from) (key_to : Key to) (apart : from ≢ to) (is : first from ≡ e) (some : e ≢ none_at) where
  -- the edge has the key of the list that it leads
  pub led_by : (e < length keys) × (get_or keys e none_at ≡ from)
  led_by =
      let h = holds from key_from in
      let l = led next (first from) e h.edges h.follows is some in
      let lt = l.2 in
      (omega arith, h.keyed.only e (subst (λ (z : List ℕ). Among z e) (sym l.1) (inl refl)))

  pub moved : (first' : ℕ → ℕ) → first' from ≡ get_or next e none_at → first' to ≡ e
      → ((t : ℕ) → Key t → t ≢ from → t ≢ to → first' t ≡ first t)
      → (t : ℕ) → Key t → LeadsThrough (set next e (first to)) (set keys e to) (first' t) t
  moved first' left come others t key = elim (cases_eq t from) [
    | inl at_from ↦ subst (λ (z : ℕ). LeadsThrough (set next e (first to)) (set keys e to) (first' z) z) (sym at_from)
        (let h = holds from key_from in
        let l = led next (first from) e h.edges h.follows is some in
        let fresh : Fresh (e ∷ l.0) = follows_fresh next fits (first from) (e ∷ l.0) (subst (λ (z : List ℕ). Follows next (first from) z) l.1 h.follows) in
        record {
          edges = l.0;
          follows = subst (λ (z : ℕ). Follows (set next e (first to)) z l.0) (sym left)
              (follows_kept next e (first to) (get_or next e none_at) l.0 l.3 fresh.0);
          keyed = keyed_less keys e to led_by.0 [] l.0 from (subst (λ (z : List ℕ). AreKeyed keys z from) l.1 h.keyed) apart fresh.0;
        })
    | inr not_from ↦ elim (cases_eq t to) [
      | inl at_to ↦ subst (λ (z : ℕ). LeadsThrough (set next e (first to)) (set keys e to) (first' z) z) (sym at_to)
          (let h = holds to key_to in
          let new : Among h.edges e → ⊥ = λ a. apart (sym led_by.1 ∙ h.keyed.only e a) in
          let lt = led_by.0 in
          record {
            edges = e ∷ h.edges;
            follows = (
              come,
              subst (λ (n : ℕ). e < n) (sym (length-set next e (first to))) (omega arith),
              subst (λ (z : ℕ). Follows (set next e (first to)) z h.edges) (sym (get_or-set_same next e (first to) none_at (omega arith)))
                  (follows_kept next e (first to) (first to) h.edges h.follows new),
            );
            keyed = keyed_more keys e to led_by.0 h.edges h.keyed new;
          })
      | inr not_to ↦
          let h = holds t key in
          let was : get_or keys e none_at ≢ t = λ q. not_from (sym q ∙ led_by.1) in
          let new : Among h.edges e → ⊥ = λ a. was (h.keyed.only e a) in
          record {
            edges = h.edges;
            follows = subst (λ (z : ℕ). Follows (set next e (first to)) z h.edges) (sym (others t key not_from not_to))
                (follows_kept next e (first to) (first t) h.edges h.follows new);
            keyed = keyed_kept keys e to led_by.0 h.edges t h.keyed not_to new was;
          }
    ]
  ]

-- the first edge is in the list
first_in : (next before : List ℕ) (prior first : ℕ) (xs : List ℕ) → FollowsBack next before prior first xs → (first ≡ none_at) ⊎ Among xs first
first_in next before prior first [] f = inl f
first_in next before prior first (x ∷ xs) f = inr (inl (sym f.0))

-- the lists of the slots
module _ (next before keys : List ℕ) (fits : length next ≤ none_at) (same_keys : length keys ≡ length next) (same_before : length before ≡ length next)
    (firsts : List ℕ) (slots_fit : length firsts ≤ none_at)
    (holds : (s : ℕ) → s < length firsts → LeadsBackThrough next before keys (get_or firsts s none_at) s) where
  -- an edge of one slot is in no list of another
  apart_from : (s t : ℕ) (a : s < length firsts) (b : t < length firsts) → s ≢ t → (x : ℕ)
      → (x ≡ none_at) ⊎ Among (holds s a).edges x → Among (holds t b).edges x → ⊥
  apart_from s t a b ne x one h =
      let k = holds t b in
      let lt : x < length next = follows_within next (get_or firsts t none_at) k.edges (forget next before none_at (get_or firsts t none_at) k.edges k.follows) x h in
      elim one [
        | inl none ↦ omega arith
        | inr g ↦ ne (sym ((holds s a).keyed.only x g) ∙ k.keyed.only x h)
      ]

  first_is : (e s : ℕ) (front back : List ℕ) → FollowsBack next before none_at (get_or firsts s none_at) (front ++ e ∷ back) → s < length firsts → (firsts' : List ℕ)
      → (get_or before e none_at ≡ none_at → firsts' ≡ set firsts s (get_or next e none_at)) → (get_or before e none_at ≢ none_at → firsts' ≡ firsts)
      → get_or firsts' s none_at ≡ first_after front (get_or firsts s none_at) (get_or next e none_at)
  first_is e s [] back f lt firsts' front_case mid_case =
      ap (λ (z : List ℕ). get_or z s none_at) (front_case f.2) ∙ get_or-set_same firsts s (get_or next e none_at) none_at lt
  first_is e s (x ∷ xs) back f lt firsts' front_case mid_case =
      ap (λ (z : List ℕ). get_or z s none_at) (mid_case (λ q. elim (prior_in next before none_at (get_or firsts s none_at) (x ∷ xs) e back f) [
        | inl nil ↦ absurd (let bad : x ∷ xs ≡ [] = nil.0 in cc)
        | inr a ↦
            let w = follows_within next (get_or firsts s none_at) (x ∷ xs ++ e ∷ back)
            (forget next before none_at (get_or firsts s none_at) (x ∷ xs ++ e ∷ back) f) (get_or before e none_at) (among_left (x ∷ xs) (e ∷ back) (get_or before e none_at) a) in
            omega arith
      ]))

  first_other : (e s t : ℕ) (firsts' : List ℕ) → t ≢ s
      → (get_or before e none_at ≡ none_at → firsts' ≡ set firsts s (get_or next e none_at)) → (get_or before e none_at ≢ none_at → firsts' ≡ firsts)
      → get_or firsts' t none_at ≡ get_or firsts t none_at
  first_other e s t firsts' ne front_case mid_case = elim (cases_eq (get_or before e none_at) none_at) [
    | inl q ↦ ap (λ (z : List ℕ). get_or z t none_at) (front_case q) ∙ get_or-set_other firsts s t (get_or next e none_at) none_at ne
    | inr q ↦ ap (λ (z : List ℕ). get_or z t none_at) (mid_case q)
  ]

  -- an edge is taken out of the list of its slot
  pub slot_less : (e s : ℕ) → e < length keys → get_or keys e none_at ≡ s → s < length firsts → (firsts' : List ℕ)
      → (get_or before e none_at ≡ none_at → firsts' ≡ set firsts s (get_or next e none_at)) → (get_or before e none_at ≢ none_at → firsts' ≡ firsts)
      → (t : ℕ) → t < length firsts → LeadsBackThrough (set next (get_or before e none_at) (get_or next e none_at)) (set before (get_or next e none_at) (get_or before e none_at))
      (set keys e none_at) (get_or firsts' t none_at) t
  slot_less e s there is lt firsts' front_case mid_case t within =
      let h = holds s lt in
      let p = among_split h.edges e (h.keyed.all e there is) in
      let f : FollowsBack next before none_at (get_or firsts s none_at) (p.0 ++ e ∷ p.1) =
      subst (λ (z : List ℕ). FollowsBack next before none_at (get_or firsts s none_at) z) p.2 h.follows in
      let one_way : Follows next (get_or firsts s none_at) (p.0 ++ e ∷ p.1) = forget next before none_at (get_or firsts s none_at) (p.0 ++ e ∷ p.1) f in
      let fresh : Fresh (p.0 ++ e ∷ p.1) = follows_fresh next fits (get_or firsts s none_at) (p.0 ++ e ∷ p.1) one_way in
      elim (cases_eq t s) [
        | inl here ↦ subst (λ (z : ℕ). LeadsBackThrough (set next (get_or before e none_at) (get_or next e none_at)) (set before (get_or next e none_at) (get_or before e none_at))
            (set keys e none_at) (get_or firsts' z none_at) z) (sym here)
            (record {
              edges = p.0 ++ p.1;
              follows = subst (λ (z : ℕ). FollowsBack (set next (get_or before e none_at) (get_or next e none_at)) (set before (get_or next e none_at) (get_or before e none_at)) none_at z (p.0 ++ p.1))
                  (sym (first_is e s p.0 p.1 f lt firsts' front_case mid_case))
                  (back_removed next before fits same_before e p.1 none_at (get_or firsts s none_at) p.0 f fresh
                  (λ a. let w = follows_within next (get_or firsts s none_at) (p.0 ++ e ∷ p.1) one_way none_at a in omega arith));
              keyed = keyed_less keys e none_at there p.0 p.1 s (subst (λ (z : List ℕ). AreKeyed keys z s) p.2 h.keyed) (λ q. omega arith)
                  (gone_from p.0 p.1 e fresh);
            })
        | inr other ↦
            let k = holds t within in
            let was : get_or keys e none_at ≢ t = λ q. other (sym q ∙ is) in
            let in_s : (x : ℕ) → Among (p.0 ++ e ∷ p.1) x → Among h.edges x = λ x a. subst (λ (z : List ℕ). Among z x) (sym p.2) a in
            record {
              edges = k.edges;
              follows = subst (λ (z : ℕ). FollowsBack (set next (get_or before e none_at) (get_or next e none_at)) (set before (get_or next e none_at) (get_or before e none_at)) none_at z k.edges)
                  (sym (first_other e s t firsts' other front_case mid_case))
                  (back_kept next before (get_or before e none_at) (get_or next e none_at) (get_or next e none_at) (get_or before e none_at) none_at (get_or firsts t none_at) k.edges k.follows
                  (apart_from s t lt within (λ q. other (sym q)) (get_or before e none_at)
                  (elim (prior_in next before none_at (get_or firsts s none_at) p.0 e p.1 f) [
                    | inl q ↦ inl q.1
                    | inr a ↦ inr (in_s (get_or before e none_at) (among_left p.0 (e ∷ p.1) (get_or before e none_at) a))
                  ]))
                  (apart_from s t lt within (λ q. other (sym q)) (get_or next e none_at)
                  (elim (next_in next before none_at (get_or firsts s none_at) p.0 e p.1 f) [
                    | inl q ↦ inl q
                    | inr a ↦ inr (in_s (get_or next e none_at) (among_right p.0 (e ∷ p.1) (get_or next e none_at) (inr a)))
                  ])));
              keyed = keyed_kept keys e none_at there k.edges t k.keyed (λ q. omega arith) (λ a. was (k.keyed.only e a)) was;
            }
      ]

  -- an edge of no slot is put before the first of a slot
  pub slot_more : (e s : ℕ) → e < length keys → get_or keys e none_at ≡ none_at → s < length firsts
      → (t : ℕ) → t < length firsts → LeadsBackThrough (set next e (get_or firsts s none_at)) (set (set before e none_at) (get_or firsts s none_at) e)
      (set keys e s) (get_or (set firsts s e) t none_at) t
  slot_more e s there is lt t within =
      let new : (u : ℕ) (b : u < length firsts) → Among (holds u b).edges e → ⊥ = λ u b a. let q : get_or keys e none_at ≡ u = (holds u b).keyed.only e a in omega arith in
      let h = holds s lt in
      let fresh : Fresh h.edges = follows_fresh next fits (get_or firsts s none_at) h.edges (forget next before none_at (get_or firsts s none_at) h.edges h.follows) in
      elim (cases_eq t s) [
        | inl here ↦ subst (λ (z : ℕ). LeadsBackThrough (set next e (get_or firsts s none_at)) (set (set before e none_at) (get_or firsts s none_at) e)
            (set keys e s) (get_or (set firsts s e) z none_at) z) (sym here)
            (record {
              edges = e ∷ h.edges;
              follows = subst (λ (z : ℕ). FollowsBack (set next e (get_or firsts s none_at)) (set (set before e none_at) (get_or firsts s none_at) e) none_at z (e ∷ h.edges))
                  (sym (get_or-set_same firsts s e none_at lt))
                  (back_pushed next before fits same_before e (get_or firsts s none_at) (omega arith) h.edges h.follows fresh (new s lt)
                  (λ q. elim (first_in next before none_at (get_or firsts s none_at) h.edges h.follows) [
                    | inl none ↦ omega arith
                    | inr a ↦ new s lt (subst (λ (z : ℕ). Among h.edges z) q a)
                  ]));
              keyed = keyed_more keys e s there h.edges h.keyed (new s lt);
            })
        | inr other ↦
            let k = holds t within in
            let was : get_or keys e none_at ≢ t = λ q. omega arith in
            record {
              edges = k.edges;
              follows = subst (λ (z : ℕ). FollowsBack (set next e (get_or firsts s none_at)) (set (set before e none_at) (get_or firsts s none_at) e) none_at z k.edges)
                  (sym (get_or-set_other firsts s t e none_at other))
                  (subst (λ (n : List ℕ). FollowsBack n (set (set before e none_at) (get_or firsts s none_at) e) none_at (get_or firsts t none_at) k.edges)
                  (set-set next e (get_or firsts s none_at) (get_or firsts s none_at))
                  (back_kept (set next e (get_or firsts s none_at)) (set before e none_at) e (get_or firsts s none_at) (get_or firsts s none_at) e none_at (get_or firsts t none_at) k.edges
                  (back_kept next before e (get_or firsts s none_at) e none_at none_at (get_or firsts t none_at) k.edges k.follows (new t within) (new t within))
                  (new t within)
                  (apart_from s t lt within (λ q. other (sym q)) (get_or firsts s none_at)
                  (first_in next before none_at (get_or firsts s none_at) h.edges h.follows))));
              keyed = keyed_kept keys e s there k.edges t k.keyed other (new t within) was;
            }
      ]
