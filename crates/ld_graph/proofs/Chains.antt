use Rattle.std.proofs.Common.{◌≡◌, ◌≢◌, ℕ, ◌<◌, ◌≤◌, ◌⊎◌, inl, inr, List, [], ◌∷◌, ◌++◌, length, get_or, set, refl, sym, ◌∙◌, ap, subst, arith, length-append}
use Rattle.std.proofs.lemmas.List.{get_or-set_same, get_or-set_other, length-set, set-set}
use Rattle.ld_graph.specs.Linked.{none_at, Among, Follows, FollowsBack}

-- a list that has a number, parted there
pub among_split : (xs : List ℕ) (x : ℕ) → Among xs x → (a : List ℕ) × (b : List ℕ) × (xs ≡ a ++ x ∷ b)
among_split [] x h = absurd h
among_split (y ∷ ys) x h = elim h [
  | inl e ↦ ([], ys, ap (λ (z : ℕ). z ∷ ys) e)
  | inr h' ↦ let r = among_split ys x h' in (y ∷ r.0, r.1, ap (λ (z : List ℕ). y ∷ z) r.2)
]

pub among_left : (xs ys : List ℕ) (x : ℕ) → Among xs x → Among (xs ++ ys) x
among_left [] ys x h = absurd h
among_left (y ∷ xs) ys x h = elim h [ inl e ↦ inl e | inr h' ↦ inr (among_left xs ys x h') ]

pub among_right : (xs ys : List ℕ) (x : ℕ) → Among ys x → Among (xs ++ ys) x
among_right [] ys x h = h
among_right (y ∷ xs) ys x h = inr (among_right xs ys x h)

pub among_cases : (xs ys : List ℕ) (x : ℕ) → Among (xs ++ ys) x → Among xs x ⊎ Among ys x
among_cases [] ys x h = inr h
among_cases (y ∷ xs) ys x h = elim h [
  | inl e ↦ inl (inl e)
  | inr h' ↦ elim (among_cases xs ys x h') [ inl a ↦ inl (inr a) | inr b ↦ inr b ]
]

-- no number comes again after its place
abbrev pub Fresh : List ℕ → Type 0
Fresh [] = Unit {0}
Fresh (x ∷ xs) = (Among xs x → ⊥) × Fresh xs

-- two lists along the same links
pub follows_same : (next : List ℕ) → length next ≤ none_at → (first : ℕ) (xs ys : List ℕ) → Follows next first xs → Follows next first ys → xs ≡ ys
follows_same next fits first [] [] f g = refl
follows_same next fits first [] (y ∷ ys) f g = let a = g.0 in let b = g.1 in absurd (omega arith)
follows_same next fits first (x ∷ xs) [] f g = let a = f.0 in let b = f.1 in absurd (omega arith)
follows_same next fits first (x ∷ xs) (y ∷ ys) f g =
    let e : x ≡ y = sym f.0 ∙ g.0 in
    let tail : xs ≡ ys = follows_same next fits (get_or next x none_at) xs ys f.2
    (subst (λ (z : ℕ). Follows next (get_or next z none_at) ys) (sym e) g.2) in
    ap (λ (z : ℕ). z ∷ xs) e ∙ ap (λ (z : List ℕ). y ∷ z) tail

pub follows_suffix : (next : List ℕ) (first : ℕ) (a : List ℕ) (x : ℕ) (b : List ℕ) → Follows next first (a ++ x ∷ b) → Follows next x (x ∷ b)
follows_suffix next first [] x b f = (refl, f.1, f.2)
follows_suffix next first (y ∷ a) x b f = follows_suffix next (get_or next y none_at) a x b f.2

follows_new : (next : List ℕ) → length next ≤ none_at → (first x : ℕ) (xs : List ℕ) → Follows next first (x ∷ xs) → Among xs x → ⊥
follows_new next fits first x xs f h =
    let p = among_split xs x h in
    let g : Follows next x (x ∷ p.1) = follows_suffix next (get_or next x none_at) p.0 x p.1 (subst (λ (z : List ℕ). Follows next (get_or next x none_at) z) p.2 f.2) in
    let e : xs ≡ p.1 = follows_same next fits (get_or next x none_at) xs p.1 f.2 g.2 in
    let m : length p.1 ≡ length (p.0 ++ x ∷ p.1) = ap (λ (z : List ℕ). length z) (sym e ∙ p.2) in
    let n = length-append p.0 (x ∷ p.1) in
    omega arith

pub follows_fresh : (next : List ℕ) → length next ≤ none_at → (first : ℕ) (xs : List ℕ) → Follows next first xs → Fresh xs
follows_fresh next fits first [] f = tt
follows_fresh next fits first (x ∷ xs) f = (follows_new next fits first x xs f, follows_fresh next fits (get_or next x none_at) xs f.2)

pub follows_within : (next : List ℕ) (first : ℕ) (xs : List ℕ) → Follows next first xs → (x : ℕ) → Among xs x → x < length next
follows_within next first [] f x h = absurd h
follows_within next first (y ∷ ys) f x h = elim h [
  | inl e ↦ subst (λ (z : ℕ). z < length next) e f.1
  | inr h' ↦ follows_within next (get_or next y none_at) ys f.2 x h'
]

-- a link changed at an edge that is not in the list
pub follows_kept : (next : List ℕ) (e v first : ℕ) (xs : List ℕ) → Follows next first xs → (Among xs e → ⊥) → Follows (set next e v) first xs
follows_kept next e v first [] f new = f
follows_kept next e v first (x ∷ xs) f new = (
  f.0,
  subst (λ (n : ℕ). x < n) (sym (length-set next e v)) f.1,
  subst (λ (z : ℕ). Follows (set next e v) z xs) (sym (get_or-set_other next e x v none_at (λ q. new (inl q))))
      (follows_kept next e v (get_or next x none_at) xs f.2 (λ h. new (inr h))),
)

-- one way of a list that is linked both ways
pub forget : (next before : List ℕ) (prior first : ℕ) (xs : List ℕ) → FollowsBack next before prior first xs → Follows next first xs
forget next before prior first [] f = f
forget next before prior first (x ∷ xs) f = (f.0, f.1, forget next before x (get_or next x none_at) xs f.3)

-- links changed at edges that are not in the list
pub back_kept : (next before : List ℕ) (a v b w prior first : ℕ) (xs : List ℕ) → FollowsBack next before prior first xs
    → (Among xs a → ⊥) → (Among xs b → ⊥) → FollowsBack (set next a v) (set before b w) prior first xs
back_kept next before a v b w prior first [] f new_a new_b = f
back_kept next before a v b w prior first (x ∷ xs) f new_a new_b = (
  f.0,
  subst (λ (n : ℕ). x < n) (sym (length-set next a v)) f.1,
  get_or-set_other before b x w none_at (λ q. new_b (inl q)) ∙ f.2,
  subst (λ (z : ℕ). FollowsBack (set next a v) (set before b w) x z xs) (sym (get_or-set_other next a x v none_at (λ q. new_a (inl q))))
      (back_kept next before a v b w x (get_or next x none_at) xs f.3 (λ h. new_a (inr h)) (λ h. new_b (inr h))),
)

-- the edge that one before an edge names
pub prior_in : (next before : List ℕ) (prior first : ℕ) (front : List ℕ) (e : ℕ) (back : List ℕ) → FollowsBack next before prior first (front ++ e ∷ back)
    → ((front ≡ []) × (get_or before e none_at ≡ prior)) ⊎ Among front (get_or before e none_at)
prior_in next before prior first [] e back f = inl (refl, f.2)
prior_in next before prior first (x ∷ xs) e back f = elim (prior_in next before x (get_or next x none_at) xs e back f.3) [
  | inl q ↦ inr (inl (sym q.1))
  | inr q ↦ inr (inr q)
]

head_in : (next before : List ℕ) (e first : ℕ) (back : List ℕ) → FollowsBack next before e first back → (first ≡ none_at) ⊎ Among back first
head_in next before e first [] f = inl f
head_in next before e first (y ∷ ys) f = inr (inl (sym f.0))

pub next_in : (next before : List ℕ) (prior first : ℕ) (front : List ℕ) (e : ℕ) (back : List ℕ) → FollowsBack next before prior first (front ++ e ∷ back)
    → (get_or next e none_at ≡ none_at) ⊎ Among back (get_or next e none_at)
next_in next before prior first [] e back f = head_in next before e (get_or next e none_at) back f.3
next_in next before prior first (x ∷ xs) e back f = next_in next before x (get_or next x none_at) xs e back f.3

-- the first of a list after an edge is taken out of it, which is the first where some stand before it
abbrev pub first_after : List ℕ → ℕ → ℕ → ℕ
first_after [] first next = next
first_after (x ∷ xs) first next = first

-- an edge is taken out
module _ (next before : List ℕ) (fits : length next ≤ none_at) (same : length before ≡ length next) (e : ℕ) where
  back_from : (prior : ℕ) (back : List ℕ) → FollowsBack next before e (get_or next e none_at) back → Fresh back → (Among back prior → ⊥)
      → get_or before e none_at ≡ prior
      → FollowsBack (set next (get_or before e none_at) (get_or next e none_at)) (set before (get_or next e none_at) (get_or before e none_at))
      prior (get_or next e none_at) back
  back_from prior [] f fresh new is = f
  back_from prior (y ∷ ys) f fresh new is =
      let here : get_or next e none_at ≡ y = f.0 in
      let lt : y < length next = f.1 in (
        here,
        subst (λ (n : ℕ). y < n) (sym (length-set next (get_or before e none_at) (get_or next e none_at))) lt,
        subst (λ (z : ℕ). get_or (set before (get_or next e none_at) (get_or before e none_at)) z none_at ≡ prior) here
            (get_or-set_same before (get_or next e none_at) (get_or before e none_at) none_at (omega arith) ∙ is),
        subst (λ (z : ℕ). FollowsBack (set next (get_or before e none_at) (get_or next e none_at)) (set before (get_or next e none_at) (get_or before e none_at)) y z ys)
            (sym (get_or-set_other next (get_or before e none_at) y (get_or next e none_at) none_at (λ q. new (inl (q ∙ is)))))
            (back_kept next before (get_or before e none_at) (get_or next e none_at) (get_or next e none_at) (get_or before e none_at) y (get_or next y none_at) ys f.3
            (λ h. new (inr (subst (λ (z : ℕ). Among ys z) is h)))
            (λ h. fresh.0 (subst (λ (z : ℕ). Among ys z) here h))),
      )

  next_after : (back : List ℕ) (x : ℕ) → x < length next → (front : List ℕ) → FollowsBack next before x (get_or next x none_at) (front ++ e ∷ back)
      → (Among (front ++ e ∷ back) x → ⊥)
      → get_or (set next (get_or before e none_at) (get_or next e none_at)) x none_at ≡ first_after front (get_or next x none_at) (get_or next e none_at)
  next_after back x lt [] f new =
      let is : get_or before e none_at ≡ x = f.2 in
      subst (λ (z : ℕ). get_or (set next (get_or before e none_at) (get_or next e none_at)) z none_at ≡ get_or next e none_at) is
      (get_or-set_same next (get_or before e none_at) (get_or next e none_at) none_at (omega arith))
  next_after back x lt (z ∷ zs) f new =
      get_or-set_other next (get_or before e none_at) x (get_or next e none_at) none_at
      (λ q. elim (prior_in next before x (get_or next x none_at) (z ∷ zs) e back f) [
        | inl none ↦ absurd (let no : z ∷ zs ≡ [] = none.0 in cc)
        | inr h ↦ new (subst (λ (u : ℕ). Among (z ∷ zs ++ e ∷ back) u) (sym q) (among_left (z ∷ zs) (e ∷ back) (get_or before e none_at) h))
      ])

  pub back_removed : (back : List ℕ) (prior first : ℕ) (front : List ℕ) → FollowsBack next before prior first (front ++ e ∷ back)
      → Fresh (front ++ e ∷ back) → (Among (front ++ e ∷ back) prior → ⊥)
      → FollowsBack (set next (get_or before e none_at) (get_or next e none_at)) (set before (get_or next e none_at) (get_or before e none_at))
      prior (first_after front first (get_or next e none_at)) (front ++ back)
  back_removed back prior first [] f fresh new = back_from prior back f.3 fresh.1 (λ h. new (inr h)) f.2
  back_removed back prior first (x ∷ xs) f fresh new =
      let lt : x < length next = f.1 in (
        f.0,
        subst (λ (n : ℕ). x < n) (sym (length-set next (get_or before e none_at) (get_or next e none_at))) lt,
        get_or-set_other before (get_or next e none_at) x (get_or before e none_at) none_at
            (λ q. elim (next_in next before x (get_or next x none_at) xs e back f.3) [
              | inl gone ↦ omega arith
              | inr h ↦ fresh.0 (subst (λ (u : ℕ). Among (xs ++ e ∷ back) u) (sym q) (among_right xs (e ∷ back) (get_or next e none_at) (inr h)))
            ]) ∙ f.2,
        subst (λ (z : ℕ). FollowsBack (set next (get_or before e none_at) (get_or next e none_at)) (set before (get_or next e none_at) (get_or before e none_at)) x z (xs ++ back))
            (sym (next_after back x lt xs f.3 fresh.0))
            (back_removed back x (get_or next x none_at) xs f.3 fresh.1 fresh.0),
      )

-- an edge is put before the first
module _ (next before : List ℕ) (fits : length next ≤ none_at) (same : length before ≡ length next) (e first : ℕ) (there : e < length next) where
  push_from : (xs : List ℕ) → FollowsBack next before none_at first xs → Fresh xs → (Among xs e → ⊥)
      → FollowsBack (set next e first) (set (set before e none_at) first e) e first xs
  push_from [] f fresh new = f
  push_from (y ∷ ys) f fresh new =
      let here : first ≡ y = f.0 in
      let lt : y < length next = f.1 in
      let len = length-set before e none_at in (
        here,
        subst (λ (n : ℕ). y < n) (sym (length-set next e first)) lt,
        subst (λ (z : ℕ). get_or (set (set before e none_at) first e) z none_at ≡ e) here (get_or-set_same (set before e none_at) first e none_at (omega arith)),
        subst (λ (z : ℕ). FollowsBack (set next e first) (set (set before e none_at) first e) y z ys)
            (sym (get_or-set_other next e y first none_at (λ q. new (inl q))))
            (subst (λ (n : List ℕ). FollowsBack n (set (set before e none_at) first e) y (get_or next y none_at) ys) (set-set next e first first)
            (back_kept (set next e first) (set before e none_at) e first first e y (get_or next y none_at) ys
            (back_kept next before e first e none_at y (get_or next y none_at) ys f.3 (λ h. new (inr h)) (λ h. new (inr h)))
            (λ h. new (inr h))
            (λ h. fresh.0 (subst (λ (z : ℕ). Among ys z) here h)))),
      )

  pub back_pushed : (xs : List ℕ) → FollowsBack next before none_at first xs → Fresh xs → (Among xs e → ⊥) → first ≢ e
      → FollowsBack (set next e first) (set (set before e none_at) first e) none_at e (e ∷ xs)
  back_pushed xs f fresh new ne = (
    refl,
    subst (λ (n : ℕ). e < n) (sym (length-set next e first)) there,
    get_or-set_other (set before e none_at) first e e none_at (λ q. ne (sym q)) ∙ get_or-set_same before e none_at none_at (omega arith),
    subst (λ (z : ℕ). FollowsBack (set next e first) (set (set before e none_at) first e) e z xs) (sym (get_or-set_same next e first none_at there))
        (push_from xs f fresh new),
  )
