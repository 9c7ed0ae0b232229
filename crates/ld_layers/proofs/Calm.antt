-- After this many sweeps no site whose number is at most as great fires any more.
use Rattle.std.proofs.Common.{◌≡◌, refl, sym, subst, ◌∙◌, ℕ, zero, suc, ◌<◌, ◌≤◌, inl, inr, List, [], ◌∷◌, Bool, true, false, cond, Contains, arith}
use Rattle.std.proofs.lemmas.Bool.{cases_eq, cases_lt, false≢true}
use Rattle.std.proofs.lemmas.List.Elements.{Contains-append_cases}
use Rattle.ld_cascade.specs.System.{System, fires}
use Rattle.ld_cascade.specs.Settling.{Firing, step, fired, visited, fired_below, swept, sweep_firings, after_sweeps, PassesBudget}
use Rattle.ld_layers.specs.Ranked.{IsRanked, IsAtMost, FiresInTime}

-- What a list of one element has.
only : {A : Type 0} → (x z : A) → Contains (x ∷ []) z → x ≡ z
only x z (zero, below, is) = is
only x z (suc k, below, is) = absurd (omega (arith, below))

nothing_there : {A : Type 0} → (xs : List A) → ((x : A) → Contains xs x → ⊥) → xs ≡ []
nothing_there [] none = refl
nothing_there (x ∷ xs) none = absurd (none x (zero, omega arith, refl))

module _ (y : System) (rank : y.Situation → ℕ → ℕ) (ranked : IsRanked y rank) where
  -- No site below the count whose number is at most k fires.
  abbrev Calm : y.Situation → ℕ → Type 0
  Calm s k = (j : ℕ) → j < y.count s → rank s j ≤ k → fires y s j ≡ false

  -- The count and the numbers are those of the earlier situation.
  record Follows (s t : y.Situation) : Type 0 where
    same_count : y.count t ≡ y.count s
    same_ranks : (j : ℕ) → rank t j ≡ rank s j

  -- Where a sweep stands after the visits of the sites below n: what was calm is so, and with it all that
  -- was visited and whose number is at most one more.
  record Sweeping (s t : y.Situation) (k n : ℕ) : Type 0 where
    follows : Follows s t
    calm : Calm t k
    visited_calm : (j : ℕ) → j < n → rank t j ≤ suc k → fires y t j ≡ false

  -- What fires has a greater number.
  greater : (s : y.Situation) (k i : ℕ) → Calm s k → i < y.count s → fires y s i ≡ true → k < rank s i
  greater s k i calm within is_due = elim (cases_lt k (rank s i)) [
    | inl more ↦ more
    | inr few ↦ absurd (false≢true (sym (calm i within few) ∙ is_due))
  ]

  -- A site that is calm and whose number is at most that of what fires stays calm.
  stays : (s : y.Situation) (i j : ℕ) → fires y s i ≡ true → fires y s j ≡ false → rank s j ≤ rank s i
      → fires y (y.after s i) j ≡ false
  stays s i j is_due quiet few = elim (cases_eq j i) [
    | inl same ↦ absurd (false≢true (sym quiet ∙ subst (λ m. fires y s m ≡ true) (sym same) is_due))
    | inr other ↦ ranked.spares s i j is_due other few quiet
  ]

  fires_next : (s t : y.Situation) (k n : ℕ) → n < y.count t → Sweeping s t k n → fires y t n ≡ true
      → Sweeping s (y.after t n) k (suc n)
  fires_next s t k n within so is_due =
      let more = greater t k n so.calm within is_due in
      let count = ranked.same_count t n is_due in
      record {
        follows = record {
          same_count = count ∙ so.follows.same_count;
          same_ranks = λ j. ranked.same_ranks t n j is_due ∙ so.follows.same_ranks j;
        };
        calm = λ j below few.
            let rank_j = ranked.same_ranks t n j is_due in
            stays t n j is_due (so.calm j (omega (arith, below, count)) (omega (arith, few, rank_j))) (omega (arith, few, rank_j, more));
        visited_calm = λ j below few.
            let rank_j = ranked.same_ranks t n j is_due in
            elim (cases_eq j n) [
              | inl same ↦ subst (λ m. fires y (y.after t n) m ≡ false) (sym same) (ranked.calms_itself t n is_due)
              | inr other ↦
                  stays t n j is_due (so.visited_calm j (omega (arith, below, other)) (omega (arith, few, rank_j)))
                  (omega (arith, few, rank_j, more))
            ];
      }

  rests_next : (s t : y.Situation) (k n : ℕ) → Sweeping s t k n → fires y t n ≡ false → Sweeping s t k (suc n)
  rests_next s t k n so quiet = record {
    follows = so.follows;
    calm = so.calm;
    visited_calm = λ j below few. elim (cases_eq j n) [
      | inl same ↦ subst (λ m. fires y t m ≡ false) (sym same) quiet
      | inr other ↦ so.visited_calm j (omega (arith, below, other)) few
    ];
  }

  next : (s t : y.Situation) (k n : ℕ) → n < y.count t → Sweeping s t k n → Sweeping s (step y t n) k (suc n)
  next s t k n within so = by (fires y t n) refl
    where
      by : (b : Bool) → fires y t n ≡ b → Sweeping s (cond b (y.after t n) t) k (suc n)
      by true is_due = fires_next s t k n within so is_due
      by false quiet = rests_next s t k n so quiet

  sweeping : (s : y.Situation) (k n : ℕ) → Calm s k → n ≤ y.count s → Sweeping s (visited y s n) k n
  unfolding visited
  sweeping s k zero calm within = record {
    follows = record { same_count = refl; same_ranks = λ j. refl };
    calm = calm;
    visited_calm = λ j below few. absurd (omega (arith, below));
  }
  sweeping s k (suc n) calm within =
      let so = sweeping s k n calm (omega (arith, within)) in
      next s (visited y s n) k n (omega (arith, within, so.follows.same_count)) so

  -- After a sweep all are calm whose number is at most one more.
  sweep_calms : (s : y.Situation) (k : ℕ) → Calm s k → Calm (swept y s) (suc k)
  sweep_calms s k calm j below few =
      let so = sweeping s k (y.count s) calm (omega arith) in
      so.visited_calm j (omega (arith, below, so.follows.same_count)) few

  -- Before the first sweep there is nothing of the number 0 that fires.
  calm_first : (s : y.Situation) → Calm s 0
  calm_first s j below few = by (fires y s j) refl
    where
      by : (b : Bool) → fires y s j ≡ b → fires y s j ≡ false
      by false quiet = quiet
      by true is_due = let one = ranked.from_one s j is_due in absurd (omega (arith, few, one))

  sweeps_calm : (s : y.Situation) (k : ℕ) → Calm (after_sweeps y s k) k
  unfolding after_sweeps
  sweeps_calm s zero = calm_first s
  sweeps_calm s (suc k) = sweep_calms (after_sweeps y s k) k (sweeps_calm s k)

  -- What is visited and fires has a greater number.
  fired_greater : (s t : y.Situation) (k n : ℕ) (f : Firing y) → n < y.count t → Sweeping s t k n
      → Contains (fired y t n) f → k < rank f.before f.site
  fired_greater s t k n f within so = by (fires y t n) refl
    where
      by : (b : Bool) → fires y t n ≡ b → Contains (cond b (record { before = t; site = n } ∷ []) []) f
          → k < rank f.before f.site
      by false quiet there = absurd (omega (arith, there.1))
      by true is_due there =
          let whole : Firing y = record { before = t; site = n } in
          subst (λ (g : Firing y). k < rank g.before g.site) (only whole f there) (greater t k n so.calm within is_due)

  firings_greater : (s : y.Situation) (k n : ℕ) (f : Firing y) → Calm s k → n ≤ y.count s
      → Contains (fired_below y s n) f → k < rank f.before f.site
  unfolding fired_below
  firings_greater s k zero f calm within there = absurd (omega (arith, there.1))
  firings_greater s k (suc n) f calm within there =
      elim (Contains-append_cases (fired_below y s n) (fired y (visited y s n) n) f there) [
        | inl early ↦ firings_greater s k n f calm (omega (arith, within)) early
        | inr last ↦ (let so = sweeping s k n calm (omega (arith, within)) in
            fired_greater s (visited y s n) k n f (omega (arith, within, so.follows.same_count)) so last)
      ]

  pub fires_in_time : (s : y.Situation) → FiresInTime y rank s
  fires_in_time s k f there =
      let t = after_sweeps y s k in
      firings_greater t k (y.count t) f (sweeps_calm s k) (omega arith) there

  -- ---- the budget

  -- What is listed as firing fires.
  fired_due : (t : y.Situation) (n : ℕ) (f : Firing y) → Contains (fired y t n) f
      → fires y f.before f.site ≡ true
  fired_due t n f = by (fires y t n) refl
    where
      by : (b : Bool) → fires y t n ≡ b → Contains (cond b (record { before = t; site = n } ∷ []) []) f
          → fires y f.before f.site ≡ true
      by false quiet there = absurd (omega (arith, there.1))
      by true is_due there =
          let whole : Firing y = record { before = t; site = n } in
          subst (λ (g : Firing y). fires y g.before g.site ≡ true) (only whole f there) is_due

  firings_due : (s : y.Situation) (n : ℕ) (f : Firing y) → Contains (fired_below y s n) f
      → fires y f.before f.site ≡ true
  unfolding fired_below
  firings_due s zero f there = absurd (omega (arith, there.1))
  firings_due s (suc n) f there =
      elim (Contains-append_cases (fired_below y s n) (fired y (visited y s n) n) f there) [
        | inl early ↦ firings_due s n f early
        | inr last ↦ fired_due (visited y s n) n f last
      ]

  -- Where nothing that fires has a greater number than the turns, the sweep after this many fires nothing.
  pub quiet_after : (turns : ℕ) → IsAtMost y rank turns → (s : y.Situation)
      → sweep_firings y (after_sweeps y s turns) ≡ []
  quiet_after turns most s =
      let t = after_sweeps y s turns in
      nothing_there (sweep_firings y t) (λ f there.
      let more = fires_in_time s turns f there in
      let few = most f.before f.site (firings_due t (y.count t) f there) in
      absurd (omega (arith, more, few)))

  pub never_passes : (turns : ℕ) → IsAtMost y rank turns → (s : y.Situation) → PassesBudget y s turns → ⊥
  never_passes turns most s passes = passes turns (omega arith) (quiet_after turns most s)
