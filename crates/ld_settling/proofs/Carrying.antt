-- What settles in one system settles in another of whose situations some stand for its own.
use Rattle.std.proofs.Common.{◌≡◌, refl, sym, ap, ap₂, subst, ◌∙◌, ℕ, zero, suc, ◌+◌, ◌*◌, inl, inr, List, [], ◌∷◌, ◌++◌, map, length, sum_by, Bool, true, false, cond, arith}
use Rattle.std.proofs.lemmas.List.{map-append, length-map}
use Rattle.std.proofs.lemmas.List.Sums.{sum_by-cons}
use Rattle.ld_cascade.specs.System.{System, fires}
use Rattle.ld_graph.specs.Table.{has}
use Rattle.ld_cascade.specs.Wiring.{Wiring}
use Rattle.ld_cascade.specs.Work.{IsStirred, Spends, meets, sum_below, visits, visits_weight, weight, weight_of, work}
use Rattle.ld_cascade.proofs.Sums.{sum_same}
use Rattle.ld_state.proofs.Elements.{contains_from_in, from_map, in_from_contains}
use Rattle.ld_cascade.specs.Settling.{Firing, PassesBudget, Settles, all_firings, after_sweeps, changes_of, counted, fired, fired_below, step, sums_of, swept, sweep_firings, visited}

-- Each situation of the first system stands for one of the second: its sites fire alike, and their firings
-- do the same.
pub record Carries (z y : System) (carry : z.Situation → y.Situation) : Type 0 where
  pub count : (t : z.Situation) → y.count (carry t) ≡ z.count t
  pub fires : (t : z.Situation) (i : ℕ) → fires y (carry t) i ≡ fires z t i
  pub after : (t : z.Situation) (i : ℕ) → y.after (carry t) i ≡ carry (z.after t i)
  pub rejected : (t : z.Situation) (i : ℕ) → y.rejected (carry t) i ≡ z.rejected t i
  pub sent : (t : z.Situation) (i : ℕ) → y.sent (carry t) i ≡ z.sent t i
  pub reads : (t : z.Situation) (i : ℕ) → y.reads (carry t) i ≡ z.reads t i
  pub changed : (t : z.Situation) (i : ℕ) → y.changed (carry t) i ≡ z.changed t i
  pub there : (t : z.Situation) (i : ℕ) → y.is_site (carry t) i ≡ z.is_site t i
  pub size : (t : z.Situation) (i : ℕ) → y.size (carry t) i ≡ z.size t i
  pub cost : (t : z.Situation) (i : ℕ) → y.cost (carry t) i ≡ z.cost t i

-- A firing in the words of the other system.
abbrev pub carried : (z y : System) → (z.Situation → y.Situation) → Firing z → Firing y
carried z y carry f = record { before = carry f.before; site = f.site }

sum_carried : {A B : Type 0} (f : A → B) (of_one : A → ℕ) (of_other : B → ℕ) → ((x : A) → of_other (f x) ≡ of_one x) → (xs : List A)
    → sum_by of_other (map f xs) ≡ sum_by of_one xs
sum_carried f of_one of_other same [] = refl
sum_carried f of_one of_other same (x ∷ xs) =
    sum_by-cons of_other (f x) (map f xs)
    ∙ ap₂ (λ first rest. first + rest) (same x) (sum_carried f of_one of_other same xs)
    ∙ sym (sum_by-cons of_one x xs)

none_carried : {A B : Type 0} (f : A → B) (xs : List A) → map f xs ≡ [] → xs ≡ []
none_carried f [] none = refl
none_carried f (x ∷ xs) none = absurd (cc)

module _ {z y : System} {carry : z.Situation → y.Situation} (carries : Carries z y carry) where
  step_carried : (t : z.Situation) (i : ℕ) → step y (carry t) i ≡ carry (step z t i)
  step_carried t i =
      ap₂ (λ b (after : y.Situation). cond b after (carry t)) (carries.fires t i) (carries.after t i) ∙ by (fires z t i)
    where
      by : (b : Bool) → cond b (carry (z.after t i)) (carry t) ≡ carry (cond b (z.after t i) t)
      by true = refl
      by false = refl

  fired_carried : (t : z.Situation) (i : ℕ) → fired y (carry t) i ≡ map (carried z y carry) (fired z t i)
  fired_carried t i = ap (λ b. cond b (record { before = carry t; site = i } ∷ []) []) (carries.fires t i) ∙ by (fires z t i)
    where
      by : (b : Bool) → cond b (record { before = carry t; site = i } ∷ []) [] ≡ map (carried z y carry) (cond b (record { before = t; site = i } ∷ []) [])
      by true = refl
      by false = refl

  pub visited_carried : (t : z.Situation) (n : ℕ) → visited y (carry t) n ≡ carry (visited z t n)
  unfolding visited
  visited_carried t zero = refl
  visited_carried t (suc n) = ap (λ u. step y u n) (visited_carried t n) ∙ step_carried (visited z t n) n

  pub fired_below_carried : (t : z.Situation) (n : ℕ) → fired_below y (carry t) n ≡ map (carried z y carry) (fired_below z t n)
  unfolding fired_below
  fired_below_carried t zero = refl
  fired_below_carried t (suc n) =
      ap₂ (λ before last. before ++ last) (fired_below_carried t n)
      (ap (λ u. fired y u n) (visited_carried t n) ∙ fired_carried (visited z t n) n)
      ∙ sym (map-append (carried z y carry) (fired_below z t n) (fired z (visited z t n) n))

  swept_carried : (t : z.Situation) → swept y (carry t) ≡ carry (swept z t)
  swept_carried t = ap (visited y (carry t)) (carries.count t) ∙ visited_carried t (z.count t)

  pub sweep_carried : (t : z.Situation) → sweep_firings y (carry t) ≡ map (carried z y carry) (sweep_firings z t)
  sweep_carried t = ap (fired_below y (carry t)) (carries.count t) ∙ fired_below_carried t (z.count t)

  pub sweeps_carried : (t : z.Situation) (k : ℕ) → after_sweeps y (carry t) k ≡ carry (after_sweeps z t k)
  unfolding after_sweeps
  sweeps_carried t zero = refl
  sweeps_carried t (suc k) = ap (swept y) (sweeps_carried t k) ∙ swept_carried (after_sweeps z t k)

  -- The firings of the sweep after this many.
  turn_carried : (t : z.Situation) (k : ℕ)
      → sweep_firings y (after_sweeps y (carry t) k) ≡ map (carried z y carry) (sweep_firings z (after_sweeps z t k))
  turn_carried t k = ap (sweep_firings y) (sweeps_carried t k) ∙ sweep_carried (after_sweeps z t k)

  pub firings_carried : (t : z.Situation) (k : ℕ) → all_firings y (carry t) k ≡ map (carried z y carry) (all_firings z t k)
  unfolding all_firings
  firings_carried t zero = refl
  firings_carried t (suc k) =
      ap₂ (λ before last. before ++ last) (firings_carried t k) (turn_carried t k)
      ∙ sym (map-append (carried z y carry) (all_firings z t k) (sweep_firings z (after_sweeps z t k)))

  -- There are as many firings, which reject and send as much.
  pub sums_carried : (t : z.Situation) (k : ℕ) → sums_of y (all_firings y (carry t) k) ≡ sums_of z (all_firings z t k)
  sums_carried t k = ap (sums_of y) (firings_carried t k) ∙ (λ i. counted (fired_same i) (rejected_same i) (sent_same i))
    where
      fs : List (Firing z)
      fs = all_firings z t k

      fired_same : length (map (carried z y carry) fs) ≡ length fs
      fired_same = length-map fs (carried z y carry)

      rejected_same : sum_by (λ f. y.rejected f.before f.site) (map (carried z y carry) fs) ≡ sum_by (λ f. z.rejected f.before f.site) fs
      rejected_same = sum_carried (carried z y carry) (λ f. z.rejected f.before f.site) (λ f. y.rejected f.before f.site) (λ f. carries.rejected f.before f.site) fs

      sent_same : sum_by (λ f. y.sent f.before f.site) (map (carried z y carry) fs) ≡ sum_by (λ f. z.sent f.before f.site) fs
      sent_same = sum_carried (carried z y carry) (λ f. z.sent f.before f.site) (λ f. y.sent f.before f.site) (λ f. carries.sent f.before f.site) fs

  -- A sweep fires nothing in the one where it fires nothing in the other; so does the one after this many.
  pub quiet_carried : (t : z.Situation) → sweep_firings z t ≡ [] → sweep_firings y (carry t) ≡ []
  quiet_carried t none = sweep_carried t ∙ ap (map (carried z y carry)) none

  pub quiet_back : (t : z.Situation) → sweep_firings y (carry t) ≡ [] → sweep_firings z t ≡ []
  quiet_back t none = none_carried (carried z y carry) (sweep_firings z t) (sym (sweep_carried t) ∙ none)

  pub rests_carried : (t : z.Situation) (k : ℕ) → sweep_firings z (after_sweeps z t k) ≡ [] → sweep_firings y (after_sweeps y (carry t) k) ≡ []
  rests_carried t k none = ap (sweep_firings y) (sweeps_carried t k) ∙ quiet_carried (after_sweeps z t k) none

  pub rests_back : (t : z.Situation) (k : ℕ) → sweep_firings y (after_sweeps y (carry t) k) ≡ [] → sweep_firings z (after_sweeps z t k) ≡ []
  rests_back t k none = quiet_back (after_sweeps z t k) (sym (ap (sweep_firings y) (sweeps_carried t k)) ∙ none)

  -- What settles in the one settles in the other, in as many turns.
  pub settles_carried : (t : z.Situation) (budget turns : ℕ) → Settles z t budget turns → Settles y (carry t) budget turns
  settles_carried t budget turns settles = record {
    within = settles.within;
    before = λ n less none. settles.before n less (rests_back t n none);
    quiet = rests_carried t turns settles.quiet;
  }

  pub settles_back : (t : z.Situation) (budget turns : ℕ) → Settles y (carry t) budget turns → Settles z t budget turns
  settles_back t budget turns settles = record {
    within = settles.within;
    before = λ n less none. settles.before n less (rests_carried t n none);
    quiet = rests_back t turns settles.quiet;
  }

  -- And what passes the budget passes it in both.
  pub passes_carried : (t : z.Situation) (budget : ℕ) → PassesBudget z t budget → PassesBudget y (carry t) budget
  passes_carried t budget passes = λ k most none. passes k most (rests_back t k none)

  pub passes_back : (t : z.Situation) (budget : ℕ) → PassesBudget y (carry t) budget → PassesBudget z t budget
  passes_back t budget passes = λ k most none. passes k most (rests_carried t k none)

  -- ---- what it tells

  pub changes_carried : (fs : List (Firing z)) → changes_of y (map (carried z y carry) fs) ≡ changes_of z fs
  changes_carried [] = refl
  changes_carried (f ∷ fs) = ap₂ (λ (first rest : List ℕ). first ++ rest) (carries.changed f.before f.site) (changes_carried fs)

  -- ---- what it spends

  visits_same : (t : z.Situation) (i j : ℕ) → visits y (carry t) i j ≡ visits z t i j
  visits_same t i j = ap₂ meets (carries.reads t j) (carries.changed t i)

  weight_same : (t : z.Situation) (i : ℕ) → weight y (carry t) i ≡ weight z t i
  weight_same t i = ap₂ (λ there size. cond there (size + 1) 0) (carries.there t i) (carries.size t i)

  weights_same : (t : z.Situation) (n : ℕ) (table : List Bool) → weight_of y (carry t) n table ≡ weight_of z t n table
  weights_same t n table =
      sum_same n (λ i. cond (has table i) (weight y (carry t) i) 0) (λ i. cond (has table i) (weight z t i) 0)
      (λ i. ap (λ n. cond (has table i) n 0) (weight_same t i))

  visits_weight_same : (t : z.Situation) (i : ℕ) → visits_weight y (carry t) i ≡ visits_weight z t i
  visits_weight_same t i =
      ap (λ n. sum_below n (λ j. cond (visits y (carry t) i j) (weight y (carry t) j) 0)) (carries.count t)
      ∙ sum_same (z.count t) (λ j. cond (visits y (carry t) i j) (weight y (carry t) j) 0) (λ j. cond (visits z t i j) (weight z t j) 0)
      (λ j. ap₂ (λ b n. cond b n 0) (visits_same t i j) (weight_same t j))

  pub work_carried : (fs : List (Firing z)) → work y (map (carried z y carry) fs) ≡ work z fs
  work_carried fs =
      sum_carried (carried z y carry) (λ f. 3 * visits_weight z f.before f.site + z.cost f.before f.site)
      (λ f. 3 * visits_weight y f.before f.site + y.cost f.before f.site)
      (λ f. ap₂ (λ weight cost. 3 * weight + cost) (visits_weight_same f.before f.site) (carries.cost f.before f.site)) fs

  stirred_back : (fs : List (Firing z)) (dirty : List Bool) (i : ℕ) → IsStirred y (map (carried z y carry) fs) dirty i → IsStirred z fs dirty i
  stirred_back fs dirty i stirred = elim stirred [
    | inl was ↦ inl was
    | inr v ↦
        let from = from_map (carried z y carry) fs v.0 (in_from_contains (map (carried z y carry) fs) v.0 v.1) in
        inr (
          from.element,
          contains_from_in fs from.element from.inside,
          sym (visits_same from.element.before from.element.site i)
              ∙ subst (λ (f : Firing y). visits y f.before f.site i ≡ true) (sym from.is) v.2,
        )
  ]

  -- What a settling spends it spends in both.
  pub spends_back : (t : z.Situation) (fs : List (Firing z)) (old now : Wiring) (before after : ℕ)
      → Spends y (carry t) (map (carried z y carry) fs) old now before after → Spends z t fs old now before after
  spends_back t fs old now before after spends = record {
    ticks = omega (arith, spends.ticks, weights_same t old.sites old.dirty, work_carried fs);
    stirs = record {
      dirty = λ i is_in. stirred_back fs old.dirty i (spends.stirs.dirty i is_in);
      relinked = λ i is_in. elim (spends.stirs.relinked i is_in) [
        | inl was ↦ inl was
        | inr stirred ↦ inr (stirred_back fs old.dirty i stirred)
      ];
    };
  }
