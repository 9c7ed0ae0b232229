-- What a settling takes, and what restoring the sites that it linked would take, is no more than its steps.
use Rattle.std.proofs.Common.{◌≡◌, refl, sym, ap, subst, ◌∙◌, ℕ, zero, suc, ◌+◌, ◌-◌, ◌*◌, ◌≤◌, inl, inr, List, [], ◌∷◌, sum_by, Bool, true, false, cond, Contains, arith}
use Rattle.std.specs.List.{All}
use Rattle.std.proofs.Math.Nat.{le-max_left, le-max_right}
use Rattle.std.proofs.lemmas.Bool.{cases_Bool, cases_lt}
use Rattle.std.proofs.lemmas.List.Elements.{All-append, All-cons, All-head, All-nil, All-tail}
use Rattle.std.proofs.lemmas.List.Sums.{get_or-le-sum_by, sum_by-cons}
use Rattle.ld_graph.specs.Table.{has}
use Rattle.ld_cascade.specs.Settling.{Firing, after_sweeps, all_firings, fired, fired_below, sweep_firings, visited}
use Rattle.ld_cascade.specs.SettlingWork.{relinked_weight, firing_steps, settling_steps, width, width_of}
use Rattle.ld_cascade.specs.System.{Lawful, System, fires}
use Rattle.ld_cascade.specs.Wiring.{Wiring}
use Rattle.ld_cascade.specs.Work.{Spends, Stirs, sum_below, visits, visits_weight, weight, weight_of}
use Rattle.ld_cascade.proofs.Sums.{sum_below_add, sum_below_le, sum_below_more, sum_below_to, sum_same, sum_zero}
use Rattle.ld_cascade.proofs.Sweeps.{past_count, still_after, still_visited}

-- ---- sums

-- Sums over numbers and over a list may change places.
exchanged : {A : Type 0} (n : ℕ) (g : A → ℕ → ℕ) (xs : List A) → sum_below n (λ i. sum_by (λ x. g x i) xs) ≡ sum_by (λ x. sum_below n (g x)) xs
exchanged n g [] = sum_zero n
exchanged n g (x ∷ xs) =
    sum_same n (λ i. sum_by (λ z. g z i) (x ∷ xs)) (λ i. g x i + sum_by (λ z. g z i) xs) (λ i. sum_by-cons (λ z. g z i) x xs)
    ∙ sum_below_add n (g x) (λ i. sum_by (λ z. g z i) xs)
    ∙ ap (λ m. sum_below n (g x) + m) (exchanged n g xs)
    ∙ sym (sum_by-cons (λ z. sum_below n (g z)) x xs)

sum_one : {A : Type 0} (g : A → ℕ) (xs : List A) (x : A) → Contains xs x → g x ≤ sum_by g xs
sum_one g xs x there = omega (arith, get_or-le-sum_by g xs there.0 x there.1, ap g there.2)

-- Where each element has three of the one, and the other, at most, so have they all.
sums_both : {A : Type 0} (P : A → Type 0) (g h b : A → ℕ) → ((x : A) → P x → g x + h x ≤ b x) → (xs : List A) → All P xs
    → sum_by g xs + sum_by h xs ≤ sum_by b xs
sums_both P g h b le [] all = omega arith
sums_both P g h b le (x ∷ xs) all =
    let rest = sums_both P g h b le xs (All-tail P x xs all) in
    let one = le x (All-head P x xs all) in
    omega (arith, rest, one, sum_by-cons g x xs, sum_by-cons h x xs, sum_by-cons b x xs)

sum_four : (n : ℕ) (a b c : ℕ → ℕ) → ((i : ℕ) → 3 * a i + b i ≤ 4 * c i) → 3 * sum_below n a + sum_below n b ≤ 4 * sum_below n c
unfolding sum_below
sum_four zero a b c le = omega arith
sum_four (suc n) a b c le = omega (arith, sum_four n a b c le, le n)

-- ---- numbers from the count on

-- A number that is no site weighs nothing, so no sum over a table is more than that below the count.
pub weight_within : (y : System) → Lawful y → (s : y.Situation) → y.IsSound s → (n : ℕ) (table : List Bool)
    → weight_of y s n table ≤ weight_of y s (y.count s) table
weight_within y law s sound n table = elim (cases_lt n (y.count s)) [
  | inl below ↦ sum_below_to n (y.count s) W (omega (arith, below))
  | inr past ↦
      let e : y.count s + (n - y.count s) ≡ n = omega (arith, past) in
      let cut : sum_below n W ≡ sum_below (y.count s) W =
      subst (λ m. sum_below m W ≡ sum_below (y.count s) W) e (sum_below_more (y.count s) (n - y.count s) W zeros) in
      omega (arith, cut)
]
  where
    W : ℕ → ℕ
    W i = cond (has table i) (weight y s i) 0

    nothing : (b : Bool) → ◌≡◌ {A = ℕ} (cond b 0 0) 0
    nothing true = refl
    nothing false = refl

    zeros : (i : ℕ) → y.count s ≤ i → W i ≡ 0
    zeros i past = rw (past_count y law s i sound past) (nothing (has table i))

-- ---- the firings of a settling

-- The firing is of a sound situation with as many numbers.
record IsMet (y : System) (s : y.Situation) (f : Firing y) : Type 0 where
  pub sound : y.IsSound f.before
  pub count : y.count f.before ≡ y.count s

module _ (y : System) (law : Lawful y) (s : y.Situation) where
  fired_met : (t : y.Situation) → y.IsSound t → y.count t ≡ y.count s → (i : ℕ) → All (IsMet y s) (fired y t i)
  fired_met t sound count i = by (fires y t i)
    where
      by : (b : Bool) → All (IsMet y s) (cond b (record { before = t; site = i } ∷ []) [])
      by true = All-cons (IsMet y s) (record { before = t; site = i }) [] (record { sound = sound; count = count }) (All-nil (IsMet y s))
      by false = All-nil (IsMet y s)

  below_met : (t : y.Situation) → y.IsSound t → y.count t ≡ y.count s → (n : ℕ) → All (IsMet y s) (fired_below y t n)
  unfolding fired_below
  below_met t sound count zero = All-nil (IsMet y s)
  below_met t sound count (suc n) =
      let still = still_visited y law t sound n in
      All-append (IsMet y s) (fired_below y t n) (fired y (visited y t n) n) (below_met t sound count n)
      (fired_met (visited y t n) still.sound (still.same_count ∙ count) n)

  all_met : y.IsSound s → (k : ℕ) → All (IsMet y s) (all_firings y s k)
  unfolding all_firings
  all_met sound zero = All-nil (IsMet y s)
  all_met sound (suc k) =
      let t = after_sweeps y s k in
      let still = still_after y law s sound k in
      All-append (IsMet y s) (all_firings y s k) (sweep_firings y t) (all_met sound k)
      (below_met t still.sound still.same_count (y.count t))

  -- ---- the sites that are linked

  module _ (sound : y.IsSound s) (begun : y.Situation) (turns : ℕ) where
    relinked_at : (old now : Wiring) → Stirs y (all_firings y s turns) old now → (i : ℕ)
        → cond (has now.relinked i) (weight y begun i) 0
        ≤ cond (has old.relinked i) (weight y begun i) 0 + cond (has old.dirty i) (weight y begun i) 0
        + sum_by (λ f. cond (visits y f.before f.site i) (weight y begun i) 0) (all_firings y s turns)
    relinked_at old now stirs i = elim (cases_Bool (has now.relinked i)) [
      | inr out ↦ rw out (omega arith)
      | inl is_in ↦ elim (stirs.relinked i is_in) [
        | inl was ↦ rw (is_in, was) (omega arith)
        | inr stirred ↦ elim stirred [
          | inl dirty ↦ rw (is_in, dirty) (omega arith)
          | inr v ↦
              let one = sum_one (λ f. cond (visits y f.before f.site i) (weight y begun i) 0) (all_firings y s turns) v.0 v.1 in
              let here : cond (visits y v.0.before v.0.site i) (weight y begun i) 0 ≡ weight y begun i = rw v.2 refl in
              rw is_in (omega (arith, one, here))
        ]
      ]
    ]

    relinked_sum : (n : ℕ) (old now : Wiring) → Stirs y (all_firings y s turns) old now
        → weight_of y begun n now.relinked
        ≤ weight_of y begun n old.relinked + weight_of y begun n old.dirty
        + sum_by (λ f. sum_below n (λ i. cond (visits y f.before f.site i) (weight y begun i) 0)) (all_firings y s turns)
    relinked_sum n old now stirs =
        let fs = all_firings y s turns in
        let N : ℕ → ℕ = λ i. cond (has now.relinked i) (weight y begun i) 0 in
        let R : ℕ → ℕ = λ i. cond (has old.relinked i) (weight y begun i) 0 in
        let D : ℕ → ℕ = λ i. cond (has old.dirty i) (weight y begun i) 0 in
        let V : ℕ → ℕ = λ i. sum_by (λ f. cond (visits y f.before f.site i) (weight y begun i) 0) fs in
        let each = sum_below_le n N (λ i. R i + D i + V i) (λ i _. relinked_at old now stirs i) in
        let split = sum_below_add n (λ i. R i + D i) V in
        let again = sum_below_add n R D in
        let change = exchanged n (λ (f : Firing y) i. cond (visits y f.before f.site i) (weight y begun i) 0) fs in
        omega (arith, each, split, again, change)

    -- A site's share: three times for what is judged and read, and once for what is restored.
    share : (t : y.Situation) (b : Bool) (i : ℕ)
        → 3 * cond b (weight y t i) 0 + cond b (weight y begun i) 0 ≤ 4 * cond b (width y begun t i) 0
    share t true i = omega (arith, le-max_left (weight y begun i) (weight y t i), le-max_right (weight y begun i) (weight y t i))
    share t false i = omega arith

    -- What one firing takes, and the restoring of what it visits.
    one_firing : (f : Firing y) → IsMet y s f
        → 3 * visits_weight y f.before f.site + y.cost f.before f.site
        + sum_below (y.count s) (λ i. cond (visits y f.before f.site i) (weight y begun i) 0)
        ≤ firing_steps y begun f
    one_firing f met =
        let v : ℕ → ℕ = λ i. cond (visits y f.before f.site i) (weight y begun i) 0 in
        let four = sum_four (y.count f.before) (λ i. cond (visits y f.before f.site i) (weight y f.before i) 0) v
        (λ i. cond (visits y f.before f.site i) (width y begun f.before i) 0) (λ i. share f.before (visits y f.before f.site i) i) in
        let same : sum_below (y.count s) v ≡ sum_below (y.count f.before) v = ap (λ n. sum_below n v) (sym met.count) in
        omega (arith, four, same)

    -- What the dirty sites take, and the restoring of these.
    dirty_share : (dirty : List Bool) (first : ℕ → Bool) → ((i : ℕ) → has dirty i ≡ true → first i ≡ true)
        → 3 * weight_of y s (y.count s) dirty + weight_of y begun (y.count s) dirty ≤ 4 * width_of y begun s first
    dirty_share dirty first chosen =
        let m = y.count s in
        let D : ℕ → ℕ = λ i. cond (has dirty i) (width y begun s i) 0 in
        let four = sum_four m (λ i. cond (has dirty i) (weight y s i) 0) (λ i. cond (has dirty i) (weight y begun i) 0) D
        (λ i. share s (has dirty i) i) in
        let less : sum_below m D ≤ width_of y begun s first =
        sum_below_le m D (λ i. cond (first i) (width y begun s i) 0) (λ i _. elim (cases_Bool (has dirty i)) [
          | inl is_in ↦ let is = chosen i is_in in rw (is_in, is) (omega arith)
          | inr out ↦ rw out (omega arith)
        ]) in
        omega (arith, four, less)

    -- So a settling takes no more than its steps, in which the restoring of what it linked is counted.
    pub settling_spends : (old now : Wiring) (before after : ℕ) → Spends y s (all_firings y s turns) old now before after
        → y.count begun ≡ y.count s → (first : ℕ → Bool) → ((i : ℕ) → has old.dirty i ≡ true → first i ≡ true)
        → after + relinked_weight y begun now.relinked ≤ before + relinked_weight y begun old.relinked + settling_steps y begun s turns first
    settling_spends old now before after spends same first chosen =
        let m = y.count s in
        let again = relinked_sum m old now spends.stirs in
        let all = sums_both (IsMet y s) (λ f. 3 * visits_weight y f.before f.site + y.cost f.before f.site)
        (λ f. sum_below m (λ i. cond (visits y f.before f.site i) (weight y begun i) 0)) (firing_steps y begun)
        one_firing (all_firings y s turns) (all_met sound turns) in
        let first_share = dirty_share old.dirty first chosen in
        let within = weight_within y law s sound old.sites old.dirty in
        let now_here : relinked_weight y begun now.relinked ≡ weight_of y begun m now.relinked = ap (λ n. weight_of y begun n now.relinked) same in
        let old_here : relinked_weight y begun old.relinked ≡ weight_of y begun m old.relinked = ap (λ n. weight_of y begun n old.relinked) same in
        omega (arith, again, all, first_share, within, spends.ticks, now_here, old_here)

-- A table with no other site weighs no more.
pub relinked_less : (y : System) (begun : y.Situation) (less more : List Bool) → ((i : ℕ) → has less i ≡ true → has more i ≡ true)
    → relinked_weight y begun less ≤ relinked_weight y begun more
relinked_less y begun less more keeps =
    sum_below_le (y.count begun) (λ i. cond (has less i) (weight y begun i) 0) (λ i. cond (has more i) (weight y begun i) 0)
    (λ i _. elim (cases_Bool (has less i)) [
      | inl is_in ↦ let there = keeps i is_in in rw (is_in, there) (omega arith)
      | inr out ↦ rw out (omega arith)
    ])
