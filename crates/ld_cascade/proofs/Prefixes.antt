-- What some firings of a settling spend is no more than what all those that its turns allow may spend: one bound,
-- whatever is answered.
use Rattle.std.proofs.Common.{◌≡◌, refl, sym, ap, subst, ◌∙◌, ℕ, zero, suc, ◌+◌, ◌-◌, ◌<◌, ◌≤◌, ◌⊎◌, inl, inr, Bool, List, [], ◌++◌, append_assoc, append-nil, arith}
use Rattle.std.proofs.lemmas.Bool.{cases_lt}
use Rattle.std.proofs.lemmas.List.Elements.{Contains-append_left}
use Rattle.ld_cascade.specs.Settling.{Firing, after_sweeps, all_firings, fired, fired_below, firings_to, sweep_firings, visited}
use Rattle.ld_cascade.specs.System.{Lawful, System}
use Rattle.ld_cascade.specs.Wiring.{Wiring}
use Rattle.ld_cascade.specs.Work.{IsStirred, Spends, SpendsInPart}
use Rattle.ld_cascade.proofs.Sweeps.{past_quiet, skip_firings, still_after, still_visited}
use Rattle.ld_cascade.proofs.Weights.{work_append}

-- The first firings are the beginning of the others.
record Begins (y : System) (fs all : List (Firing y)) : Type 0 where
  pub rest : List (Firing y)
  pub is : all ≡ fs ++ rest

begins_self : (y : System) (fs : List (Firing y)) → Begins y fs fs
begins_self y fs = record { rest = []; is = sym (append-nil fs) }

begins_then : (y : System) (fs gs hs : List (Firing y)) → Begins y fs gs → Begins y gs hs → Begins y fs hs
begins_then y fs gs hs a b = record {
  rest = a.rest ++ b.rest;
  is = b.is ∙ ap (λ xs. xs ++ b.rest) a.is ∙ append_assoc fs a.rest b.rest;
}

-- ---- sweeps

sweep_more : (y : System) (s : y.Situation) (k : ℕ) → Begins y (all_firings y s k) (all_firings y s (suc k))
unfolding all_firings
sweep_more y s k = record { rest = sweep_firings y (after_sweeps y s k); is = refl }

sweeps_on : (y : System) (s : y.Situation) (k d : ℕ) → Begins y (all_firings y s k) (all_firings y s (k + d))
sweeps_on y s k zero = let e : k + 0 ≡ k = omega arith in rw e (begins_self y (all_firings y s k))
sweeps_on y s k (suc d) =
    let e : k + suc d ≡ suc (k + d) = omega arith in
    rw e (begins_then y (all_firings y s k) (all_firings y s (k + d)) (all_firings y s (suc (k + d))) (sweeps_on y s k d) (sweep_more y s (k + d)))

-- The firings of fewer sweeps are the beginning of those of more.
sweeps_begin : (y : System) (s : y.Situation) (k m : ℕ) → k ≤ m → Begins y (all_firings y s k) (all_firings y s m)
sweeps_begin y s k m le =
    let e : k + (m - k) ≡ m = omega (arith, le) in
    subst (λ n. Begins y (all_firings y s k) (all_firings y s n)) e (sweeps_on y s k (m - k))

-- ---- sites

site_more : (y : System) (s : y.Situation) (n : ℕ) → Begins y (fired_below y s n) (fired_below y s (suc n))
unfolding fired_below
site_more y s n = record { rest = fired y (visited y s n) n; is = refl }

sites_on : (y : System) (s : y.Situation) (n d : ℕ) → Begins y (fired_below y s n) (fired_below y s (n + d))
sites_on y s n zero = let e : n + 0 ≡ n = omega arith in rw e (begins_self y (fired_below y s n))
sites_on y s n (suc d) =
    let e : n + suc d ≡ suc (n + d) = omega arith in
    rw e (begins_then y (fired_below y s n) (fired_below y s (n + d)) (fired_below y s (suc (n + d))) (sites_on y s n d) (site_more y s (n + d)))

-- The firings of the first sites are the beginning of those of a sweep; beyond the count none fires.
sites_begin : (y : System) → Lawful y → (s : y.Situation) → y.IsSound s → (n : ℕ) → Begins y (fired_below y s n) (sweep_firings y s)
sites_begin y law s sound n = elim (cases_lt n (y.count s)) [
  | inl below ↦
      let e : n + (y.count s - n) ≡ y.count s = omega (arith, below) in
      subst (λ m. Begins y (fired_below y s n) (fired_below y s m)) e (sites_on y s n (y.count s - n))
  | inr past ↦
      let still = still_visited y law s sound (y.count s) in
      let same = skip_firings y s (y.count s) n (omega (arith, past))
      (λ i from below. past_quiet y law (visited y s (y.count s)) i still.sound (omega (arith, still.same_count, from))) in
      subst (λ fs. Begins y fs (sweep_firings y s)) (sym same) (begins_self y (sweep_firings y s))
]

-- The firings of some sweeps, and of the first sites in one more of those that are allowed, are the beginning of all.
part_begins : (y : System) → Lawful y → (s : y.Situation) → y.IsSound s → (turns k n : ℕ) → k ≤ turns → (k < turns) ⊎ (n ≡ 0)
    → Begins y (firings_to y s k n) (all_firings y s turns)
unfolding all_firings fired_below
part_begins y law s sound turns k n most allowed = elim allowed [
  | inl less ↦
      let t = after_sweeps y s k in
      let one = sites_begin y law t (still_after y law s sound k).sound n in
      let next : Begins y (firings_to y s k n) (all_firings y s (suc k)) = record {
        rest = one.rest;
        is = ap (λ fs. all_firings y s k ++ fs) one.is ∙ sym (append_assoc (all_firings y s k) (fired_below y t n) one.rest);
      } in
      begins_then y (firings_to y s k n) (all_firings y s (suc k)) (all_firings y s turns) next (sweeps_begin y s (suc k) turns (omega (arith, less)))
  | inr none ↦
      let none_here : firings_to y s k n ≡ all_firings y s k = rw none (append-nil (all_firings y s k)) in
      subst (λ fs. Begins y fs (all_firings y s turns)) (sym none_here) (sweeps_begin y s k turns most)
]

-- ---- what they spend

stirred_more : (y : System) (fs gs : List (Firing y)) (dirty : List Bool) (i : ℕ) → IsStirred y fs dirty i → IsStirred y (fs ++ gs) dirty i
stirred_more y fs gs dirty i stirred = elim stirred [
  | inl was ↦ inl was
  | inr v ↦ inr (v.0, Contains-append_left fs gs v.0 v.1, v.2)
]

spends_more : (y : System) (s : y.Situation) (fs all : List (Firing y)) (old now : Wiring) (before after : ℕ) → Begins y fs all
    → Spends y s fs old now before after → Spends y s all old now before after
spends_more y s fs all old now before after begins spends =
    subst (λ gs. Spends y s gs old now before after) (sym begins.is) (record {
      ticks = omega (arith, spends.ticks, work_append y fs begins.rest);
      stirs = record {
        dirty = λ i is_in. stirred_more y fs begins.rest old.dirty i (spends.stirs.dirty i is_in);
        relinked = λ i is_in. elim (spends.stirs.relinked i is_in) [
          | inl was ↦ inl was
          | inr stirred ↦ inr (stirred_more y fs begins.rest old.dirty i stirred)
        ];
      };
    })

-- What the firings of some sweeps spend is no more than what those of all that are allowed may.
pub spends_to : (y : System) (s : y.Situation) (k turns : ℕ) (old now : Wiring) (before after : ℕ) → k ≤ turns
    → Spends y s (all_firings y s k) old now before after → Spends y s (all_firings y s turns) old now before after
spends_to y s k turns old now before after within spends =
    spends_more y s (all_firings y s k) (all_firings y s turns) old now before after (sweeps_begin y s k turns within) spends

-- Nor is what some firings of one more sweep spend.
pub part_spends : (y : System) → Lawful y → (s : y.Situation) → y.IsSound s → (turns : ℕ) (old now : Wiring) (before after : ℕ)
    → SpendsInPart y s turns old now before after → Spends y s (all_firings y s turns) old now before after
part_spends y law s sound turns old now before after part =
    let (k, n, most, allowed, some) = part in
    spends_more y s (firings_to y s k n) (all_firings y s turns) old now before after (part_begins y law s sound turns k n most allowed) some
