-- What a ranking says of the settlings of a unit's runs.
use Rattle.std.proofs.Common.{◌≡◌, refl, sym, ap, ◌∙◌, ℕ, zero, suc, ◌+◌, ◌<◌, ◌≤◌, List, [], length, Option, Some, None, Bool, true, false, cond, is_some, nat_eq, Contains, arith}
use Rattle.std.proofs.lemmas.Bool.{false≢true}
use Rattle.std.specs.List.{position_from, range_with_len}
use Rattle.std.specs.Option.{option_map}
use Rattle.ld_cascade.specs.Settling.{Firing, PassesBudget, after_sweeps, sweep_firings}
use Rattle.ld_model.specs.declared.unit.Unit.{Unit}
use Rattle.ld_names.specs.Rules.{Site}
use Rattle.ld_refs.specs.Checks.{IsValid}
use Rattle.ld_state.specs.RunState.{RunState}
use Rattle.ld_firing.specs.RunSettling.{is_quiet_after, turns_within, settlement_after, run_settling}
use Rattle.ld_firing.specs.RunSystem.{run_system, site_at}
use Rattle.ld_firing.proofs.Sites.{said_of}
use Rattle.ld_layers.proofs.Calm.{fires_in_time, quiet_after, never_passes}
use Rattle.ld_rank.specs.Ranking.{rank_at, IsRanking, depth_of, site_rank}
use Rattle.ld_rank.proofs.Spared.{is_ranked, is_at_most}

some_number : (test : ℕ → Bool) (n a k : ℕ) → a ≤ k → k < a + n → test k ≡ true
    → is_some (position_from test a (range_with_len a n)) ≡ true
some_number test zero a k from below passes = absurd (omega (arith, from, below))
some_number test (suc n) a k from below passes =
    by (λ other. some_number test n (a + 1) k (omega (arith, from, other)) (omega (arith, below)) passes) (test a) refl
  where
    by : ((a ≡ k → ⊥) → is_some (position_from test (a + 1) (range_with_len (a + 1) n)) ≡ true) → (b : Bool) → test a ≡ b → is_some (cond b (Some a) (position_from test (a + 1) (range_with_len (a + 1) n))) ≡ true
    by rest true is = refl
    by rest false is = rest (λ same. false≢true (sym is ∙ ap test same ∙ passes))

module _ (unit : Unit) (valid : IsValid unit) (ranks : List ℕ) (ranking : IsRanking unit ranks) where
  pub fires_by_rank : (s : RunState) (sweeps : ℕ) (f : Firing (run_system unit)) (site : Site)
      → Contains (sweep_firings (run_system unit) (after_sweeps (run_system unit) s sweeps)) f
      → site_at unit f.before f.site ≡ Some site → sweeps < rank_at ranks site.rule
  fires_by_rank s sweeps f site there at =
      let more = fires_in_time (run_system unit) (site_rank unit ranks) (is_ranked unit valid ranks ranking) s sweeps f there in
      let same = said_of unit f.before f.site site (λ found. rank_at ranks found.rule) 0 at in
      omega (arith, more, same)

  pub passes_no_budget : depth_of ranks ≤ unit.turns → (s : RunState) → PassesBudget (run_system unit) s unit.turns → ⊥
  passes_no_budget deep =
      never_passes (run_system unit) (site_rank unit ranks) (is_ranked unit valid ranks ranking) unit.turns
      (is_at_most unit valid ranks ranking unit.turns deep)

  pub settles : depth_of ranks ≤ unit.turns → (s : RunState) → is_some (run_settling unit s) ≡ true
  unfolding run_settling
  settles deep s =
      let quiet = quiet_after (run_system unit) (site_rank unit ranks) (is_ranked unit valid ranks ranking) unit.turns
      (is_at_most unit valid ranks ranking unit.turns deep) s in
      mapped (turns_within (run_system unit) s unit.turns)
      (some_number (is_quiet_after (run_system unit) s) (unit.turns + 1) 0 unit.turns (omega arith) (omega arith)
      (is_quiet quiet))
    where
      mapped : (o : Option ℕ) → is_some o ≡ true → is_some (option_map (settlement_after unit s) o) ≡ true
      mapped None is = is
      mapped (Some k) is = refl

      is_quiet : sweep_firings (run_system unit) (after_sweeps (run_system unit) s unit.turns) ≡ []
          → is_quiet_after (run_system unit) s unit.turns ≡ true
      is_quiet none = ap (λ (fs : List (Firing (run_system unit))). nat_eq (length fs) 0) none
