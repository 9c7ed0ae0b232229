-- What a settling tells of a run is all that it changes.
use Rattle.std.proofs.Common.{◌≡◌, refl, sym, ap, subst, ◌∙◌, ℕ, ◌<◌, ◌⊎◌, inl, inr, List, ◌++◌, length, Contains}
use Rattle.std.proofs.lemmas.List.Elements.{Contains-append_left, Contains-append_right, Contains-append_cases}
use Rattle.ld_cascade.specs.Settling.{DifferOnlyIn, all_firings, changes_of}
use Rattle.ld_cascade.proofs.Told.{below_after}
use Rattle.ld_model.specs.declared.unit.Unit.{Unit}
use Rattle.ld_state.specs.RunCells.{all_cells}
use Rattle.ld_firing.specs.RunSystem.{IsSoundRun, content_of, run_system}
use Rattle.ld_firing.proofs.Lawful.{run_is_lawful}
use Rattle.ld_settling.specs.SettlingTold.{TellsSlots}
use Rattle.ld_settling.specs.UnitRuns.{RunSetting, UnitRun, unit_runs}
use Rattle.ld_settling.proofs.UnitSettling.{changes_in_unit}

-- The slots of the firings of this many sweeps, after those that were told before.
abbrev pub told_after : UnitRun → ℕ → List ℕ → List ℕ
told_after s turns before = before ++ changes_of (run_system s.unit) (all_firings (run_system s.unit) s.run turns)

-- What is told in the system of the runs of all units is what is told in that of the unit.
pub told_in_unit : (s : UnitRun) (turns : ℕ) (before told : List ℕ) → told ≡ before ++ changes_of unit_runs (all_firings unit_runs s turns)
    → told ≡ told_after s turns before
told_in_unit s turns before told is = is ∙ ap (λ (slots : List ℕ). before ++ slots) (changes_in_unit s turns)

pub settling_tells : (s t : UnitRun) (turns : ℕ) (before told : List ℕ) → IsSoundRun s.unit s.run → unit_runs.setting t ≡ unit_runs.setting s
    → told ≡ told_after s turns before → DifferOnlyIn unit_runs s t (changes_of unit_runs (all_firings unit_runs s turns))
    → TellsSlots s.unit s.run t.run before told
settling_tells s t turns before told sound setting is differ = record {
  persons = ap (λ (c : RunSetting). c.enrolment.persons) setting;
  seats = ap (λ (c : RunSetting). c.enrolment.seats) setting;
  kept = λ k there. subst (λ (slots : List ℕ). Contains slots k) (sym is) (Contains-append_left before firings k there);
  slots = λ k there. elim (Contains-append_cases before firings k (subst (λ (slots : List ℕ). Contains slots k) is there)) [
    | inl was ↦ inl was
    | inr new ↦ inr ((below_after (run_system s.unit) (run_is_lawful s.unit) s.run sound turns).1 k new)
  ];
  untold = λ k out.
      differ k (λ there. out (subst (λ (slots : List ℕ). Contains slots k) (sym is)
      (Contains-append_right before firings k (subst (λ (slots : List ℕ). Contains slots k) (changes_in_unit s turns) there))))
      ∙ ap (λ (c : RunSetting). content_of c.unit t.run k) setting;
}
  where
    firings : List ℕ
    firings = changes_of (run_system s.unit) (all_firings (run_system s.unit) s.run turns)
