-- Sites that have numbers, such that a firing concerns only sites of greater numbers.
use Rattle.std.specs.Prelude.{◌≡◌, ℕ, ◌<◌, ◌≤◌, true, false, Contains}
use Rattle.ld_cascade.specs.System.{System, fires}
use Rattle.ld_cascade.specs.Settling.{Firing, sweep_firings, after_sweeps}

-- The numbers of the sites in each situation, such that a firing concerns only sites of greater ones.
pub record IsRanked (y : System) (rank : y.Situation → ℕ → ℕ) : Type 0 where
  -- a firing leaves how many numbers of sites there are, and the sites' numbers
  pub same_count : (s : y.Situation) (i : ℕ) → fires y s i ≡ true → y.count (y.after s i) ≡ y.count s
  pub same_ranks : (s : y.Situation) (i j : ℕ) → fires y s i ≡ true → rank (y.after s i) j ≡ rank s j
  -- what fires has a number from 1 on
  pub from_one : (s : y.Situation) (i : ℕ) → fires y s i ≡ true → 0 < rank s i
  -- what has fired does not fire again by what it did itself
  pub calms_itself : (s : y.Situation) (i : ℕ) → fires y s i ≡ true → fires y (y.after s i) i ≡ false
  -- and it lets no other site fire whose number is not greater
  pub spares :
      (s : y.Situation) (i j : ℕ) → fires y s i ≡ true → (j ≡ i → ⊥) → rank s j ≤ rank s i
      → fires y s j ≡ false → fires y (y.after s i) j ≡ false

-- What fires has no greater number than this.
abbrev pub IsAtMost : (y : System) → (y.Situation → ℕ → ℕ) → ℕ → Type 0
IsAtMost y rank depth = (s : y.Situation) (i : ℕ) → fires y s i ≡ true → rank s i ≤ depth

-- A site with the number k fires in the sweeps 1 to k alone: after this many sweeps only greater numbers fire.
abbrev pub FiresInTime : (y : System) → (y.Situation → ℕ → ℕ) → y.Situation → Type 0
FiresInTime y rank s =
    (sweeps : ℕ) (f : Firing y) → Contains (sweep_firings y (after_sweeps y s sweeps)) f
    → sweeps < rank f.before f.site
