-- How many steps a settling may take, with what restoring its sites may take later.
use Rattle.std.specs.Prelude.{ℕ, ◌+◌, ◌*◌, max, Bool, cond, List, sum_by}
use Rattle.ld_cascade.specs.Settling.{Firing, all_firings}
use Rattle.ld_cascade.specs.System.{System}
use Rattle.ld_cascade.specs.Work.{sum_below, visits, weight, weight_of}

-- The greater of a site's sizes where the command begins and where it is settled, and one; nothing for a number that
-- is a site in neither.
abbrev pub width : (y : System) → y.Situation → y.Situation → ℕ → ℕ
width y begun now i = max (weight y begun i) (weight y now i)

-- The sum of these over the chosen numbers below the count.
abbrev pub width_of : (y : System) → y.Situation → y.Situation → (ℕ → Bool) → ℕ
width_of y begun now chosen = sum_below (y.count now) (λ i. cond (chosen i) (width y begun now i) 0)

-- What restoring the sites of the table may take: their sizes where the command begins, and one for each.
abbrev pub relinked_weight : (y : System) → y.Situation → List Bool → ℕ
relinked_weight y begun table = weight_of y begun (y.count begun) table

-- Four times this sum over the sites that a firing visits, which read just before it a slot that it changes, and what
-- the firing costs itself.
abbrev pub firing_steps : (y : System) → y.Situation → Firing y → ℕ
firing_steps y begun f = 4 * width_of y begun f.before (visits y f.before f.site) + y.cost f.before f.site

-- Four times the sum over the sites that are to be judged first, and the same of all firings of as many sweeps as are
-- allowed: a sweep that fires nothing adds nothing.
abbrev pub settling_steps : (y : System) → y.Situation → y.Situation → ℕ → (ℕ → Bool) → ℕ
settling_steps y begun now turns first =
    4 * width_of y begun now first + sum_by (firing_steps y begun) (all_firings y now turns)
