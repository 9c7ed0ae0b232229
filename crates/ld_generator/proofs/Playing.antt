-- The replies to lines so far, and to those that are left.
use Rattle.std.proofs.Common.{◌≡◌, ℕ, List, drop}
use Rattle.ld_world.specs.World.{WorldState}
use Rattle.ld_generator.specs.GeneratedLines.{lines_from}
use Rattle.ld_generator.specs.Tallies.{IsOfSoMany, replied, tally_of, together}
use Rattle.ld_generator.specs.declared.ask.Ask.{Ask}
use Rattle.ld_generator.specs.declared.tally.Tally.{Tally}

-- The asks from the one of this number on are left, the world is this one, and the tally has the replies so far.
pub record Along (start : WorldState) (asks : List Ask) (world : WorldState) (tally : Tally) (i : ℕ) : Type 0 where
  pub so_far : together (tally_of (drop i asks) (replied world (lines_from i (drop i asks)))) tally
      ≡ tally_of asks (replied start (lines_from 0 asks))
  pub few : IsOfSoMany i tally
