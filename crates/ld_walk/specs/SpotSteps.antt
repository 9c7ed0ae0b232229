-- How a spot keeps its place: as a whole document, in a list, or by the step that leads to it from the spot
-- above.
use Rattle.ld_walk.specs.Places.{At, root, member, item_at}
use Rattle.ld_walk.specs.PlaceRows.{place_at}
use Rattle.ld_walk.specs.declared.spot.Spot.TheInside.{Inside}
use Rattle.ld_walk.specs.declared.spot.Step.{Step}
use Rattle.ld_walk.specs.declared.spot.Step.TheVariants.{Whole, Listed, Member, Item}

-- The place to which the step leads.
abbrev pub step_to : Step → At
step_to (Whole file) = root file
step_to (Listed places number) = place_at places.now number
step_to (Member above name) = member above.now name.now
step_to (Item above index) = item_at above.now index

-- The place that the fields of a spot stand for.
abbrev pub spot_of : Inside → At
spot_of spot = step_to spot.step
