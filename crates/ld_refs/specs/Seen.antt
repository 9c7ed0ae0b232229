-- A part as it is handed to a check.
use Rattle.ld_model.specs.declared.unit.Level.{Level}
use Rattle.ld_walk.specs.declared.part.What.{What as CodeWhat}
use Rattle.ld_walk.specs.Parts.{Part}
use Rattle.ld_walk.specs.PartView.{what_of}
use Rattle.ld_walk.specs.Places.{At}

-- The part at this place and of this level, with what the program says stands there.
abbrev pub part_seen : At → Level → CodeWhat → Part
part_seen at level what = record { at = at; level = level; what = what_of what }
