-- Which property an identifier names, as the program looks it up.
use Rattle.ld_types.specs.declared.typing.Typing.{Typing}
use Rattle.ld_types.specs.Types.{Find, property_named}

-- The property of the unit that the identifier names, by the names that the program has for it.
abbrev pub find_by : Typing → Find
find_by typing id = property_named typing.unit.now typing.names.now id
