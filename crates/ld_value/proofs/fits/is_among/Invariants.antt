use Rattle.std.proofs.Common.{◌≡◌, drop, map}
use Rattle.std.specs.List.{list_any}
use Rattle.ld_value.specs.Datum.{datum_of, same_datum}
use Rattle.ld_value.proofs.fits.is_among.Given as goal

abbrev pub invariant-loop-each : goal.invariant-loop-each
invariant-loop-each l =
    list_any (same_datum (datum_of l.value)) (map datum_of l.list) ≡ list_any (same_datum (datum_of l.value)) (map datum_of (drop l.each-index l.list))
