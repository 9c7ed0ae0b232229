use Rattle.std.proofs.Common.{◌≡◌, drop, filter_map}
use Rattle.std.specs.List.{list_any}
use Rattle.ld_value.specs.Datum.{datum_of, same_datum}
use Rattle.ld_value.specs.Values.{value_of}
use Rattle.ld_types.proofs.properties.is_one_of.Given as goal

abbrev pub invariant-loop-text : goal.invariant-loop-text
invariant-loop-text l = list_any (same_datum (datum_of l.value)) (filter_map (value_of l.kind) (drop l.text-index l.texts)) ≡ list_any (same_datum (datum_of l.value)) (filter_map (value_of l.kind) l.texts)
