-- A unit whose parts repeat no identifier has identifiers that differ.
use Rattle.std.proofs.Common.{◌≡◌, []}
use Rattle.ld_model.specs.declared.unit.Unit.{Unit}
use Rattle.ld_names.proofs.Identified.{distinct_in_order}
use Rattle.ld_names.specs.Identifiers.{HasDistinctIdentifiers}
use Rattle.ld_parts.specs.Listing.{parts_of}
use Rattle.ld_refs.specs.Checks.{text_faults}
use Rattle.ld_refs.proofs.Unrepeated.{faultless_differ, none_before}

pub distinct : (unit : Unit) → text_faults (parts_of unit) ≡ [] → HasDistinctIdentifiers unit
unfolding text_faults
distinct unit none = distinct_in_order unit (faultless_differ (parts_of unit) (none_before _ _ none))
