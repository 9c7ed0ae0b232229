-- That no check of references or of types finds a fault in a part of a valid unit.
use Rattle.std.proofs.Common.{◌++◌}
use Rattle.ld_model.specs.declared.unit.Unit.{Unit}
use Rattle.ld_names.specs.Names.{names_of}
use Rattle.ld_parts.specs.Listing.{parts_of}
use Rattle.ld_refs.proofs.Distinct.{distinct}
use Rattle.ld_refs.specs.Bounds.{level_faults, profile_faults}
use Rattle.ld_refs.specs.Checks.{meaning_faults, amount_faults, text_faults, check_faults, IsValid}
use Rattle.ld_refs.specs.Reaching.{cycle_faults}
use Rattle.ld_refs.specs.Targets.{target_faults, target_faults_of}
use Rattle.ld_types.specs.Types.{property_named}
use Rattle.ld_types.specs.Typing.{type_faults, type_faults_of}
use Rattle.ld_state.proofs.Elements.{nothing_first, nothing_later, nothing_of}
use Rattle.ld_firing.proofs.MetChecks.{MeetsChecks}

pub checks_met : (unit : Unit) → IsValid unit → MeetsChecks unit
unfolding check_faults meaning_faults
checks_met unit valid =
    let names = names_of unit in
    let parts = parts_of unit in
    let texts = text_faults parts in
    let meanings = meaning_faults unit names parts in
    let amounts = amount_faults unit names parts in
    let targets = target_faults names parts in
    let cycles = cycle_faults unit names in
    let levels = level_faults unit.level parts in
    let profile = profile_faults parts in
    let types = type_faults unit names parts in
    let no_text = nothing_first texts (meanings ++ amounts) valid.faultless in
    let no_meaning = nothing_first meanings amounts (nothing_later texts (meanings ++ amounts) valid.faultless) in
    let no_target = nothing_first targets (cycles ++ (levels ++ (profile ++ types))) no_meaning in
    let no_type = nothing_later profile types (nothing_later levels (profile ++ types) (nothing_later cycles (levels ++ (profile ++ types)) (nothing_later targets (cycles ++ (levels ++ (profile ++ types))) no_meaning))) in
    record {
      distinct = distinct unit no_text;
      met = λ part inside. record {
        targets = nothing_of (target_faults_of names) parts part no_target inside;
        types = nothing_of (type_faults_of (property_named unit names)) parts part no_type inside;
      };
    }
