use Rattle.std.proofs.Common.{◌∙◌, ap, option_map, slice_get, sym}
use Rattle.ld_roles.specs.Kept.{persons_of}
use Rattle.ld_sharing.specs.Readable.{name_of}
use Rattle.ld_sharing.proofs.TakingKeys.{name_is}
use Rattle.ld_sharing.proofs.taken_value.name_of.Goals as goal

pub returns-in-Person : goal.returns-in-Person
returns-in-Person c =
    let rows = c.args.state.now.rows in
    let p = c.in-Person.person.0 in
    name_is rows p c.name.result.now
    (c.name.ensures ∙ ap (λ rows. option_map (λ row. row.name) (slice_get rows p)) c.roster.ensures.rows)
    ∙ ap (name_of (persons_of rows)) (sym c.in-Person.is)
