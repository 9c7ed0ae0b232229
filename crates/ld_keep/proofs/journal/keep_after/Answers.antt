use Rattle.std.proofs.Common.{◌≡◌, ◌+◌, List, [], ◌∷◌, Some, IsTrue, length, option_map, inl, sym, ap, subst, ◌∙◌}
use Rattle.ld_keep.specs.Disk.{overwritten, LeavesOnly}
use Rattle.ld_keep.specs.Kept.{kept_lines, entry_of, KeepsOrAdds}
use Rattle.ld_keep.specs.Journal.{IsAtRest, with_line}
use Rattle.ld_keep.proofs.Told.{told, where_told, told_made, made_twice, on_ok}
use Rattle.ld_keep.proofs.Moments.{leaves_more, leaves_on}
use Rattle.ld_keep.proofs.Images.{behind_keeps, entry_room, written, written_rests, written_lines, opening_keeps}
use Rattle.ld_keep.proofs.Keeping.{lines_then}
use Rattle.ld_keep.proofs.journal.keep_after.Goals as goal

pub returns-in_err-put-clause-any_moment : goal.returns-in_err-put-clause-any_moment
returns-in_err-put-clause-any_moment g c =
    λ honest. where_told _ _ (λ file is.
    let rests = told _ (IsAtRest c.args.place) c.requires.at_rest file is in
    leaves_more g.D.Disk.model c.args.disk.now c.put.new.disk _ (KeepsOrAdds (kept_lines file) c.args.line.now) (told _ _ (c.put.ensures.any_moment honest) file is)
    (λ image torn. inl (behind_keeps file image c.args.place _ rests torn)))

pub put-requires-2-clause-place : goal.put-requires-2-clause-place
put-requires-2-clause-place g c =
    let piece : c.as_slice.result.now ≡ entry_of c.args.line.now = c.as_slice.ensures.value ∙ c.write_entry.ensures.entry in
    let staged : g.D.Disk.model.bytes c.put.new.disk ≡ option_map (overwritten (c.args.place + 1) (entry_of c.args.line.now)) (g.D.Disk.model.bytes c.args.disk.now) =
    c.in_ok-put.ensures.bytes ∙ ap (λ (p : List _). option_map (overwritten (c.args.place + 1) p) (g.D.Disk.model.bytes c.args.disk.now)) piece in
    told_made _ _ (overwritten (c.args.place + 1) (entry_of c.args.line.now)) (IsAtRest c.args.place) _ staged c.requires.at_rest
    (λ file rests. entry_room file c.args.line.now c.args.place rests c.requires.some c.requires.most c.requires.fits)

pub returns-clause-bytes : goal.returns-clause-bytes
returns-clause-bytes g c =
    let piece : c.as_slice.result.now ≡ entry_of c.args.line.now = c.as_slice.ensures.value ∙ c.write_entry.ensures.entry in
    let staged : g.D.Disk.model.bytes c.put.new.disk ≡ option_map (overwritten (c.args.place + 1) (entry_of c.args.line.now)) (g.D.Disk.model.bytes c.args.disk.now) =
    c.in_ok-put.ensures.bytes ∙ ap (λ (p : List _). option_map (overwritten (c.args.place + 1) p) (g.D.Disk.model.bytes c.args.disk.now)) piece in
    on_ok c.put-2.result _ _ c.put-2.ensures.bytes (λ is.
    made_twice _ _ _ (overwritten (c.args.place + 1) (entry_of c.args.line.now)) (overwritten c.args.place (1 ∷ [])) (with_line c.args.place c.args.line.now) (IsAtRest c.args.place)
    staged is c.requires.at_rest
    (λ file rests. written file c.args.line.now c.args.place rests c.requires.some c.requires.most c.requires.fits))

pub returns-clause-at_rest : goal.returns-clause-at_rest
returns-clause-at_rest g c =
    on_ok c.put-2.result _ _ (returns-clause-bytes g c) (λ is.
    told_made _ _ (with_line c.args.place c.args.line.now) (IsAtRest c.args.place) (IsAtRest (c.args.place + 5 + length c.args.line.now)) is c.requires.at_rest
    (λ file rests. written_rests file c.args.line.now c.args.place rests c.requires.some c.requires.most c.requires.fits))

pub returns-clause-kept : goal.returns-clause-kept
returns-clause-kept g c =
    on_ok c.put-2.result _ _ (returns-clause-bytes g c) (λ is.
    lines_then _ _ (with_line c.args.place c.args.line.now) (IsAtRest c.args.place) c.args.line.now is c.requires.at_rest
    (λ file rests. written_lines file c.args.line.now c.args.place rests c.requires.some c.requires.most c.requires.fits))

pub returns-clause-any_moment : goal.returns-clause-any_moment
returns-clause-any_moment g c =
    let piece : c.as_slice.result.now ≡ entry_of c.args.line.now = c.as_slice.ensures.value ∙ c.write_entry.ensures.entry in
    λ honest. where_told _ _ (λ file is.
    let rests = told _ (IsAtRest c.args.place) c.requires.at_rest file is in
    let Keeps : List _ → Type 0 = KeepsOrAdds (kept_lines file) c.args.line.now in
    let first : LeavesOnly g.D.Disk.model c.args.disk.now c.put.new.disk Keeps =
    leaves_more g.D.Disk.model c.args.disk.now c.put.new.disk _ Keeps (told _ _ (c.put.ensures.any_moment honest) file is)
    (λ image torn. inl (behind_keeps file image c.args.place _ rests torn)) in
    let honest_still : IsTrue (g.D.Disk.model.tells_images c.put.new.disk) = subst IsTrue (sym c.put.ensures.tells) honest in
    let staged : g.D.Disk.model.bytes c.put.new.disk ≡ Some (overwritten (c.args.place + 1) (entry_of c.args.line.now) file) =
    c.in_ok-put.ensures.bytes
    ∙ ap (λ (p : List _). option_map (overwritten (c.args.place + 1) p) (g.D.Disk.model.bytes c.args.disk.now)) piece
    ∙ ap (option_map (overwritten (c.args.place + 1) (entry_of c.args.line.now))) is in
    let second : LeavesOnly g.D.Disk.model c.put.new.disk c.put-2.new.disk Keeps =
    leaves_more g.D.Disk.model c.put.new.disk c.put-2.new.disk _ Keeps (told _ _ (c.put-2.ensures.any_moment honest_still) _ staged)
    (λ image torn. opening_keeps file c.args.line.now c.args.place rests c.requires.some c.requires.most c.requires.fits image torn) in
    leaves_on g.D.Disk.model c.args.disk.now c.put.new.disk c.put-2.new.disk Keeps first second)
