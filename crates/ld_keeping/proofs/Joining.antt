-- What a turn keeps, after what was kept before it.
use Rattle.std.proofs.Common.{◌≡◌, ℕ, ◌+◌, ◌<◌, ◌^◌, List, [], ◌∷◌, ◌++◌, length, Bool, true, false, Option, IfSome, Result, Ok, Err, refl, ap, subst, inl, arith, append-nil}
use Rattle.ld_keep.specs.Disk.{DiskModel, IsLawful}
use Rattle.ld_keep.specs.Journal.{IsAtRest}
use Rattle.ld_keep.specs.Kept.{last_gate}
use Rattle.ld_keep.proofs.Told.{told, where_told}
use Rattle.ld_world.specs.World.{WorldState}
use Rattle.ld_keeping.specs.Journaling.{HasKept, HasKeptBut, size_of_records}
use Rattle.ld_keeping.specs.Keeping.{IsDone}
use Rattle.ld_keeping.specs.Turns.{KeepsLine, LineTurn}
use Rattle.ld_keeping.specs.declared.answering.TurnStop.{TurnStop}
use Rattle.ld_keeping.specs.declared.answering.TurnStop.TheVariants.{ReadFault, InputTooLong, DiskFault, Full}
use Rattle.ld_keeping.proofs.Journals.{holds, kept_then, kept_then_but, size_of_records-more}

-- a line that is done makes a turn, whatever came of its keeping
pub line_turn : (Kept : List (List ℕ) → Type 0) (But : List ℕ → Type 0) (Over : ℕ → Type 0) (old : WorldState) (line text : List ℕ) (new : WorldState) (result : Result Bool TurnStop)
    → IsDone old line text new → KeepsLine Kept But Over line result → (done : List (List ℕ)) × LineTurn Kept But Over old line result text done new
line_turn Kept But Over old line text new (Ok true) done kept = (line ∷ [], (inl (done, refl), kept))
line_turn Kept But Over old line text new (Ok false) done kept = absurd kept
line_turn Kept But Over old line text new (Err ReadFault) done kept = absurd kept
line_turn Kept But Over old line text new (Err InputTooLong) done kept = absurd kept
line_turn Kept But Over old line text new (Err DiskFault) done kept = ([], (done, kept))
line_turn Kept But Over old line text new (Err Full) done kept = ([], (done, kept.0, kept.1))

module _ {D : Type 0} (disk : DiskModel D) (lawful : IsLawful disk) (d0 d1 d2 : D) (j0 j1 : ℕ)
    (rests0 : IfSome (disk.bytes d0) (IsAtRest j0)) (rests1 : IfSome (disk.bytes d1) (IsAtRest j1)) (still : disk.tells_images d1 ≡ disk.tells_images d0) where
  room_after : (done one : List (List ℕ)) → HasKept disk d0 d1 done → j1 ≡ j0 + size_of_records done → HasKept disk d1 d2 one
      → IfSome (disk.bytes d0) (λ file. last_gate file + size_of_records (done ++ one) < 2 ^ 40)
  room_after done one first place second = where_told (disk.bytes d0) (λ file. last_gate file + size_of_records (done ++ one) < 2 ^ 40) (λ file is.
      let now = holds (disk.bytes d0) (disk.bytes d1) done file first.lines is in
      let at0 = told (disk.bytes d0) (IsAtRest j0) rests0 file is in
      let at1 = told (disk.bytes d1) (IsAtRest j1) rests1 now.file now.is in
      let room = told (disk.bytes d1) (λ f. last_gate f + size_of_records one < 2 ^ 40) second.room now.file now.is in
      omega (arith, at0.gate, at1.gate, room, place, size_of_records-more done one))

  pub joined : (done one : List (List ℕ)) → HasKept disk d0 d1 done × (j1 ≡ j0 + size_of_records done) → HasKept disk d1 d2 one → HasKept disk d0 d2 (done ++ one)
  joined done one (first, place) second = kept_then disk lawful d0 d1 d2 done first still one second (room_after done one first place second)

  pub joined_placed : (j2 : ℕ) (done one : List (List ℕ)) → HasKept disk d0 d1 done × (j1 ≡ j0 + size_of_records done) → HasKept disk d1 d2 one × (j2 ≡ j1 + size_of_records one)
      → HasKept disk d0 d2 (done ++ one) × (j2 ≡ j0 + size_of_records (done ++ one))
  joined_placed j2 done one first second =
      (joined done one first second.0, omega (arith, first.1, second.1, size_of_records-more done one))

  pub joined_but : (done : List (List ℕ)) (last : List ℕ) → HasKept disk d0 d1 done × (j1 ≡ j0 + size_of_records done) → HasKeptBut disk d1 d2 [] last → HasKeptBut disk d0 d2 done last
  joined_but done last first second = kept_then_but disk lawful d0 d1 d2 done first.0 still last second

  pub joined_full : (done : List (List ℕ)) (last : List ℕ) → HasKept disk d0 d1 done × (j1 ≡ j0 + size_of_records done) → 2 ^ 40 < j1 + (6 + length last) → HasKept disk d1 d2 []
      → HasKept disk d0 d2 done × (2 ^ 40 < j0 + size_of_records (done ++ last ∷ []) + 1)
  joined_full done last first over second = (
    subst (HasKept disk d0 d2) (append-nil done) (joined done [] first second),
    omega (arith, first.1, over, size_of_records-more done (last ∷ [])),
  )
