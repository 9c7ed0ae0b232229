-- How a turn ends or goes on, over a disk.
use Rattle.std.proofs.Common.{◌≡◌, ℕ, ◌+◌, ◌<◌, ◌^◌, Bool, List, [], ◌∷◌, ◌++◌, true, false, Option, IfSome, Result, Ok, Err, length}
use Rattle.ld_base.specs.Outside.{then_piece, AddsPrefix}
use Rattle.ld_keep.specs.Disk.{DiskModel, IsLawful}
use Rattle.ld_keep.specs.Journal.{IsAtRest}
use Rattle.ld_lines.specs.Answer.{Answer, HandsOut}
use Rattle.ld_lines.specs.Reading.{LinesRead}
use Rattle.ld_world.specs.World.{WorldState}
use Rattle.ld_keeping.specs.Endings.{KeepsAll, KeepsTaken, KeepsCut, KeepsBefore}
use Rattle.ld_keeping.specs.Journaling.{HasKept, HasKeptBut, size_of_records}
use Rattle.ld_keeping.specs.Turns.{TakesTurn}
use Rattle.ld_keeping.specs.declared.answering.TurnStop.{TurnStop}
use Rattle.ld_keeping.specs.declared.answering.TurnStop.TheVariants.{ReadFault, InputTooLong, DiskFault, Full}
use Rattle.ld_keeping.proofs.Joining.{joined, joined_placed, joined_but, joined_full}
use Rattle.ld_keeping.proofs.Turning.{IsUnderWay, IsUnderWay-next, ended_well, stopped_by_fault, stopped_by_length, stopped_by_sink, stopped_by_disk, stopped_by_room, falls}

-- what was kept so far, and where the last gate stands
abbrev pub KeptSo : {D : Type 0} → DiskModel D → D → D → ℕ → ℕ → List (List ℕ) → Type 0
KeptSo disk old new place now done = HasKept disk old new done × (now ≡ place + size_of_records done)

-- one turn
abbrev pub Turns : {D : Type 0} → DiskModel D → D → D → ℕ → ℕ → LinesRead → Option (List ℕ) → LinesRead → Option (List ℕ) → WorldState → Result Bool TurnStop → List ℕ → WorldState → Type 0
Turns disk d1 d2 j1 j2 old left new now world result block next =
    (answer : Answer) × (one : List (List ℕ)) × HandsOut old left answer new now
    × TakesTurn (λ more. HasKept disk d1 d2 more × (j2 ≡ j1 + size_of_records more)) (λ last. HasKeptBut disk d1 d2 [] last) (λ n. 2 ^ 40 < j1 + n) world answer result block one next

module _ {D : Type 0} (disk : DiskModel D) (lawful : IsLawful disk) (d0 d1 d2 : D) (j0 j1 j2 : ℕ)
    (rests0 : IfSome (disk.bytes d0) (IsAtRest j0)) (rests1 : IfSome (disk.bytes d1) (IsAtRest j1)) (still : disk.tells_images d1 ≡ disk.tells_images d0)
    {at_first : WorldState} {first before : Option (List ℕ)} {old : LinesRead} {left : Option (List ℕ)} {world : WorldState} {written : Option (List ℕ)}
    (way : IsUnderWay (KeptSo disk d0 d1 j0 j1) at_first first before old left world written)
    (new : LinesRead) (now : Option (List ℕ)) (next : WorldState) (block : List ℕ) where
  abbrev But : List ℕ → Type 0
  But last = HasKeptBut disk d1 d2 [] last

  abbrev Over : ℕ → Type 0
  Over n = 2 ^ 40 < j1 + n

  joins : (done one : List (List ℕ)) → KeptSo disk d0 d1 j0 j1 done → KeptSo disk d1 d2 j1 j2 one → HasKept disk d0 d2 (done ++ one)
  joins done one kept more = joined disk lawful d0 d1 d2 j0 j1 rests0 rests1 still done one kept more.0

  pub goes_on : (after : Option (List ℕ)) → Turns disk d1 d2 j1 j2 old left new now world (Ok true) block next → after ≡ then_piece written block → IsUnderWay (KeptSo disk d0 d2 j0 j2) at_first first before new now next after
  goes_on after (answer, one, out, takes) wrote =
      IsUnderWay-next (KeptSo disk d0 d1 j0 j1) (KeptSo disk d1 d2 j1 j2) (KeptSo disk d0 d2 j0 j2) But Over (joined_placed disk lawful d0 d1 d2 j0 j1 rests0 rests1 still j2) way new now next block one answer out takes wrote

  pub gets_fewer : Turns disk d1 d2 j1 j2 old left new now world (Ok true) block next → length new.held + old.taken < length old.held + new.taken
  gets_fewer (answer, one, out, takes) =
      falls (KeptSo disk d0 d1 j0 j1) (KeptSo disk d1 d2 j1 j2) (HasKept disk d0 d2) But Over joins way new now next block one answer out takes

  pub ends : Turns disk d1 d2 j1 j2 old left new now world (Ok false) block next → KeepsAll (HasKept disk d0 d2) at_first first before now written
  ends (answer, one, out, takes) =
      ended_well (KeptSo disk d0 d1 j0 j1) (KeptSo disk d1 d2 j1 j2) (HasKept disk d0 d2) But Over joins way new now next block one answer out takes

  pub ends_unread : Turns disk d1 d2 j1 j2 old left new now world (Err ReadFault) block next → KeepsTaken (λ n. n < 2 ^ 40) (HasKept disk d0 d2) at_first first before now written
  ends_unread (answer, one, out, takes) =
      stopped_by_fault (KeptSo disk d0 d1 j0 j1) (KeptSo disk d1 d2 j1 j2) (HasKept disk d0 d2) But Over joins way new now next block one answer out takes

  pub ends_too_long : Turns disk d1 d2 j1 j2 old left new now world (Err InputTooLong) block next → KeepsTaken (λ n. n ≡ 2 ^ 40) (HasKept disk d0 d2) at_first first before now written
  ends_too_long (answer, one, out, takes) =
      stopped_by_length (KeptSo disk d0 d1 j0 j1) (KeptSo disk d1 d2 j1 j2) (HasKept disk d0 d2) But Over joins way new now next block one answer out takes

  pub ends_unwritten : (after : Option (List ℕ)) → Turns disk d1 d2 j1 j2 old left new now world (Ok true) block next → AddsPrefix written block after → KeepsCut (HasKept disk d0 d2) at_first first before now after
  ends_unwritten after (answer, one, out, takes) added =
      stopped_by_sink (KeptSo disk d0 d1 j0 j1) (KeptSo disk d1 d2 j1 j2) (HasKept disk d0 d2) But Over joins way new now next block one answer out takes added

  pub ends_unkept : Turns disk d1 d2 j1 j2 old left new now world (Err DiskFault) block next → KeepsBefore (HasKeptBut disk d0 d2) at_first first before now written
  ends_unkept (answer, one, out, takes) =
      stopped_by_disk (KeptSo disk d0 d1 j0 j1) (KeptSo disk d1 d2 j1 j2) (HasKept disk d0 d2) But Over joins way new now next block one
      (HasKeptBut disk d0 d2) (joined_but disk lawful d0 d1 d2 j0 j1 rests0 rests1 still) answer out takes

  pub ends_full : Turns disk d1 d2 j1 j2 old left new now world (Err Full) block next
      → KeepsBefore (λ done last. HasKept disk d0 d2 done × (2 ^ 40 < j0 + size_of_records (done ++ last ∷ []) + 1)) at_first first before now written
  ends_full (answer, one, out, takes) =
      stopped_by_room (KeptSo disk d0 d1 j0 j1) (KeptSo disk d1 d2 j1 j2) (HasKept disk d0 d2) But Over joins way new now next block one
      (λ done last. HasKept disk d0 d2 done × (2 ^ 40 < j0 + size_of_records (done ++ last ∷ []) + 1))
      (λ done line kept over more. joined_full disk lawful d0 d1 d2 j0 j1 rests0 rests1 still done line kept over more.0) answer out takes
