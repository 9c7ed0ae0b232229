-- What a disk in memory has seen since it began with some bytes: its writes and syncs, the newest first.
use Rattle.std.specs.Prelude.{ℕ, ◌+◌, ◌-◌, ◌≤◌, List, [], ◌∷◌, length, take, ◌≡◌, ◌⊎◌}
use Rattle.ld_keep.specs.Disk.{overwritten, Torn}

pub data DiskCall : Type 0 where
  Wrote : (at : ℕ) (piece : List ℕ) → DiskCall
  Synced : DiskCall

-- The bytes now.
abbrev pub bytes_after : List ℕ → List DiskCall → List ℕ
bytes_after first [] = first
bytes_after first (Wrote at piece ∷ past) = overwritten at piece (bytes_after first past)
bytes_after first (Synced ∷ past) = bytes_after first past

-- What a crash now may leave.
abbrev pub MayBeLeft : List ℕ → List DiskCall → List ℕ → Type 0
MayBeLeft first [] image = image ≡ first
MayBeLeft first (Wrote at piece ∷ past) image = (was : List ℕ) × MayBeLeft first past was × Torn at (length piece) was image
MayBeLeft first (Synced ∷ past) image = image ≡ bytes_after first past

-- What a crash may have left when `count` calls were made, or later.
abbrev pub WasLeft : List ℕ → List DiskCall → ℕ → List ℕ → Type 0
WasLeft first [] count image = image ≡ first
WasLeft first (call ∷ past) count image = MayBeLeft first (call ∷ past) image ⊎ ((count ≤ length past) × WasLeft first past count image)

-- Each write began within the bytes of its time.
abbrev pub IsPast : List ℕ → List DiskCall → Type 0
IsPast first [] = Unit {0}
IsPast first (Wrote at piece ∷ past) = (at ≤ length (bytes_after first past)) × IsPast first past
IsPast first (Synced ∷ past) = IsPast first past

-- How many bytes were written since the last sync.
abbrev pub unsynced : List DiskCall → ℕ
unsynced [] = 0
unsynced (Wrote at piece ∷ past) = unsynced past + length piece
unsynced (Synced ∷ past) = 0

-- The image in which the first `kept` bytes that were written since the last sync stand, and the rest is as before.
abbrev pub image_of_first : List ℕ → List DiskCall → ℕ → List ℕ
image_of_first first [] kept = first
image_of_first first (Wrote at piece ∷ past) kept = overwritten at (take (kept - unsynced past) piece) (image_of_first first past kept)
image_of_first first (Synced ∷ past) kept = bytes_after first past

-- How many bytes were written in all.
abbrev pub written_in : List DiskCall → ℕ
written_in [] = 0
written_in (Wrote at piece ∷ past) = written_in past + length piece
written_in (Synced ∷ past) = written_in past

-- The bytes in which the first `limit` of all that were written stand.
abbrev pub replayed : List ℕ → List DiskCall → ℕ → List ℕ
replayed first [] limit = first
replayed first (Wrote at piece ∷ past) limit = overwritten at (take (limit - written_in past) piece) (replayed first past limit)
replayed first (Synced ∷ past) limit = replayed first past limit
