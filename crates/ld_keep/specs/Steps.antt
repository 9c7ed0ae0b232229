-- The writes and syncs of a disk in memory, as they are kept.
use Rattle.std.specs.Prelude.{ℕ, ◌+◌, ◌-◌, ◌≤◌, List, [], ◌∷◌, length, take, drop, reverse, ◌≡◌, vec_len, vec_capacity}
use Rattle.ld_keep.specs.Disk.{overwritten}
use Rattle.ld_keep.specs.Past.{DiskCall, Wrote, Synced, IsPast, bytes_after, unsynced}
use Rattle.ld_keep.specs.MemoryState.{MemoryState}
use Rattle.ld_keep.specs.declared.step.Step.{Step}
use Rattle.ld_keep.specs.declared.step.Step.TheVariants.{Write, Sync}
use Rattle.ld_keep.specs.declared.memory_disk.MemoryDisk.TheInside.{Inside}

-- The calls, the newest first, of whose writes these are all the bytes.
abbrev pub past_of : List Step → List ℕ → List DiskCall
past_of [] written = []
past_of (Write at count ∷ steps) written = Wrote at (drop (length written - count) written) ∷ past_of steps (take (length written - count) written)
past_of (Sync ∷ steps) written = Synced ∷ past_of steps written

-- How many bytes they wrote.
abbrev pub count_of : List Step → ℕ
count_of [] = 0
count_of (Write at count ∷ steps) = count_of steps + count
count_of (Sync ∷ steps) = count_of steps

-- The bytes after one more of them, of which the first `left` of its own bytes stand.
abbrev pub redone : Step → List ℕ → ℕ → List ℕ → List ℕ
redone (Write at count) piece left bytes = overwritten at (take left piece) bytes
redone Sync piece left bytes = bytes

-- How many bytes one of them wrote.
abbrev pub step_count : Step → ℕ
step_count (Write at count) = count
step_count Sync = 0

-- What a disk in memory means.
abbrev pub memory_state : Inside → MemoryState
memory_state s = record {
  first = s.first.items;
  past = past_of (reverse s.steps.items) s.written.items;
  room = s.room;
  spent = s.spent;
  calls = s.calls;
}

-- What is always so.
pub record IsWhole (s : Inside) : Type 0 where
  pub bytes : s.bytes.items ≡ bytes_after s.first.items (past_of (reverse s.steps.items) s.written.items)
  pub past : IsPast s.first.items (past_of (reverse s.steps.items) s.written.items)
  pub counted : count_of s.steps.items ≡ vec_len s.written
  pub unsynced : s.synced + unsynced (past_of (reverse s.steps.items) s.written.items) ≡ vec_len s.written
  pub spent : s.spent ≤ s.room
  pub size : vec_len s.bytes ≤ vec_len s.first + vec_len s.written
  pub room_first : vec_len s.first + vec_len s.written + (s.room - s.spent) ≤ vec_capacity s.first
  pub room_bytes : vec_len s.first + vec_len s.written + (s.room - s.spent) ≤ vec_capacity s.bytes
  pub room_written : vec_len s.written + (s.room - s.spent) ≤ vec_capacity s.written
  pub room_steps : vec_len s.steps + (s.room - s.spent) ≤ vec_capacity s.steps
