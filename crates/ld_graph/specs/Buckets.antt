use Rattle.std.specs.Prelude.{◌≡◌, ◌≢◌, ℕ, ◌-◌, ◌*◌, ◌/◌, ◌^◌, bit_and, ◌<◌, ◌≤◌, ◌⊎◌, List, length, get_or}
use Rattle.ld_graph.specs.Slots.{AreDistinct}

-- the bucket that a slot falls into: a mask, which is one less than their number, leaves the lower bits
unfoldable pub bucket_of : ℕ → ℕ → ℕ
bucket_of slot buckets = bit_and (slot * 2654435761 / 2 ^ 16) (buckets - 1)

-- the bucket of a slot of the list
abbrev pub bucket_at : List ℕ → ℕ → ℕ → ℕ
bucket_at slots buckets index = bucket_of (get_or slots index 0) buckets

-- of the slots below an index the link names the last one of the bucket, as its index and one, or 0 for none
pub record LastBelow (slots : List ℕ) (buckets bound bucket link : ℕ) : Type 0 where
  pub within : link ≤ bound
  pub own : 0 < link → bucket_at slots buckets (link - 1) ≡ bucket
  pub past : (j : ℕ) → link ≤ j → j < bound → bucket_at slots buckets j ≢ bucket

-- a list of distinct slots, with the last slot of each bucket and, for each slot, the one before it in its bucket
pub record IsIndexed (slots before heads : List ℕ) : Type 0 where
  pub distinct : AreDistinct slots
  pub lengths : length before ≡ length slots
  pub lasts : (b : ℕ) → b < length heads → LastBelow slots (length heads) (length slots) b (get_or heads b 0)
  pub befores : (p : ℕ) → p < length slots → LastBelow slots (length heads) p (bucket_at slots (length heads) p) (get_or before p 0)

-- such a list with a bound on its length, and room for as many in its vectors; where it has room, it has buckets
pub record IsSlotList (slots before heads : List ℕ) (room slots_room before_room : ℕ) : Type 0 where
  pub indexed : IsIndexed slots before heads
  pub fits : room < 2 ^ 32
  pub within : length slots ≤ room
  pub buckets : 0 < room → 0 < length heads
  pub slots_within : room ≤ slots_room
  pub before_within : room ≤ before_room

-- the buckets of the first `count` slots of a list are empty, and the others as they were or empty
pub record Emptied (slots old heads : List ℕ) (count : ℕ) : Type 0 where
  pub len : length heads ≡ length old
  pub gone : (k : ℕ) → k < count → get_or heads (bucket_at slots (length old) k) 0 ≡ 0
  pub others : (b : ℕ) → (get_or heads b 0 ≡ 0) ⊎ (get_or heads b 0 ≡ get_or old b 0)
