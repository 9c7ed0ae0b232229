-- The numbers and words of the endings of a call.
use Rattle.std.specs.Prelude.{ℕ, List, codes, [], ◌∷◌, IsTrue, ◌==◌}
use Rattle.std.specs.List.{list_any}
use Rattle.ld_top.specs.declared.ending.Ending.{Ending}
use Rattle.ld_top.specs.declared.ending.Ending.TheVariants.{Done, BadWords, ShelfFault, UnitRefused, ReadFault, WriteFault, NoMemory, InputTooLong, DiskFault, JournalDiffers, JournalFull}

-- The status of each ending.
abbrev pub number_of : Ending → ℕ
number_of Done = 0
number_of BadWords = 2
number_of ShelfFault = 3
number_of UnitRefused = 4
number_of ReadFault = 5
number_of WriteFault = 6
number_of NoMemory = 7
number_of InputTooLong = 8
number_of DiskFault = 9
number_of JournalDiffers = 10
number_of JournalFull = 11

-- The word that is written on standard error; none where the form was done.
abbrev pub ending_word : Ending → List ℕ
ending_word Done = []
ending_word BadWords = codes "bad-words"
ending_word ShelfFault = codes "shelf-fault"
ending_word UnitRefused = codes "unit-refused"
ending_word ReadFault = codes "read-fault"
ending_word WriteFault = codes "write-fault"
ending_word NoMemory = codes "no-memory"
ending_word InputTooLong = codes "input-too-long"
ending_word DiskFault = codes "disk-fault"
ending_word JournalDiffers = codes "journal-differs"
ending_word JournalFull = codes "journal-full"

-- The number is one of these.
abbrev pub IsOneOf : List ℕ → ℕ → Type 0
IsOneOf numbers n = IsTrue (list_any (λ m. m == n) numbers)

-- The numbers that a call can end with.
abbrev pub IsStatus : ℕ → Type 0
IsStatus = IsOneOf (0 ∷ 2 ∷ 3 ∷ 4 ∷ 5 ∷ 6 ∷ 7 ∷ 8 ∷ 9 ∷ 10 ∷ 11 ∷ [])

-- Those of them that a call without a journal can end with.
abbrev pub IsPlainStatus : ℕ → Type 0
IsPlainStatus = IsOneOf (0 ∷ 2 ∷ 3 ∷ 4 ∷ 5 ∷ 6 ∷ 7 ∷ 8 ∷ [])

-- With these numbers nothing was written.
abbrev pub NothingWritten : ℕ → Type 0
NothingWritten = IsOneOf (2 ∷ 3 ∷ 7 ∷ [])

-- With these numbers nothing was taken from the source.
abbrev pub NothingTaken : ℕ → Type 0
NothingTaken = IsOneOf (2 ∷ 3 ∷ 4 ∷ 7 ∷ 10 ∷ [])

-- With these numbers no line was kept in a journal.
abbrev pub NothingKept : ℕ → Type 0
NothingKept = IsOneOf (2 ∷ 3 ∷ 4 ∷ 7 ∷ 10 ∷ [])

-- With these numbers the disk was not called.
abbrev pub NotOpened : ℕ → Type 0
NotOpened = IsOneOf (2 ∷ 3 ∷ 4 ∷ [])

-- The ending has one of these numbers.
abbrev pub EndsWith : List ℕ → Ending → Type 0
EndsWith numbers ending = IsOneOf numbers (number_of ending)

-- How a refusal of the folder can end.
abbrev pub IsRefusalEnding : Ending → Type 0
IsRefusalEnding = EndsWith (4 ∷ 6 ∷ 7 ∷ [])

-- How a replay can end.
abbrev pub IsReplayEnding : Ending → Type 0
IsReplayEnding = EndsWith (0 ∷ 5 ∷ 6 ∷ 7 ∷ 8 ∷ [])

-- How a call that publishes folders and answers lines can end.
abbrev pub IsCallEnding : Ending → Type 0
IsCallEnding = EndsWith (0 ∷ 3 ∷ 4 ∷ 5 ∷ 6 ∷ 7 ∷ 8 ∷ [])

-- How a report on a folder can end.
abbrev pub IsReportEnding : Ending → Type 0
IsReportEnding = EndsWith (0 ∷ 3 ∷ 4 ∷ 6 ∷ 7 ∷ [])

-- How a call of the generator can end.
abbrev pub IsGeneratorEnding : Ending → Type 0
IsGeneratorEnding = EndsWith (0 ∷ 6 ∷ 7 ∷ [])

-- How a call that answers lines over a journal can end.
abbrev pub IsKeepEnding : Ending → Type 0
IsKeepEnding = EndsWith (0 ∷ 3 ∷ 4 ∷ 5 ∷ 6 ∷ 7 ∷ 8 ∷ 9 ∷ 10 ∷ 11 ∷ [])

-- How it can end once all folders are published.
abbrev pub IsJournalEnding : Ending → Type 0
IsJournalEnding = EndsWith (0 ∷ 5 ∷ 6 ∷ 7 ∷ 8 ∷ 9 ∷ 10 ∷ 11 ∷ [])
