-- How the answering of lines over a journal ends, as the ending of a call.
use Rattle.std.specs.Prelude.{Option, Some, None}
use Rattle.ld_keeping.specs.declared.ending.KeepEnding.{KeepEnding}
use Rattle.ld_keeping.specs.declared.ending.KeepEnding.TheVariants.{Done as AllDone, ReadFault as Unread, WriteFault as Unwritten, NoMemory as Roomless, InputTooLong as TooLong, DiskFault as Unkept, JournalDiffers as Differs, JournalFull as Full}
use Rattle.ld_top.specs.declared.ending.Ending.{Ending}
use Rattle.ld_top.specs.declared.ending.Ending.TheVariants.{Done, BadWords, ShelfFault, UnitRefused, ReadFault, WriteFault, NoMemory, InputTooLong, DiskFault, JournalDiffers, JournalFull}

-- The ending of a call whose lines were answered over a journal.
abbrev pub ending_of : KeepEnding → Ending
ending_of AllDone = Done
ending_of Unread = ReadFault
ending_of Unwritten = WriteFault
ending_of Roomless = NoMemory
ending_of TooLong = InputTooLong
ending_of Unkept = DiskFault
ending_of Differs = JournalDiffers
ending_of Full = JournalFull

-- The other way; none where a call ends so before its journal is opened.
abbrev pub ending_behind : Ending → Option KeepEnding
ending_behind Done = Some AllDone
ending_behind BadWords = None
ending_behind ShelfFault = None
ending_behind UnitRefused = None
ending_behind ReadFault = Some Unread
ending_behind WriteFault = Some Unwritten
ending_behind NoMemory = Some Roomless
ending_behind InputTooLong = Some TooLong
ending_behind DiskFault = Some Unkept
ending_behind JournalDiffers = Some Differs
ending_behind JournalFull = Some Full
