pub mod Listed
pub mod Placed
pub mod PlainValues
pub mod Printable
pub mod RefusalTexts
pub mod SeenInRuns
pub mod ShortNames
pub mod Told
