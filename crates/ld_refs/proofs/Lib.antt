pub mod Beyond
pub mod Distinct
pub mod Seen
pub mod SizeSums
pub mod Unrepeated
pub mod ValuesKept
