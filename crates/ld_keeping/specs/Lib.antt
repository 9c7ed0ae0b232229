pub mod Journaling
pub mod InJournal
pub mod InputLines
pub mod Applying
pub mod Keeping
pub mod Turns
pub mod Endings
pub mod Working
