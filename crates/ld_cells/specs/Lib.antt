pub mod Stored
pub mod Recorded
