pub mod Least
pub mod Readers
