pub mod GeneratedLines
pub mod GeneratedUnit
pub mod Tallies
