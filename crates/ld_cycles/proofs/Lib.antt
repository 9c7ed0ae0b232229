pub mod Bounded
pub mod Counted
pub mod CycleLaws
pub mod Rounds
