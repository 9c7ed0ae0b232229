pub mod Layers
pub mod Loops
pub mod Tables
pub mod Ranked
pub mod Raising
