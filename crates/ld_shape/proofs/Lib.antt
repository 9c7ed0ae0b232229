pub mod Depths
pub mod Formed
pub mod Known
pub mod Pairs
pub mod Passing
pub mod Recursive
