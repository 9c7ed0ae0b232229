pub mod Row
pub mod Lamps
pub mod Settled
