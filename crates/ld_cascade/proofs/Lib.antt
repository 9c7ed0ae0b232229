mod Sets
pub mod Sums
pub mod Sweeps
pub mod Edges
pub mod Weights
mod Goings
mod Visits
mod Linking
mod Binding
mod Sweeping
mod Turns
pub mod Told
pub mod Prefixes
pub mod Spending
pub mod Restoring
pub mod Touching
mod Walking
