pub mod Amounts
pub mod Computed
pub mod Counting
pub mod Naming
pub mod Playing
