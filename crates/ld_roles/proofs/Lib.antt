pub mod RolePaths
pub mod Numbers
pub mod Seating
pub mod People
pub mod Shortages
pub mod Savepoints
