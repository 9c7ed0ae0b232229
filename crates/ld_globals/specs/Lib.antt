pub mod Answers
pub mod Declarations
pub mod Kept
pub mod Recent
pub mod Store
pub mod Given
