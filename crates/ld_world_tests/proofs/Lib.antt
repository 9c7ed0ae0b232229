pub mod Declaring
pub mod Given
