pub mod Calendar
pub mod Datum
pub mod Duration
pub mod Numeral
pub mod Values
