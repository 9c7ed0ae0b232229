pub mod Ascii
pub mod Identifiers
pub mod Pieces
