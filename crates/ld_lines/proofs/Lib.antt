pub mod Passing
pub mod Arrays
pub mod Ranges
pub mod Feeds
pub mod Pieces
pub mod Cuts
pub mod Handing
pub mod Handed
