pub mod LayerLaws
pub mod LoopLaws
pub mod Ranges
pub mod Raised
pub mod TableLaws
pub mod Calm
