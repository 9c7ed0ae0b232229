mod Alike
mod Answering
mod AnsweringGlobals
mod Declared
mod Differing
mod Named
mod NewUnit
mod PropertyWalk
mod Published
mod Serving
mod Setting
mod Stamps
pub mod Counting
pub mod Isolation
pub mod LawsRefused
pub mod LawsReplies
pub mod OwnValues
pub mod SeatsOfWorlds
