pub mod Faults
pub mod Operators
pub mod PropertyFaults
pub mod TermFaults
pub mod Types
pub mod Typing
pub mod TypingView
