pub mod CheckParts
pub mod FaultChecks
pub mod LawsRefused
pub mod NamedParts
pub mod OneLook
