pub mod ExpandedSizes
pub mod FewSteps
pub mod FullActs
pub mod LookSums
pub mod MethodLooks
pub mod PlacesThere
pub mod References
pub mod TargetLooks
