pub mod AnswersFormed
pub mod StructureNames
