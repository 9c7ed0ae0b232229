pub mod ExpressionSizes
pub mod PlaceLaws
pub mod WalkLaws
