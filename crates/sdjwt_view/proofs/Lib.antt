pub mod TextParts
pub mod ReadSteps
pub mod Law
