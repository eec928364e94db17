mod ReadSteps
mod Options
mod Distinct
mod KeysDiffer
mod Given
mod Rules
mod Law
