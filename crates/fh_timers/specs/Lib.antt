pub mod Part
pub mod Runs
pub mod Acts
pub mod Outcome
pub mod Edits
pub mod Laws
