pub mod Part
pub mod Asks
pub mod Rules
pub mod Acts
pub mod Outcome
pub mod Edits
pub mod Faults
pub mod Laws
