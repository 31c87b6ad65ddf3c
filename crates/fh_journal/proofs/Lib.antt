pub mod Bytes
pub mod Gates
pub mod Kept
pub mod Making
pub mod Readings
pub mod Since
pub mod Walk
