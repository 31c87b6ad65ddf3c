pub mod Parts
pub mod Places
pub mod Order
pub mod Spans
pub mod Lawful
