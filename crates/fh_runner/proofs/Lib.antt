pub mod Unavailable
pub mod Ways
