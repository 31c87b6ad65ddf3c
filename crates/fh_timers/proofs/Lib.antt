pub mod Numbering
pub mod Times
pub mod Lawful
