pub mod Dates
pub mod Fields
pub mod Names
pub mod Pieces
pub mod Schedule
pub mod Search
pub mod Sets
pub mod Texts
