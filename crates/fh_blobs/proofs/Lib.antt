pub mod Texts
pub mod Receipts
pub mod Lawful
pub mod Passing
pub mod Marking
