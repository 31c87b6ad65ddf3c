pub mod Scan
pub mod Fronts
pub mod Fields
pub mod Sizes
pub mod Messages
pub mod Causes
pub mod Reading
pub mod Written
