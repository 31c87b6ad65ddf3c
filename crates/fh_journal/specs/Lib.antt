pub mod Frames
pub mod Journal
pub mod Keeping
pub mod Mounting
pub mod Reading
