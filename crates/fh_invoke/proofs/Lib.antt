pub mod NameTexts
pub mod NoFloats
pub mod Sending
