pub mod Between
pub mod Calls
pub mod Filling
pub mod Images
pub mod Moments
pub mod Told
pub mod Torn
pub mod Zeros
