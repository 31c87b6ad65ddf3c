pub mod Cuts
pub mod Lists
