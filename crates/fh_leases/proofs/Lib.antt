pub mod Owned
pub mod Naming
pub mod Telling
pub mod Lawful
