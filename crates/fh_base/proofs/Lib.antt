pub mod Appending
pub mod NameLengths
pub mod Numbers
pub mod Padding
pub mod PoisonNames
pub mod Days
pub mod Utf8
