pub mod LineReading
pub mod Crashes
pub mod Turning
pub mod Decoding
pub mod Printing
