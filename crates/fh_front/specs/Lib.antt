pub mod Answers
pub mod Paths
pub mod Queries
pub mod Routes
pub mod Commands
pub mod Responses
