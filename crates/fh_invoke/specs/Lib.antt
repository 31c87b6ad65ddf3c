pub mod Knowing
pub mod Outcomes
pub mod Outputs
pub mod Printing
pub mod Replies
pub mod Requests
pub mod Subjects
pub mod Texts
