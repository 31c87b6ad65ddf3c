pub mod InnerNames
pub mod Configuring
pub mod Naming
pub mod Filters
pub mod Jobs
pub mod Keys
pub mod InTurn
pub mod Indexes
pub mod Dues
pub mod Scheduled
mod Ways
mod JobLaws
mod FetchLaws
pub mod Lawful
pub mod Comparing
pub mod FirstJobs
pub mod Ruled
pub mod InWork
pub mod Asking
pub mod Refusing
pub mod Beginning
pub mod Renewing
