pub mod Seen
pub mod Visits
pub mod Passed
pub mod Settled
