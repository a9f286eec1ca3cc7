pub mod Entries
pub mod Outcome
pub mod Workers
pub mod Passes
pub mod Rises
pub mod Settles
pub mod Counted
