pub mod Listings
pub mod Copies
pub mod Names
pub mod Searches
pub mod Faults
