pub mod Listings
pub mod Modules
pub mod Entries
pub mod Views
