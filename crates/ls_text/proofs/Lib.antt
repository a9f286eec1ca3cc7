pub mod Growth
pub mod Tables
pub mod Refused
pub mod Shown
pub mod Cases
pub mod Lists
pub mod Options
pub mod Pieces
