mod Masks
pub mod Knowing
pub mod Whole
mod Legal
mod Leading
pub mod Finding
mod Listing
mod Called
