pub mod Temporary
