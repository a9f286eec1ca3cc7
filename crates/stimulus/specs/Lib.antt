pub mod Rows
pub mod SameRows
pub mod Places
pub mod Settings
pub mod Runs
pub mod Records
