pub mod Keys
pub mod Firsts
pub mod Rows
pub mod Walking
pub mod InRows
pub mod Numbers
