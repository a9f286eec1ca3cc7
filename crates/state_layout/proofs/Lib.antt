pub mod SlotWords
pub mod Numbers
pub mod Splices
pub mod Registers
pub mod Views
pub mod Layouts
