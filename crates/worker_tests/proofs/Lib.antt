pub mod Spoken
pub mod Settles
pub mod Beginning
