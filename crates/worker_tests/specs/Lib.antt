pub mod Spoken
