pub mod LineCut
pub mod Defaulted
pub mod Code
