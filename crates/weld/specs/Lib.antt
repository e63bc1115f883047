pub mod Weld
pub mod Code
