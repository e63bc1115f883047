pub mod PlaneCell
pub mod Defaulted
pub mod Code
