pub mod Cuts
pub mod Scaled
pub mod Lines
pub mod Defaulted
pub mod Comparisons
pub mod Code
