pub mod Gather
pub mod Defaulted
pub mod Comparisons
