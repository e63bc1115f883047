pub mod Claims
pub mod Defaulted
pub mod Comparisons
pub mod Ways
