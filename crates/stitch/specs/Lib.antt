pub mod Stitch
pub mod Claim
pub mod Code
pub mod Entry
pub mod Comparisons
pub mod Ways
