pub mod Edges
pub mod Points
pub mod Adding
pub mod Welding
pub mod Comparisons
