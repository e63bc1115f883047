pub mod Number
pub mod Vector
pub mod Rows
pub mod Tolerance
pub mod Scaled
