pub mod Walk
pub mod Code
