pub mod Root
pub mod Code
