pub mod Clip
pub mod Cell
pub mod Clear
pub mod Defaulted
pub mod Code
pub mod View
