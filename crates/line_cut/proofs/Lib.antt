pub mod Corners
pub mod LoopsCut
pub mod Sections
pub mod Claims
pub mod Defaulted
