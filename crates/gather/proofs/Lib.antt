pub mod Claims
pub mod Defaulted
pub mod Stitching
pub mod Alone
