pub mod Polygons
pub mod Lines
pub mod Claims
pub mod Defaulted
