pub mod Types
pub mod Faces
pub mod Read
pub mod Code
pub mod Claims
