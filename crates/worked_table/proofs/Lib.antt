pub mod Table
pub mod Nan
