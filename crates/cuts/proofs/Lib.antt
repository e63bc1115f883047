pub mod Placed
pub mod Scaled
pub mod Sizes
pub mod Copying
pub mod Cutting
pub mod Segments
pub mod Answers
pub mod Defaulted
