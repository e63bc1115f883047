pub mod Lists
pub mod Marks
pub mod Junction
pub mod Ends
pub mod Past
pub mod Scan
pub mod Walking
pub mod Cosine
