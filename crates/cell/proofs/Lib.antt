pub mod Polyhedron
pub mod Inside
pub mod Gathering
pub mod Answers
pub mod Polygon
pub mod Bounds
pub mod Alike
pub mod Told
