pub mod Plane
pub mod Letters
pub mod Walk
pub mod Corners
pub mod Inside
