pub mod Polygons
pub mod Inside
