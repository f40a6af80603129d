pub mod Drawings
pub mod Inside
