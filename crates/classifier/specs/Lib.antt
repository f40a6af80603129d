pub mod Hulls
pub mod Splits
pub mod Shapes
pub mod Inside
