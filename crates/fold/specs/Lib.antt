pub mod Cells
pub mod Folds
pub mod Unfolds
pub mod Foldings
pub mod Inside
