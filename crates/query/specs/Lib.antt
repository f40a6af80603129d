pub mod Queries
pub mod Lines
pub mod Prints
pub mod Inside
