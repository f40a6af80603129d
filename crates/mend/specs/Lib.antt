pub mod Mends
pub mod Inside
