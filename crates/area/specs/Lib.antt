pub mod Areas
pub mod Inside
