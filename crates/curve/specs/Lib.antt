pub mod Points
pub mod ExactPoints
pub mod Inside
