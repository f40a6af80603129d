pub mod Treated
pub mod Claims
pub mod Answers
pub mod Inside
