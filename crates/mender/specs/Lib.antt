pub mod Carries
pub mod Inside
