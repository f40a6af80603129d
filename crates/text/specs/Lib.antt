pub mod Words
pub mod Digits
pub mod Decimals
pub mod Patterns
pub mod Puts
pub mod Inside
