-- What the contracts of private functions need.
pub mod Marks
pub mod Pens
