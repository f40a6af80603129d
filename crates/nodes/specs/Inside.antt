-- What the contracts of private functions need.
pub mod Words
pub mod Descents
