-- What the contracts of private functions need.
pub mod Reading
pub mod Putting
