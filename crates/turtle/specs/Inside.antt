-- What the contracts of private functions need.
pub mod Sizes
pub mod Candidates
