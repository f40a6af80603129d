-- What the contracts of private functions need.
pub mod Sources
pub mod RuleChildren
pub mod Leaves
pub mod Frames
pub mod Tokens
pub mod StateNumbers
