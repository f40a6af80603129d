pub mod Blocks
pub mod Pairs
