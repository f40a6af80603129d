pub mod Tiles
pub mod Entries
pub mod Sizes
