pub mod Lookups
pub mod Thresholds
pub mod Demands
pub mod Dozen
pub mod Parts
pub mod TreatedLists
pub mod Areas
