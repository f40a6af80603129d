pub mod Footprints
pub mod Spots
