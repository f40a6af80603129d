pub mod Refusals
pub mod Lent
pub mod Domain
pub mod Orientations
pub mod Triples
