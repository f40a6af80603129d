pub mod Orders
pub mod Triples
