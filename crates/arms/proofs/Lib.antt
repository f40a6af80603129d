pub mod Table
pub mod Lookup
pub mod Array
