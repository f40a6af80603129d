-- What the contracts of private functions need.
pub mod PointLists
pub mod Places
pub mod Sets
pub mod Gathered
