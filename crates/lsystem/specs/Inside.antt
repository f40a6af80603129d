pub mod Rooms
pub mod CellParts
