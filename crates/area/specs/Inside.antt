pub mod Cursors
pub mod Rooms
