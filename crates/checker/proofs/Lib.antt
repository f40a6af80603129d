-- the buffer that the list is read into
pub mod RoomLaws
-- the front of what a reader has, and the verdict that it tells
pub mod FrontOfInput
pub mod FrontVerdict
