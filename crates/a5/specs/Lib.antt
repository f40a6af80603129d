pub mod A5
pub mod A5Table
pub mod Lookup
pub mod Inside
