pub mod Rows
pub mod EntryLaws
pub mod TableLaws
pub mod WalkLaws
pub mod SearchLaws
pub mod TileLaws
