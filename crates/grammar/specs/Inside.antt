-- What the contracts of private functions need.
pub mod Places
pub mod Sheets
pub mod RowCuts
pub mod Tallies
pub mod LineTests
pub mod Replacements
