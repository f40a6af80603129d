-- ---- the way down a lent table
-- its tests, entry by entry
pub mod TableTestLaws
-- the states of a readable table, level by level
pub mod LevelStateLaws
-- ---- the contract
-- it allows one answer alone
pub mod Determined
