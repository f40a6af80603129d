-- ---- grounds
-- two cells overlap where their grounds meet
pub mod GroundLaws
-- a code judged by grounds
pub mod JudgeLaws
-- ---- the list
-- the verdict, and the loop that finds it
pub mod CheckLaws
-- what the verdict says of all codes at once
pub mod Claimed
-- how many bytes tell it
pub mod FirstBytes
-- ---- the operation
-- its contract allows one result alone
pub mod Determined
-- worked examples
pub mod Examples
