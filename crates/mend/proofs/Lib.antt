-- ---- one piece
-- the piece at the front, by cases, and how long it is
pub mod PieceLaws
-- the plan for it, from what the code has in hand
pub mod PlanLaws
-- how a change is told
pub mod ChangeLaws
-- ---- the list
-- piece after piece
pub mod Pieces
-- the calls' answers, and the loop that mends
pub mod WalkLaws
-- what is mended is sound, and what is sound is given back
pub mod Mended
-- each line tells of what begins at its offset
pub mod Offsets
-- a list that comes in parts
pub mod Fronts
-- ---- all operations
-- each contract allows one result alone
pub mod Determined
-- worked examples
pub mod Examples
