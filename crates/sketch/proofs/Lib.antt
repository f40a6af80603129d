-- ---- the walk
-- what a word comes to with some passes left, and A5's words as the code has them
pub mod MarkLaws
-- the pen and the buffer after words one after the other, and their room
pub mod PenLaws
-- a step of the pen
pub mod PutLaws
-- a word walked byte by byte, from either end
pub mod WalkLaws
-- where the walk starts
pub mod StartLaws
-- ---- the drawing
-- a buffer filled by fours, from either end
pub mod FillLaws
-- the cells of the walk are those of the positions
pub mod CellLaws
-- what the call gives at each of its tests
pub mod DrawLaws
-- place by place it is what the descent over A5's compiled table gives
pub mod SecondOpinion
-- the contract allows one answer and one buffer alone
pub mod Determined
-- examples, by computation
pub mod Examples
