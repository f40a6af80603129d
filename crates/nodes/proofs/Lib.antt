-- ---- the descent
-- what the code reads off its words is A5's table
pub mod A5Reads
-- places, and what following the table reaches
pub mod DescentLaws
-- ---- nodes
-- which floats are good positions
pub mod NodePositions
-- which frames and nodes are good, and their places
pub mod NodeLaws
-- the child step, case by case
pub mod ChildLaws
-- r steps reach the cell that s names
pub mod NodeWalk
-- the frame below a cell, in one descent
pub mod NodeBelow
-- a step that is answered stays in its walk
pub mod AnsweredSteps
-- the motif of every node that is answered
pub mod NodeMotifs
-- ---- all operations
-- each contract allows one result alone
pub mod Determined
-- worked examples
pub mod Examples
