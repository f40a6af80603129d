-- ---- the code
-- cells one after another, and what they hold
pub mod CellLaws
-- a cursor in an area, and one in each of two
pub mod CursorLaws
-- the largest cell at the front of a run
pub mod CutLaws
-- the walk along two areas, and the pairs that it stores
pub mod WalkLaws
-- ---- what is made
-- the positions that a test takes
pub mod PickLaws
-- a fold from a place on
pub mod Along
-- what an operation makes of two areas, and why two folded areas of the same ground are one list
pub mod Made
-- ---- the operations
-- what each covers, and what is true of them as lists
pub mod Operations
-- an area contains a cell where nothing of it is left
pub mod ContainLaws
-- a union and an intersection have no more cells than both areas together
pub mod RoomLaws
-- what the calls answer at each of their tests
pub mod AnswerLaws
-- ---- all operations
-- what a call is told of, and that it takes what another wrote
pub mod Accepted
-- how much what is made covers
pub mod SizeLaws
-- what is true of the calls, one after another
pub mod CallLaws
-- each contract allows one result alone
pub mod Determined
-- worked examples
pub mod Examples
