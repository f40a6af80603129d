-- ---- the code that folds
-- the tests of a list of positions, and where in it a position stands
pub mod ListLaws
-- cells as pairs of numbers
pub mod PairLaws
-- the positions of a cell, which stand from an entry on
pub mod BlockLaws
-- what holds of all that lies in a cell, by three cases
pub mod Induction
-- the fold from the front: the largest cell that begins there, and so on
pub mod StepLaws
-- the walk along a list, and the pairs that it stores
pub mod WalkLaws
-- what `fold` answers at each of its tests
pub mod FoldAnswerLaws
-- ---- the code that unfolds
-- the tests of a list of pairs
pub mod PairTestLaws
-- what a number of tests passed says of each
pub mod PassLaws
-- runs of positions, and how many there are
pub mod RunLaws
-- the walk along pairs, and the positions that it stores
pub mod UnfoldLaws
-- what `unfold` answers at each of its tests
pub mod UnfoldAnswerLaws
-- ---- what a fold is
-- unfolding it gives the list back; it is in curve order
pub mod GivenBack
-- it covers the same positions
pub mod Ground
-- no four siblings stand in it
pub mod Siblings
-- no list of cells that covers the same is shorter
pub mod Shortest
-- no other list without four siblings unfolds to the same
pub mod Unique
-- folding four children at a time ends there, and nowhere else
pub mod FoldingLaws
-- ---- what unfolding gives
-- a list of positions, ascending, of what the cells cover
pub mod UnfoldedLists
-- ---- all operations
-- what a call gives has passed its tests, and each undoes the other
pub mod CallLaws
-- each contract allows one result alone
pub mod Determined
-- worked examples
pub mod Examples
