-- ---- corners
-- the corners of a cell without division, their sum, and how large they are
pub mod CornerLaws
-- ---- the writer
-- a polygon spelled piece by piece, and put into a buffer
pub mod SpellLaws
-- ---- the reader
-- its parts at each of their tests
pub mod ReadLaws
-- what is written is read back, and every other text is refused
pub mod ReadBack
-- how long a text is
pub mod Lengths
-- ---- all operations
-- each contract allows one result alone
pub mod Determined
-- worked examples
pub mod Examples
