-- ---- the drawing
-- the descent of a grammar finds the cell at every place of its drawing
pub mod Descents
-- what each entry of a grammar's table is
pub mod Entries
-- so does following its table
pub mod Follow
-- and of every text that is accepted
pub mod Drawing
-- ---- following any table
-- with the place in units of its own level
pub mod HornerLaws
-- what a readable state's tests say
pub mod ReadableLaws
-- ---- the table of an accepted text
-- how large its numbers are
pub mod SizeLaws
-- it is readable, and descends
pub mod Compiled
-- texts at fault
pub mod Examples
-- ---- the compiler
-- a source's tokens, and the words of a letter
pub mod SourceLaws
-- the children along a rule
pub mod RuleChildLaws
-- the cells along a token's strokes
pub mod LeafLaws
-- a state's children in its frame
pub mod FrameLaws
-- a state's numbers, one by one
pub mod StateNumberLaws
-- a state's splits and its row
pub mod StateLaws
-- 20 of the lines
pub mod UnsplitLaws
-- the states written one after the other
pub mod StateWriteLaws
-- a part that is read back from a table, and what writing one leaves outside it
pub mod PartLaws
-- what the compiler answers
pub mod CompilerLaws
-- its contract allows one answer and one table alone
pub mod CompileDetermined
-- ---- parts of a table
-- what stands outside a part is neither written nor looked at
pub mod PartsAlone
