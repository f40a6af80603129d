-- ---- bits and bytes, in arithmetic
-- bits and the numbers that they write
pub mod BitLaws
-- bytes and their bits, and bytes joined one after another
pub mod ByteLaws
-- ---- the code
-- its bytes, as numbers
pub mod CodeLaws
-- the orientations that are written no more
pub mod TurnLaws
-- the writer at each of its tests, and the loop that writes
pub mod WriteLaws
-- the reader at each of its tests but the last
pub mod ReadLaws
-- spare bits, and the reader's last test
pub mod SpareLaws
-- a code has one spelling
pub mod Canonical
-- the reader looks at no byte behind the ninth
pub mod FrontLaws
-- what is written is read back
pub mod RoundTrip
-- ---- all operations
-- each contract allows one result alone
pub mod Determined
-- worked examples
pub mod Examples
