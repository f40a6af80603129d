-- ---- refusals
-- what is told has passed every test
pub mod RefusalLaws
-- ---- lent slices
-- how many values were written, by which status, and what the slice has then
pub mod LentLaws
-- ---- the domain and its orientations
-- the two tests that come first, and how many rows and positions there are
pub mod DomainLaws
-- recipes, and places counted from either end
pub mod OrientationLaws
-- ---- triples
-- sums, bounds, parities and flavors, case by case
pub mod TripleLaws
-- ---- all operations
-- each contract allows one answer alone
pub mod Determined
