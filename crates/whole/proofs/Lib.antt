-- ---- tests and tables
-- what two flags say together
pub mod Bools
-- lists of comparisons of whole numbers
pub mod TestLaws
-- when two whole numbers are the same
pub mod Equals
-- claims about a table, proved by computing them all
pub mod Claims
-- what is left behind the arms of a match
pub mod Arms
-- ---- lists
-- members by their places, and functions with the same first values
pub mod Lists
-- a slice that is filled from its front
pub mod Fill
-- parts of a slice
pub mod Slices
-- ---- natural numbers
-- powers of four by powers of two
pub mod Powers
-- digits to the base 4
pub mod Digits
-- equal fractions, rounded
pub mod Fractions
-- ---- whole numbers with a sign
-- each is a difference of two natural numbers
pub mod Parts
-- each seen with its bounds, as the machine computes it
pub mod View
-- products of variables
pub mod Ring
-- ---- floats
-- of bounded size, and whole ones
pub mod Floats
