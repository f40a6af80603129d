-- Why what was asked holds: a theorem for each record of specs/, from the laws of the crates below.

-- ---- calls
-- what is told and what is refused
pub mod ToldLaws
-- every call is answered, or refused by one of its own numbers
pub mod Refused
-- a refused call changes no lent buffer
pub mod Kept
-- ---- the lattice and the curve
-- the inverse of corner sums, exactly
pub mod Inverse
-- every in-bounds triple is named exactly once, over triples alone
pub mod ExactlyOnce
-- the looks of a lookup, as it reports them
pub mod Counted
-- why the threshold of its separators is safe
pub mod SafeThresholds
-- the walk by child steps reaches the cell that s names
pub mod Steps
-- the triple of a point is in bounds
pub mod Rounded
-- and by exact fractions
pub mod RoundedExactly
-- ---- any grammar
-- what the compiler leaves in a part of a table, descended there, is the drawing
pub mod Drawn
-- each part of a table is a table of its own
pub mod Parted
-- some parts, computed
pub mod PartExamples
-- ---- drawings without tables
-- a drawing lists the cells that the descent over A5's table gives
pub mod Sketched
-- ---- codes
-- a code that was written reads back
pub mod ReadBack
-- an old code names the cell that it named
pub mod Turned
-- codes from their first byte to their last
pub mod WholeCodes
-- ---- folding
-- what a fold is, and that unfolding undoes it
pub mod Folded
-- areas: unions, intersections and differences
pub mod AreaDemands
-- lists of codes, mended
pub mod Mended
-- and treated lists, checked
pub mod Claimed
-- ---- polygons
-- a polygon is its cell's and no other's
pub mod Ringed
-- ---- the dozen, and the whole
-- the twelve worked examples
pub mod TwelveCases
-- all that was asked, as one theorem
pub mod Asked
