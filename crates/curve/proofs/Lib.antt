-- ---- coordinates
-- which numbers are near
pub mod NearLaws
-- the floor from the bits
pub mod FloorLaws
-- ---- points
-- each step of the rounding, and that what it gives is in bounds
pub mod PointLaws
-- whether a point was moved, and what that says
pub mod MoveLaws
-- ---- exact fractions
-- parts of 1 over powers of two: comparisons and sums
pub mod PartLaws
-- exact fractions: from the bits, and above the floor
pub mod FractionLaws
-- a fraction below 1, rounded to an f64
pub mod RoundedFractions
-- where the two parities differ
pub mod TwoParities
-- points by exact fractions: in bounds, moved exactly, in their triangle
pub mod ExactLaws
-- ---- each contract, and the examples
-- each contract allows one answer alone
pub mod Determined
-- worked examples
pub mod Examples
