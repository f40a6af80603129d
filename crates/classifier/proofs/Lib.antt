-- ---- numbers of the machine
-- what a comparison or a difference of machine integers is worth
pub mod ComparisonLaws
-- ---- searches
-- along a list, and calls at each index
pub mod SearchLaws
-- ---- hulls
-- lists with (0, 0) behind them, and writes at their end
pub mod PaddedLaws
-- the points of a hull
pub mod HullLaws
-- points in the first places of an array
pub mod PointLaws
-- how long chains and hulls are
pub mod HullSizes
-- a chain of points, the halves of a hull, and the hull
pub mod ChainLaws
-- a chain of points, the halves of a hull, and the hull
-- ---- footprints and lines
-- the corners of a placed footprint
pub mod PolygonLaws
-- the line through two corners, and a point's value by it
pub mod LineValueLaws
-- ---- splits
-- sets of children
pub mod SetLaws
-- the edges in order, and the first that splits cleanly
pub mod EdgeLaws
-- the tree of splits
pub mod TreeLaws
-- the lines gathered along a tree, and the child that a pattern leads to
pub mod GatherLaws
-- each contract allows one answer alone
pub mod Determined
