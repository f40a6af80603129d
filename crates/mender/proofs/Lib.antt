-- a walk along a piece, step by step
pub mod CarryLaws
