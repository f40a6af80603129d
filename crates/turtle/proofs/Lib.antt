-- ---- the plane
-- sums and opposites of pairs, and what flips do to them
pub mod PlaneLaws
-- when two pairs are the same
pub mod EqualLaws
-- a pair times a power of two
pub mod ScaleLaws
-- which pairs are far
pub mod LimitLaws
-- ---- the walk
-- what a byte draws, and how short every stroke is
pub mod LetterLaws
-- what a text of bytes draws
pub mod SymbolLaws
-- the cells along a word, from anywhere and turned half about
pub mod WordLaws
-- sizes along a walk, and what a step answers
pub mod WalkLaws
-- each contract of a letter or a step allows one answer alone
pub mod WalkDetermined
-- ---- corner sums
-- a triple and its corner sum name each other
pub mod CornerLaws
-- each contract on pairs and corner sums allows one answer alone
pub mod CornerDetermined
