-- ---- calls with one kind of value
-- values with a sign, stored one by one
pub mod SignedLaws
-- what is made of the numbers that a call is given
pub mod GivenLaws
-- a status by the count that an operation answers
pub mod CountedLaws
-- ---- areas
-- a flag as its number
pub mod AreaCallLaws
-- a report, where the count has a place and where it has none
pub mod ReportCallLaws
-- ---- mending
-- values to one slice, and a few numbers of how many they are to another
pub mod MendLaws
-- ---- treated lists
-- the verdict by what the checker answers
pub mod VerdictLaws
-- ---- the compiler's call
-- faults and lines are few, so that both go into a status
pub mod FaultLaws
-- its table, its number of states and its status, case by case
pub mod CompileLaws
-- ---- all calls
-- each contract allows one result alone
pub mod Determined
-- calls by computation
pub mod Examples
